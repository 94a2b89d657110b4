-- `check_objects::objects::bodies_fit` meets its contract: so far each body is of its method's type.
use mathlib.Core.Path.{◌≡◌}
use lib.ListN.{drop}
use Rattle.image.specs.Kinds.{TermKind}
use Rattle.image.specs.Layout.{records_of}
use Rattle.verdict.specs.Rules.{bodies_fit}
use Rattle.verdict.specs.Check.{describe, described}
use Rattle.read_terms.specs.Fields.{types_in}
use Rattle.check_objects.proofs.objects.bodies_fit.Given as goal

abbrev pub invariant-loop-i : goal.invariant-loop-i
invariant-loop-i l =
    bodies_fit (describe (records_of l.image) l.t.0) l.i (described (records_of l.image) (drop l.i (types_in l.image l.fields TermKind.obj))) ≡ bodies_fit (describe (records_of l.image) l.t.0) 0 (described (records_of l.image) (types_in l.image l.fields TermKind.obj))
