-- `check_core::watches::labels_fit` meets its contract.
use Rattle.std.specs.Prelude.{◌≡◌, drop}
use Rattle.laws.specs.Tests.{all_of}
use Rattle.image.specs.Kinds.{TermKind}
use Rattle.read_terms.specs.Fields.{types_in}
use Rattle.check_rules.specs.Judged.{label_of}
use Rattle.check_core.proofs.watches.labels_fit.Given as goal

abbrev pub invariant-loop-i : goal.invariant-loop-i
invariant-loop-i l = all_of (label_of l.descriptors l.a.0) (drop l.i (types_in l.image l.fields TermKind.pcd)) ≡ all_of (label_of l.descriptors l.a.0) (types_in l.image l.fields TermKind.pcd)
