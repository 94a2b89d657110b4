-- `check_core::watches::labels_above` meets its contract.
use Rattle.std.specs.Prelude.{◌≡◌, drop}
use Rattle.laws.specs.Tests.{all_of}
use Rattle.image.specs.Kinds.{TermKind}
use Rattle.read_terms.specs.Fields.{types_in}
use Rattle.check_rules.specs.Judged.{label_above}
use Rattle.check_core.proofs.watches.labels_above.Given as goal

abbrev pub invariant-loop-i : goal.invariant-loop-i
invariant-loop-i l = all_of (label_above l.masks l.descriptors l.d.0) (drop l.i (types_in l.image l.fields TermKind.pcd)) ≡ all_of (label_above l.masks l.descriptors l.d.0) (types_in l.image l.fields TermKind.pcd)
