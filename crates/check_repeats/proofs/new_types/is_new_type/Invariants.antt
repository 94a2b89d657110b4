-- `check_repeats::new_types::is_new_type` meets its contract: so far no type is the same.
use mathlib.Core.Path.{◌≡◌}
use mathlib.Core.Bool.{true}
use Rattle.check_repeats.specs.NewTypes.{new_type}
use Rattle.check_repeats.proofs.new_types.is_new_type.Given as goal

abbrev pub invariant-loop-i : goal.invariant-loop-i
invariant-loop-i l = (new_type l.image l.fields l.i l.types l.descriptors l.descriptor ≡ true)
