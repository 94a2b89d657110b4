-- `check_repeats::keys::hash_of` meets its contract: so far it is the hash of the fields before the next.
use mathlib.Core.Path.{◌≡◌}
use Rattle.check_repeats.specs.Keys.{hash_to}
use Rattle.check_repeats.proofs.keys.hash_of.Given as goal

abbrev pub invariant-loop-i : goal.invariant-loop-i
invariant-loop-i l = (l.hash ≡ hash_to l.i l.fields)
