-- `check_repeats::keys::is_new_key` meets its contract: so far no key is the same, or one is.
use mathlib.Core.Path.{◌≡◌}
use Rattle.check_repeats.specs.Keys.{new_key}
use Rattle.check_repeats.proofs.keys.is_new_key.Given as goal

abbrev pub invariant-loop-i : goal.invariant-loop-i
invariant-loop-i l = (l.new ≡ new_key l.i l.filter l.key)
