-- `check_uses::uses::first_misused` meets its contract: the terms before i are used once.
use Prim.Native.Nat.{ℕ, ◌<◌}
use mathlib.Core.Path.{◌≡◌}
use mathlib.Core.Bool.{true}
use lib.ListN.{get_or}
use Rattle.check_uses.specs.Marks.{is_once}
use Rattle.check_uses.proofs.uses.first_misused.Given as goal

abbrev pub invariant-loop-i : goal.invariant-loop-i
invariant-loop-i l = ((k : ℕ) → k < l.i → is_once (get_or l.marks k 0) ≡ true)
