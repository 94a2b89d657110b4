-- `check_ranges::ranges::children_in_range` meets its contract: so far each child is in range, and what is left decides.
use Prim.Native.Nat.{◌-◌, ◌/◌}
use mathlib.Core.Path.{◌≡◌}
use lib.ListN.{length}
use Rattle.check_ranges.specs.Ranges.{groups_from}
use Rattle.check_ranges.proofs.ranges.children_in_range.Given as goal

abbrev pub invariant-loop-i : goal.invariant-loop-i
invariant-loop-i l = groups_from (length l.fields / 2 - l.from) 1 5 l.fields l.counts l.from ≡ groups_from (l.i-end - l.i) 1 5 l.fields l.counts l.i
