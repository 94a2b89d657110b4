-- `check_ranges::ranges::groups_in_range` meets its contract: so far each group is in range, and what is left decides.
use Prim.Native.Nat.{◌+◌, ◌-◌, ◌*◌}
use mathlib.Core.Path.{◌≡◌}
use Rattle.check_ranges.specs.Ranges.{groups_from}
use Rattle.check_ranges.proofs.ranges.groups_in_range.Given as goal

abbrev pub invariant-loop-k : goal.invariant-loop-k
invariant-loop-k l = groups_from l.times l.group l.classes l.fields l.counts l.from ≡ groups_from (l.times - l.k) l.group l.classes l.fields l.counts (l.from + l.k * l.group)
