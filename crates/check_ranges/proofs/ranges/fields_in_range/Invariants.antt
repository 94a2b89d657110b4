-- `check_ranges::ranges::fields_in_range` meets its contract: so far each field is in range, and what is left decides.
use Prim.Native.Nat.{◌-◌}
use mathlib.Core.Path.{◌≡◌}
use Rattle.check_ranges.specs.Ranges.{ranges_from}
use Rattle.check_ranges.proofs.ranges.fields_in_range.Given as goal

abbrev pub invariant-loop-i : goal.invariant-loop-i
invariant-loop-i l = (ranges_from l.count l.classes l.fields l.counts l.from ≡ ranges_from (l.i-end - l.i) l.rest l.fields l.counts l.i)
