-- `check_ranges::ranges::classes_past` meets its contract: what is left of the classes is that of all of them.
use Prim.Native.Nat.{◌-◌}
use mathlib.Core.Path.{◌≡◌}
use Rattle.check_ranges.specs.Ranges.{classes_past}
use Rattle.check_ranges.proofs.ranges.classes_past.Given as goal

abbrev pub invariant-loop : goal.invariant-loop
invariant-loop l = (classes_past l.n l.classes ≡ classes_past (l.n - l.counter) l.rest)
