-- `check_shape::depths::first_deep` meets its contract: the loop keeps what is required of the terms from i on.
use Prim.Native.Nat.{◌-◌}
use mathlib.Core.Path.{◌≡◌}
use Rattle.check_shape.specs.Depths.{deep_from}
use Rattle.check_shape.proofs.depths.first_deep.Given as goal

abbrev pub invariant-loop-i : goal.invariant-loop-i
invariant-loop-i l = (deep_from l.terms l.depths l.i-end 0 ≡ deep_from l.terms l.depths (l.i-end - l.i) l.i)
