-- The loop keeps what is required of the domains from d on.
use Prim.Native.Nat.{◌-◌}
use mathlib.Core.Path.{◌≡◌}
use lib.ListN.{length}
use Rattle.check_shape.specs.Faults.{order_from}
use Rattle.check_shape.proofs.order.first_unordered.Given as goal

abbrev pub invariant-loop-d : goal.invariant-loop-d
invariant-loop-d l = (order_from l.doms l.o (length l.doms) 0 ≡ order_from l.doms l.o (length l.doms - l.d) l.d)
