-- The loop keeps: the row gathered so far shows a fault if some e so far is one.
use Rattle.check_shape.proofs.Named.{FoundTo}
use Rattle.check_shape.proofs.order.at_fault.Given as goal

abbrev pub invariant-loop-e : goal.invariant-loop-e
invariant-loop-e l = FoundTo l.o l.n l.i l.e l.named
