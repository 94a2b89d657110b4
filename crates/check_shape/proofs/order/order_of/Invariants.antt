-- The loop keeps: the rows of the d first domains, and no others.
use Rattle.image.specs.Layout.{records_of}
use Rattle.check_shape.proofs.Orders.{RowsTo}
use Rattle.check_shape.proofs.order.order_of.Given as goal

abbrev pub invariant-loop-d : goal.invariant-loop-d
invariant-loop-d l = RowsTo (records_of l.image) l.d l.o
