-- The loop keeps: some f so far.
use Rattle.laws.proofs.Tests.{any_none, any_more}
use Rattle.check_shape.proofs.order.gap_in.Goals as goal

pub loop-f-preserved : goal.loop-f-preserved
loop-f-preserved c =
    let l = c.loop-f in
    any_more l.f _ l.found l.invariant

pub loop-f-init : goal.loop-f-init
loop-f-init c = any_none _
