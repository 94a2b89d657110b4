use Rattle.vm_marks.proofs.Advised.{start_lacking, start_made}
use Rattle.vm_marks.proofs.advice.start_advice.Goals as goal

pub returns-then-r-d : goal.returns-then-r-d
returns-then-r-d c = let a = c.args in start_lacking a.work.now a.work.now a.r _ a.w _ a.n a.m c.depth_of-d.ensures c.if-r-d.true c.halt.ensures

pub returns : goal.returns
returns c =
    let a = c.args in
    start_made a.work.now _ a.r _ a.w _ a.n a.m c.depth_of-d.ensures _ c.if-r-d.false c.body_at-t.ensures c.same-q.ensures c.put_advice.ensures
