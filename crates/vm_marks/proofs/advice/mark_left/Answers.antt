use Rattle.vm_marks.proofs.Advised.{mark_left_made}
use Rattle.vm_marks.proofs.advice.mark_left.Goals as goal

pub returns : goal.returns
returns c =
    let a = c.args in
    mark_left_made a.work.now _ a.r _ _ a.w a.f _ _ c.same-s.ensures c.depth_of.ensures c.slot_env.ensures c.completed.ensures
