use Rattle.vm_marks.proofs.Advised.{next_body_made}
use Rattle.vm_marks.proofs.advice.next_body.Goals as goal

pub overflow_sub-q : goal.overflow_sub-q
overflow_sub-q c =
    c.requires.2

pub returns : goal.returns
returns c =
    let a = c.args in
    next_body_made a.work.now _ a.r _ a.f _ _ _ _ _ c.next_binding-n.ensures c.end_binding.ensures c.slot_pc.ensures c.slot_env.ensures c.body_at-t.ensures c.same-q.ensures c.put_advice.ensures
