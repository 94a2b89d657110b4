use Rattle.vm_stacks.proofs.Keeping.{body_begun}
use Rattle.vm_stacks.proofs.keeps.begin_body.Goals as goal

pub returns : goal.returns
returns c =
    let a = c.args in
    (body_begun a.r _ a.w _ a.t c.same-q.ensures c.depth_of.ensures, c.keep_value.ensures)
