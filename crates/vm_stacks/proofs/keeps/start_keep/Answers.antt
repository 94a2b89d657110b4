use Rattle.vm_stacks.proofs.Keeping.{keep_body, keep_atom}
use Rattle.vm_stacks.proofs.keeps.start_keep.Goals as goal

pub returns-then-g-lt-TERMS : goal.returns-then-g-lt-TERMS
returns-then-g-lt-TERMS c =
    let a = c.args in
    λ image. keep_atom (record { code = a.code.now; image = image }) a.work.now _ a.r _ a.w a.x a.y _ c.field_c-g.ensures c.if-g-lt-TERMS.true (c.finish_keep.ensures image)

pub returns : goal.returns
returns c =
    let a = c.args in
    λ image. keep_body (record { code = a.code.now; image = image }) a.work.now _ a.r _ a.w a.x a.y _ c.field_c-g.ensures c.if-g-lt-TERMS.false c.begin_body.ensures.0 c.begin_body.ensures.1
