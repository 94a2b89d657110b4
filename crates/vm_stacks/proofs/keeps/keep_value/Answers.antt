use Rattle.vm_stacks.proofs.Keeping.{kept_stored}
use Rattle.vm_stacks.proofs.keeps.keep_value.Goals as goal

pub returns : goal.returns
returns c =
    let a = c.args in
    kept_stored a.work.now _ _ a.r a.w a.x a.y _ _ c.depth_of.ensures c.body.ensures c.put_keep.ensures c.put_kept.ensures
