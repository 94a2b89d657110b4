use Rattle.vm_labels.proofs.Labelling.{judged_frames, judged_made}
use Rattle.vm_machine.specs.Stacks.{start_keep}
use Rattle.vm_stacks.proofs.keeps.keep.Goals as goal

pub returns-then-r-depth_of : goal.returns-then-r-depth_of
returns-then-r-depth_of c =
    let a = c.args in
    λ image. judged_frames (start_keep (record { code = a.code.now; image = image }) a.w a.x a.y) a.work.now a.work.now a.r _ a.w _ c.depth_of.ensures c.if-r-depth_of.true c.halt.ensures

pub returns : goal.returns
returns c =
    let a = c.args in
    λ image. judged_made (start_keep (record { code = a.code.now; image = image }) a.w a.x a.y) a.work.now _ a.r _ a.w _ c.depth_of.ensures c.if-r-depth_of.false (c.start_keep.ensures image)
