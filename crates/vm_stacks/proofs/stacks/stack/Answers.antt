use Rattle.vm_labels.proofs.Labelling.{judged_frames, judged_made}
use Rattle.vm_machine.specs.Stacks.{reduce_stack}
use Rattle.vm_stacks.proofs.stacks.stack.Goals as goal

pub returns-then-r-depth_of : goal.returns-then-r-depth_of
returns-then-r-depth_of c = let a = c.args in judged_frames (reduce_stack a.w) a.work.now a.work.now a.r _ a.w _ c.depth_of.ensures c.if-r-depth_of.true c.halt.ensures

pub returns : goal.returns
returns c =
    let a = c.args in
    judged_made (reduce_stack a.w) a.work.now _ a.r _ a.w _ c.depth_of.ensures c.if-r-depth_of.false c.reduce_stack.ensures
