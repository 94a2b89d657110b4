use Rattle.vm_code.specs.Words.{count_of}
use Rattle.vm_machine.specs.Memory.{label_set}
use Rattle.vm_labels.proofs.Labelling.{judged_made, pointcut_as}
use Rattle.vm_labels.proofs.labels.make_pointcut.Goals as goal

pub returns : goal.returns
returns c =
    let a = c.args in
    judged_made _ a.work.now _ a.r _ a.w _ c.depth_of.ensures c.if-r-depth_of.false (pointcut_as a.work.now _ a.r _ a.w _ _ a.digits c.count_of.ensures c.label_set.ensures c.new_piece.ensures)
