use Rattle.vm_machine.specs.Turn.{reduce_call}
use Rattle.vm_actions.proofs.Judged.{frames_lacking, frames_enough}
use Rattle.vm_actions.proofs.calls.call.Goals as goal

pub returns-then-r-depth_of : goal.returns-then-r-depth_of
returns-then-r-depth_of c =
    let a = c.args in
    frames_lacking (reduce_call (record { code = a.code.now; image = a.image.now }) a.w a.x) _ a.work.now a.r _ a.w _ c.depth_of.ensures c.if-r-depth_of.true c.halt.ensures

pub returns : goal.returns
returns c =
    let a = c.args in
    frames_enough (reduce_call (record { code = a.code.now; image = a.image.now }) a.w a.x) _ _ a.r _ a.w _ c.depth_of.ensures c.if-r-depth_of.false c.reduce_call.ensures
