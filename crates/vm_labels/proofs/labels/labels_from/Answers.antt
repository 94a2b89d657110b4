use Rattle.vm_machine.specs.Fetch.{Program}
use Rattle.vm_machine.specs.Turn.{Taken}
use Rattle.vm_labels.proofs.Labelling.{all_done, no_capacity, one_begun}
use Rattle.vm_labels.proofs.labels.labels_from.Goals as goal

pub returns-then-count_of-done : goal.returns-then-count_of-done
returns-then-count_of-done c =
    let a = c.args in
    let C : Program = record { code = a.code.now; image = a.image.now } in
    let k : Taken = record { count = c.take_labels-done.result.count; digits = c.take_labels-done.result.digits } in
    all_done C a.work.now _ a.r _ a.r.pc a.from.count a.from.digits _ c.instruction-w.ensures k (c.take_labels-done.ensures a.image.now c.child_fields-fields.ensures) _ c.count_of.ensures c.if-count_of-done.true c.make_pointcut.ensures

pub returns-then-r-depth_of : goal.returns-then-r-depth_of
returns-then-r-depth_of c =
    let a = c.args in
    let C : Program = record { code = a.code.now; image = a.image.now } in
    let k : Taken = record { count = c.take_labels-done.result.count; digits = c.take_labels-done.result.digits } in
    no_capacity C a.work.now a.work.now a.r _ a.r.pc a.from.count a.from.digits _ c.instruction-w.ensures k (c.take_labels-done.ensures a.image.now c.child_fields-fields.ensures) _ c.count_of.ensures c.if-count_of-done.false _ c.depth_of.ensures c.if-r-depth_of.true c.halt.ensures

pub returns : goal.returns
returns c =
    let a = c.args in
    let C : Program = record { code = a.code.now; image = a.image.now } in
    let k : Taken = record { count = c.take_labels-done.result.count; digits = c.take_labels-done.result.digits } in
    one_begun C a.work.now _ a.r _ a.r.pc a.from.count a.from.digits _ c.instruction-w.ensures k (c.take_labels-done.ensures a.image.now c.child_fields-fields.ensures) _ c.count_of.ensures c.if-count_of-done.false _ c.depth_of.ensures c.if-r-depth_of.false (c.begin_child.ensures a.image.now c.child_fields-fields.ensures)
