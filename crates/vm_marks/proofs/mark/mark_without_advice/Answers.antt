use Rattle.vm_code.specs.Values.{unit_value}
use Rattle.vm_machine.specs.Reduce.{given}
use Rattle.vm_registers.proofs.Ended.{left_made}
use Rattle.vm_marks.proofs.Marked.{unpaid_made}
use Rattle.vm_marks.proofs.mark.mark_without_advice.Goals as goal

pub returns-then-r-le-FUEL_BIAS : goal.returns-then-r-le-FUEL_BIAS
returns-then-r-le-FUEL_BIAS c = let a = c.args in unpaid_made (given a.w unit_value) a.work.now a.r _ c.if-r-le-FUEL_BIAS.true c.halt.ensures

pub returns : goal.returns
returns c =
    let a = c.args in
    left_made (given a.w unit_value) a.work.now _ a.r _ c.if-r-le-FUEL_BIAS.false c.given.ensures
