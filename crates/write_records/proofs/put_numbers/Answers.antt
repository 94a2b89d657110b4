-- `write_records::put_numbers` meets its contract.
use native.Mathlib.Omega.{arith}
use mathlib.Core.Path.{sym}
use Rattle.base_bytes.proofs.Over.{over_nothing}
use Rattle.image_written.specs.Records.{little}
use Rattle.write_records.proofs.Numbers.{number_step}
use Rattle.write_records.proofs.put_numbers.Goals as goal

pub loop-i-init : goal.loop-i-init
unfolding little
loop-i-init c = sym (over_nothing c.args.out.now c.args.at)

pub loop-i-preserved : goal.loop-i-preserved
loop-i-preserved c =
    let l = c.loop-i in
    let a = c.args in
    number_step a.numbers.now a.out.now l.out _ a.at l.i (omega arith) (omega arith) (omega (arith, c.type_inv.numbers l.i)) l.invariant c.put16.ensures
