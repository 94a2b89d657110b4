use native.Mathlib.Omega.{arith}
use Rattle.report.proofs.Lengths.{slots_short}
use Rattle.vm_memory.specs.View.{memory_of}
use Rattle.vm_results.specs.Ended.{result_in}
use Rattle.vm_results.proofs.Gathering.{gathered_few}
use Rattle.vm_results.proofs.WholeReport.{result_few, reported}
use Rattle.vm_results.proofs.reports.put_answer.Goals as goal

pub put_leaves-at-requires : goal.put_leaves-at-requires
put_leaves-at-requires c =
    let a = c.args in
    let M = memory_of a.work.now in
    let n = gathered_few (result_in M a.r) c.requires.4 (result_few M a.r) in
    (n, omega (arith, n, c.requires.1, c.put_head.auto.report))

pub put_cells-end-requires : goal.put_cells-end-requires
put_cells-end-requires c =
    let a = c.args in
    let M = memory_of a.work.now in
    let n = gathered_few (result_in M a.r) c.requires.4 (result_few M a.r) in
    let m = slots_short a.g.count a.g.slots in
    let e = c.cell_count.ensures in
    let few = c.requires.2 in
    (c.requires.0, omega (arith, e, few), omega (arith, e, few, c.put_leaves-at.ensures.0, c.put_head.auto.report))

pub returns : goal.returns
returns c =
    let a = c.args in
    reported (memory_of a.work.now) a.r a.g c.requires.4 a.budget a.report.now c.outcome_with-outcome.result _ _ c.outcome_with-outcome.ensures c.put_head.ensures c.put_leaves-at.ensures (rw c.cell_count.ensures at c.put_cells-end.ensures) c.requires.2 c.requires.1
