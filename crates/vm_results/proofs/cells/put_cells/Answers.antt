use native.Mathlib.Omega.{arith}
use mathlib.Core.Path.{refl, ◌∙◌}
use Rattle.vm_memory.specs.View.{memory_of}
use Rattle.vm_results.proofs.CellRecords.{no_cells, cells_step}
use Rattle.vm_results.proofs.cells.put_cells.Goals as goal

pub loop-i-init : goal.loop-i-init
loop-i-init c = let a = c.args in let z = no_cells (memory_of a.work.now) a.report.now a.at in (omega arith, refl, z.0, z.1)

pub loop-i-preserved : goal.loop-i-preserved
loop-i-preserved c =
    let a = c.args in
    let l = c.loop-i in
    let w = c.put_cell-o in
    let t = c.loop-i-test.true in
    let s = cells_step (memory_of a.work.now) a.report.now a.at l.i l.o l.invariant.2 l.invariant.3 w.ensures.0 w.ensures.1 (omega (arith, l.invariant.0, c.requires.2)) in
    (omega (arith, s.2, l.invariant.0), c.put_cell-o.auto.report ∙ l.invariant.1, s.0, s.1)
