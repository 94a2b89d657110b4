use native.Mathlib.Omega.{arith}
use Rattle.vm_memory.specs.View.{memory_of}
use Rattle.vm_results.specs.Ended.{plain_leaves_in}
use Rattle.vm_results.proofs.Gathering.{gathered_few, plain_few}
use Rattle.vm_results.proofs.CellRecords.{cell_written, plain_cell}
use Rattle.vm_results.proofs.cells.put_cell.Goals as goal

pub put_plain_cell-requires : goal.put_plain_cell-requires
put_plain_cell-requires c =
    let M = memory_of c.args.work.now in
    let v = c.cell_at-w.result in
    let n = gathered_few (plain_leaves_in M v) c.plain_leaves-g.ensures (plain_few M v) in
    (n, omega arith)

pub returns : goal.returns
returns c =
    let a = c.args in
    cell_written a.report.now a.at (plain_cell (memory_of a.work.now) a.i _ _ _ c.cell_at-w.ensures c.cell_note-note.ensures c.note_domain-dom.ensures _ c.if-note-lt-DOMAINS.false c.plain_leaves-g.ensures) c.put_plain_cell.ensures
