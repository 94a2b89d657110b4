use Rattle.vm_memory.proofs.Stored.{cell_stored}
use Rattle.vm_memory.proofs.cells.store_cell.Goals as goal

pub returns : goal.returns
returns c = cell_stored _ _ _ _ _ _ c.cell_at.ensures c.cell_note-note.ensures c.put_cell.ensures
