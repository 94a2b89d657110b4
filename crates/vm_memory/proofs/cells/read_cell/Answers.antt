use mathlib.Core.Path.{ap, ◌∙◌}
use Rattle.vm_memory.specs.View.{memory_of}
use Rattle.vm_machine.specs.Memory.{cell_at}
use Rattle.vm_memory.proofs.cells.read_cell.Goals as goal

pub returns : goal.returns
returns c = c.cell_at.ensures ∙ ap (cell_at (memory_of c.args.work.now)) c.cell_of.ensures
