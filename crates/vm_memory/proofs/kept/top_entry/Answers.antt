use mathlib.Core.Path.{ap, ◌∙◌}
use Rattle.vm_memory.specs.View.{memory_of}
use Rattle.vm_machine.specs.Memory.{piece_first}
use Rattle.vm_memory.proofs.kept.top_entry.Goals as goal

pub returns : goal.returns
returns c = c.piece_first.ensures ∙ ap (piece_first (memory_of c.args.work.now)) c.piece_of.ensures
