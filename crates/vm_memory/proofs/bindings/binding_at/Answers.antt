use mathlib.Core.Path.{ap, ◌∙◌}
use native.Mathlib.Omega.{arith}
use Rattle.vm_memory.specs.View.{memory_of}
use Rattle.vm_machine.specs.Memory.{word_at}
use Rattle.vm_memory.proofs.bindings.binding_at.Goals as goal

pub returns : goal.returns
returns c = c.word.ensures ∙ ap (word_at (memory_of c.args.work.now)) (omega arith)
