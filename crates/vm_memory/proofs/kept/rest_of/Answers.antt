use mathlib.Core.Path.{ap, sym, ◌∙◌}
use Rattle.vm_memory.specs.View.{memory_of}
use Rattle.vm_machine.specs.Memory.{piece_second, is_kept}
use Rattle.vm_memory.proofs.Chosen.{chosen_yes, chosen_no}
use Rattle.vm_memory.proofs.kept.rest_of.Goals as goal

pub returns-then-is_kept : goal.returns-then-is_kept
returns-then-is_kept c = let a = c.args in c.piece_second.ensures ∙ ap (piece_second (memory_of a.work.now)) c.piece_of.ensures ∙ sym (chosen_yes (is_kept a.v) _ _ (sym c.is_kept.ensures ∙ c.if-is_kept.true))

pub returns : goal.returns
returns c = sym (chosen_no (is_kept c.args.v) _ _ (sym c.is_kept.ensures ∙ c.if-is_kept.false))
