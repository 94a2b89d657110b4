use mathlib.Core.List.{[]}
use Rattle.vm_marks.proofs.Advised.{advice_spent, advice_next, advice_done, frames_of_mark}
use borrow.Author.Rules.{rules}
use Rattle.vm_marks.proofs.advice.next_advice.Goals as goal

pub returns-then-r : goal.returns-then-r
returns-then-r c = let a = c.args in λ image. advice_spent (record { code = a.code.now; image = image }) a.work.now a.work.now a.r _ a.f c.if-r.true c.halt_with.ensures

pub returns-then-next_binding-end_binding : goal.returns-then-next_binding-end_binding
returns-then-next_binding-end_binding c =
    let a = c.args in
    λ image. advice_next (record { code = a.code.now; image = image }) a.work.now _ a.r _ a.f c.if-r.false _ _ c.next_binding.ensures c.end_binding.ensures c.if-next_binding-end_binding.true c.next_body.ensures

pub mark_left-requires : goal.mark_left-requires
mark_left-requires c =
    let a = c.args in
    (search rules, frames_of_mark (record { code = a.code.now; image = [] }) a.work.now a.work.now a.r a.r a.f c.if-r.false _ _ c.next_binding.ensures c.end_binding.ensures _ _ [] c.if-next_binding-end_binding.false c.slot_pc.ensures c.instruction.ensures (c.requires.3 [] []), search rules)

pub returns : goal.returns
returns c =
    let a = c.args in
    λ image. advice_done (record { code = a.code.now; image = image }) a.work.now _ a.r _ a.f c.if-r.false _ _ c.next_binding.ensures c.end_binding.ensures _ _ c.if-next_binding-end_binding.false c.slot_pc.ensures c.instruction.ensures c.mark_left.ensures
