use mathlib.Core.Path.{refl, ap, ◌∙◌}
use Rattle.vm_code.specs.Words.{depth_of}
use native.Mathlib.Omega.{arith}
use Rattle.vm_matches.proofs.Matching.{operand_framed, operand_begun}
use Rattle.vm_matches.proofs.operands.begin_operand.Goals as goal

pub returns-then-r-d : goal.returns-then-r-d
returns-then-r-d c =
    let a = c.args in
    λ image. operand_framed (record { code = a.code.now; image = image }) a.work.now a.work.now a.r _ a.x.0 a.v a.byte _ (c.depth_of-d.ensures ∙ ap depth_of c.instruction.ensures) c.if-r-d.true c.halt.ensures

pub entry_from-requires : goal.entry_from-requires
entry_from-requires c =
    (omega (arith, c.requires.0.coded), c.requires.2)

pub returns : goal.returns
returns c =
    let a = c.args in
    λ image. operand_begun (record { code = a.code.now; image = image }) a.work.now _ a.r a.r a.x.0 a.v a.byte _ (c.depth_of-d.ensures ∙ ap depth_of c.instruction.ensures) _ _ _ c.same-q.ensures refl c.if-r-d.false (c.entry_from.ensures.0 image) (c.put_match.ensures a.r.pc a.r.env a.v c.match_word.ensures)
