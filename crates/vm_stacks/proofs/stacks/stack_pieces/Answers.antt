use mathlib.Core.Path.{refl, ◌∙◌}
use Prim.Native.Nat.{◌-◌}
use Rattle.vm_stacks.proofs.Stacked.{pieces_start, pieces_on, pieces_done}
use borrow.Author.Rules.{rules}
use Rattle.vm_stacks.proofs.stacks.stack_pieces.Goals as goal

pub loop-i-preserved : goal.loop-i-preserved
loop-i-preserved c =
    let a = c.args in
    let l = c.loop-i in
    (search rules, c.put_piece.ensures.rest ∙ l.invariant.1, l.invariant.2 ∙ pieces_on a.n l.i a.p _ _ l.v _ _ c.loop-i-test.true c.kept_at-w.ensures c.put_piece.ensures c.kept-v.ensures)

pub returns : goal.returns
returns c = let a = c.args in let l = c.loop-i in pieces_done _ a.n l.i a.p a.work.now _ l.v c.loop-i-test.false l.invariant.2 l.invariant.1

pub loop-i-init : goal.loop-i-init
loop-i-init c = (refl, refl, pieces_start _ _ _ _ c.bottom-v.ensures)
