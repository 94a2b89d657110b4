use Rattle.vm_marks.proofs.Matched.{matching_on, matching_done}
use mathlib.Core.Path.{refl, ◌∙◌}
use native.Mathlib.Omega.{arith}
use borrow.Author.Rules.{rules}
use Rattle.vm_marks.proofs.bind.bind_matching.Goals as goal

pub loop-i-preserved : goal.loop-i-preserved
loop-i-preserved c =
    let a = c.args in
    let l = c.loop-i in
    let b = c.bind_one-q.ensures in
    (search rules, omega (arith, l.invariant.1, b.1), omega (arith, l.invariant.2, b.2, c.loop-i-test.true), b.0.memory.rest ∙ l.invariant.3, l.invariant.4 ∙ matching_on l.i _ a.l a.v _ _ _ _ (omega (arith, c.loop-i-test.true)) b.0)

pub returns : goal.returns
returns c =
    let a = c.args in
    let l = c.loop-i in
    (matching_done _ l.i a.l a.v a.work.now _ _ c.loop-i-test.false l.invariant.4 l.invariant.3, l.invariant.1, omega (arith, l.invariant.2, c.requires.2, c.requires.3))

pub loop-i-init : goal.loop-i-init
loop-i-init c = (refl, omega arith, omega arith, refl, refl)
