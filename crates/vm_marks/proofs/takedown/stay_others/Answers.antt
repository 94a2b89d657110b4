use Rattle.vm_marks.proofs.Stayed.{stay_on, stay_done, stay_start}
use mathlib.Core.Path.{refl, ◌∙◌}
use native.Mathlib.Omega.{arith}
use borrow.Author.Rules.{rules}
use Rattle.vm_marks.proofs.takedown.stay_others.Goals as goal

pub loop-i-preserved : goal.loop-i-preserved
loop-i-preserved c =
    let a = c.args in
    let l = c.loop-i in (
      search rules,
      omega arith,
      c.stay_one-m.ensures.0.memory.rest ∙ l.invariant.2,
      l.invariant.3 ∙ stay_on a.n l.i a.d.0 _ _ _ _ c.loop-i-test.true c.stay_one-m.ensures.0,
    )

pub returns : goal.returns
returns c =
    let a = c.args in
    let l = c.loop-i in stay_done _ a.n l.i a.d.0 a.work.now _ _ c.loop-i-test.false l.invariant.3 l.invariant.2

pub loop-i-init : goal.loop-i-init
loop-i-init c = (refl, omega arith, refl, stay_start _ _ _)
