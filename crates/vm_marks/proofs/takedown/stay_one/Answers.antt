use native.Mathlib.Omega.{arith}
use Rattle.vm_marks.proofs.Stayed.{one_goes, one_stays}
use Rattle.vm_marks.proofs.takedown.stay_one.Goals as goal

pub returns-then-advice_dom-d : goal.returns-then-advice_dom-d
returns-then-advice_dom-d c =
    let a = c.args in
    (one_goes a.work.now a.d.0 a.i a.n _ _ _ c.installed_at-p.ensures c.piece_first-a.ensures c.advice_dom.ensures c.if-advice_dom-d.true, omega arith)

pub returns : goal.returns
returns c =
    let a = c.args in
    (one_stays a.work.now a.d.0 a.i a.n _ _ _ c.installed_at-p.ensures c.piece_first-a.ensures c.advice_dom.ensures _ c.if-advice_dom-d.false c.put_installed.ensures, omega arith)
