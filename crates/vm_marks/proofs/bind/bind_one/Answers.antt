use mathlib.Core.Bool.{Bool}
use mathlib.Core.Path.{◌≡◌, ap, ◌∙◌}
use Rattle.vm_pools.specs.Pools.{charge, whole}
use native.Mathlib.Omega.{arith}
use Prim.Native.Nat.{◌+◌}
use Rattle.vm_marks.proofs.Matched.{one_bound, other_bound, one_more}
use Rattle.vm_marks.proofs.bind.bind_one.Goals as goal

pub returns-then-has_bit : goal.returns-then-has_bit
returns-then-has_bit c =
    let a = c.args in
    let n : whole c.charge.result ≡ whole a.b + 1 = one_more c.is_mainline.result a.b _ c.charge.ensures in
    (one_bound a.work.now a.l a.v a.i a.b _ _ _ c.installed_at-p.ensures c.piece_second.ensures c.has_bit.ensures _ _ _ _ _ c.if-has_bit.true c.piece_first-a.ensures c.whole.ensures c.advice_dom.ensures c.bind_advice.ensures (c.charge.ensures ∙ ap (λ (h : Bool). charge h 1 a.b) c.is_mainline.ensures), omega (arith, n), omega (arith, n))

pub returns : goal.returns
returns c =
    let a = c.args in
    (other_bound a.work.now a.l a.v a.i a.b _ _ _ c.installed_at-p.ensures c.piece_second.ensures c.has_bit.ensures c.if-has_bit.false, omega arith, omega arith)
