-- The loop keeps: the bits done, and those of what is left of the mask.
use Prim.Native.Nat.{suc, ◌+◌, ◌<◌, ◌-◌}
use native.Mathlib.Omega.{arith}
use mathlib.Core.Path.{sym, ◌≡◌, ◌∙◌}
use mathlib.Core.List.{append-nil}
use lib.ListN.{length-set, length}
use lib.Seq.{take_all}
use Rattle.image.specs.Limits.{domain_limit}
use Rattle.verdict.specs.Domains.{bits}
use Rattle.check_shape.proofs.Orders.{row_more}
use Rattle.check_shape.proofs.order.row_of.Goals as goal

pub loop-q-preserved : goal.loop-q-preserved
loop-q-preserved c =
    let l = c.loop-q in
    let h : l.q < length l.row = omega arith in
    let s : domain_limit - l.q ≡ suc (domain_limit - (l.q + 1)) = omega arith in
    (simp length-set l.invariant.0, row_more l.row l.q l.m (domain_limit - (l.q + 1)) h ∙ rw (← s) l.invariant.1)

pub returns : goal.returns
unfolding bits
returns c =
    let l = c.loop-q in
    let h : l.q ≡ domain_limit = omega arith in
    sym (take_all domain_limit l.row (omega arith)) ∙ sym (append-nil _) ∙ rw h at l.invariant.1
