-- The loop keeps: the truths done, and those of what is left of the rows.
use borrow.Author.Rules.{rules}
use Prim.Native.Nat.{◌<◌, ◌≤◌}
use native.Mathlib.Omega.{arith}
use mathlib.Core.Path.{sym, ap, ◌≡◌, ◌∙◌}
use mathlib.Core.List.{append-nil, ◌++◌}
use lib.ListN.{length-set, length, take, drop_of_length-le}
use lib.Seq.{take_all}
use Rattle.image.specs.Limits.{domain_limit}
use Rattle.check_shape.specs.Faults.{either_row}
use Rattle.check_shape.proofs.Named.{either_more}
use Rattle.check_shape.proofs.order.either_row.Goals as goal

pub loop-f-preserved : goal.loop-f-preserved
loop-f-preserved c =
    let l = c.loop-f in
    let a = c.args in
    let here : l.f < length l.row = omega arith in
    let in_a : l.f < length a.a = search rules in
    let in_b : l.f < length a.b = search rules in
    (simp length-set l.invariant.0, either_more l.row a.a a.b l.f here in_a in_b ∙ l.invariant.1)

pub returns : goal.returns
unfolding either_row
returns c =
    let l = c.loop-f in
    let a = c.args in
    let h : l.f ≡ domain_limit = omega arith in
    let in_a : length a.a ≤ domain_limit = search rules in
    let in_b : length a.b ≤ domain_limit = search rules in
    sym (take_all domain_limit l.row (omega arith)) ∙ sym (append-nil _) ∙ ap (take domain_limit l.row ++◌) (sym (rw (drop_of_length-le a.a in_a, drop_of_length-le a.b in_b))) ∙ rw h at l.invariant.1
