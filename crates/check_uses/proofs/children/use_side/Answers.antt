-- `check_uses::children::use_side` meets its contract: the loop uses one child after another; the rest of them is left.
use Prim.Native.Nat.{◌+◌, ◌≤◌, ◌<◌}
use native.Mathlib.Omega.{arith}
use mathlib.Core.Path.{◌≡◌, refl, ap, sym, ◌∙◌}
use lib.ListN.{length, get_or, drop}
use Rattle.verdict.proofs.Changes.{fold_next, fold_end}
use Rattle.read_records.specs.Codes.{children_in}
use Rattle.read_records.specs.Heads.{field_in, side_of}
use Rattle.check_uses.specs.Marks.{used, use_all, highest}
use Rattle.check_uses.proofs.ChildByChild.{high_next, high_end, side_length, side_is}
use Rattle.check_uses.proofs.children.use_side.Goals as goal

pub field_as-e-requires : goal.field_as-e-requires
field_as-e-requires c =
    let p = c.requires.0 in
    omega (arith, c.child_count-count.ensures, c.field_count-first.ensures)

pub use_child-h-requires : goal.use_child-h-requires
use_child-h-requires c =
    let l = c.loop-j in
    let x = c.args.code in
    let fs = c.args.fields.now in
    let n : l.j < children_in x (length fs) = omega (arith, c.child_count-count.ensures) in
    let e : c.field_as-e.result.0 ≡ get_or (side_of x fs) l.j 0 = c.field_as-e.ensures ∙ ap (λ i. field_in fs (i + l.j)) c.field_count-first.ensures ∙ side_is x fs l.j n in
    let h = c.requires.1.at l.j (rw (side_length x fs) n) in
    omega arith

pub loop-j-preserved : goal.loop-j-preserved
unfolding highest
loop-j-preserved c =
    let u = c.use_child-h in
    let l = c.loop-j in
    let a = c.args in
    let x = a.code in
    let fs = a.fields.now in
    let cs = side_of x fs in
    let n : l.j < children_in x (length fs) = omega (arith, c.child_count-count.ensures) in
    let i : l.j < length cs = rw (side_length x fs) n in
    let e : c.field_as-e.result.0 ≡ get_or cs l.j 0 = c.field_as-e.ensures ∙ ap (λ y. field_in fs (y + l.j)) c.field_count-first.ensures ∙ side_is x fs l.j n in
    let high : highest (drop l.j cs) l.marks l.h ≡ highest (drop (l.j + 1) cs) c.use_child-h.new.marks u.result = high_next cs l.marks l.j l.h i ∙ rw (u.ensures.0, u.ensures.1, e) refl in
    let uses : use_all (drop l.j cs) l.marks ≡ use_all (drop (l.j + 1) cs) c.use_child-h.new.marks = fold_next used cs l.marks l.j i ∙ rw (u.ensures.1, e) refl in
    (c.use_child-h.auto.marks ∙ l.invariant.0, l.invariant.1 ∙ high, l.invariant.2 ∙ uses)

pub returns : goal.returns
returns c =
    let l = c.loop-j in
    let a = c.args in
    let cs = side_of a.code a.fields.now in
    let h : length cs ≤ l.j = rw (side_length a.code a.fields.now) (omega (arith, c.child_count-count.ensures)) in
    (sym (l.invariant.1 ∙ high_end cs l.marks l.j l.h h), sym (l.invariant.2 ∙ fold_end used cs l.marks l.j h))

pub loop-j-init : goal.loop-j-init
loop-j-init c = (refl, refl, refl)
