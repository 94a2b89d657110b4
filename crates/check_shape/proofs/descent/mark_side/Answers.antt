-- `check_shape::descent::mark_side` meets its contract: the loop marks one child after another; the rest of the list is left.
use Prim.Native.Nat.{◌+◌, ◌≤◌, ◌<◌}
use native.Mathlib.Omega.{arith}
use mathlib.Core.Path.{◌≡◌, ap, sym, ◌∙◌}
use lib.ListN.{length, get_or, drop, set}
use Rattle.verdict.specs.Shape.{set_all}
use Rattle.verdict.proofs.Changes.{fold_next, fold_end}
use Rattle.read_records.specs.Codes.{children_in}
use Rattle.read_records.specs.Heads.{field_in, side_of}
use Rattle.check_uses.proofs.ChildByChild.{side_length, side_is}
use Rattle.check_shape.proofs.descent.mark_side.Goals as goal

pub field_as-e-requires : goal.field_as-e-requires
field_as-e-requires c =
    let p = c.requires.0 in
    omega (arith, c.child_count-count.ensures, c.field_count-first.ensures)

pub set_mark-requires : goal.set_mark-requires
set_mark-requires c =
    let l = c.loop-j in
    let x = c.args.code in
    let fs = c.args.fields.now in
    let n : l.j < children_in x (length fs) = omega (arith, c.child_count-count.ensures) in
    let e : c.field_as-e.result.0 ≡ get_or (side_of x fs) l.j 0 = c.field_as-e.ensures ∙ ap (λ i. field_in fs (i + l.j)) c.field_count-first.ensures ∙ side_is x fs l.j n in
    let h = c.requires.1.at l.j (rw (side_length x fs) n) in
    omega arith

pub loop-j-preserved : goal.loop-j-preserved
loop-j-preserved c =
    let m = c.set_mark in
    let l = c.loop-j in
    let a = c.args in
    let x = a.code in
    let fs = a.fields.now in
    let cs = side_of x fs in
    let n : l.j < children_in x (length fs) = omega (arith, c.child_count-count.ensures) in
    let h : l.j < length cs = rw (side_length x fs) n in
    let e : c.field_as-e.result.0 ≡ get_or cs l.j 0 = c.field_as-e.ensures ∙ ap (λ i. field_in fs (i + l.j)) c.field_count-first.ensures ∙ side_is x fs l.j n in
    let r : c.set_mark.new.marks ≡ set l.depths (get_or cs l.j 0) a.d = rw e at m.ensures in
    (c.set_mark.auto.marks ∙ l.invariant.0, l.invariant.1 ∙ fold_next (λ ds n. set ds n a.d) cs l.depths l.j h ∙ ap (λ ds. set_all (drop (l.j + 1) cs) a.d ds) (sym r))

pub returns : goal.returns
returns c =
    let l = c.loop-j in
    let a = c.args in
    let cs = side_of a.code a.fields.now in
    let h : length cs ≤ l.j = rw (side_length a.code a.fields.now) (omega (arith, c.child_count-count.ensures)) in
    sym (l.invariant.1 ∙ fold_end (λ ds n. set ds n a.d) cs l.depths l.j h)
