-- The loop marks what one entry after another names; the rest of the entries is left.
use Prim.Native.Nat.{◌+◌}
use mathlib.Core.Path.{◌≡◌, ap, subst, sym, ◌∙◌}
use mathlib.Core.List.{foldl-append}
use lib.ListN.{length}
use Rattle.image.specs.Kinds.{an_entry}
use Rattle.image.specs.Records.{as_child}
use Rattle.verdict.specs.Shape.{set_all}
use Rattle.read_records.proofs.Entries.{entries_left, next_left}
use Rattle.check_uses.specs.Marks.{Lower}
use Rattle.check_uses.proofs.ChildByChild.{lower_first, lower_rest}
use Rattle.check_shape.proofs.descent.mark_entries.Goals as goal

pub mark_entry-requires : goal.mark_entry-requires
mark_entry-requires c =
    let v = c.field in
    let l = c.loop-j in
    let fs = c.args.fields.now in
    let first = c.field_count-before.result + c.child_count.result in
    let count = c.entry_count-count.result in
    let e = next_left fs first count l.j v.result c.loop-j-test.true v.ensures in
    lower_first (length l.depths) (as_child an_entry v.result) (entries_left fs first count (l.j + 1)) (subst (λ es. Lower (length l.depths) es) e l.invariant.1)

pub loop-j-preserved : goal.loop-j-preserved
loop-j-preserved c =
    let m = c.mark_entry in
    let v = c.field in
    let l = c.loop-j in
    let a = c.args in
    let fs = a.fields.now in
    let first = c.field_count-before.result + c.child_count.result in
    let count = c.entry_count-count.result in
    let es = as_child an_entry v.result in
    let gs = entries_left fs first count (l.j + 1) in
    let e = next_left fs first count l.j v.result c.loop-j-test.true v.ensures in
    let ds = c.mark_entry.new.depths in
    let kept : length ds ≡ length l.depths = c.mark_entry.auto.depths in
    let deep : set_all (entries_left fs first count l.j) a.d l.depths ≡ set_all gs a.d ds = ap (λ xs. set_all xs a.d l.depths) e ∙ foldl-append _ l.depths es gs ∙ ap (λ xs. set_all gs a.d xs) (sym m.ensures) in
    let below = lower_rest (length l.depths) es gs (subst (λ xs. Lower (length l.depths) xs) e l.invariant.1) in
    (kept ∙ l.invariant.0, subst (λ q. Lower q gs) (sym kept) below, l.invariant.2 ∙ deep)
