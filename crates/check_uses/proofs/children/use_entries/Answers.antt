-- `check_uses::children::use_entries` meets its contract: the loop uses what one entry after another names; the rest of the entries is left.
use Prim.Native.Nat.{ℕ, ◌+◌}
use native.Mathlib.Omega.{arith}
use mathlib.Core.Path.{◌≡◌, refl, ap, subst, sym, ◌∙◌}
use mathlib.Core.List.{List, foldl-append}
use lib.ListN.{length}
use Rattle.image.specs.Kinds.{an_entry}
use Rattle.image.specs.Records.{as_child}
use Rattle.read_records.specs.Codes.{count_of, children_in, entries_in}
use Rattle.read_records.specs.Heads.{entries_of}
use Rattle.read_records.proofs.Entries.{entries_left, all_left, next_left, none_left}
use Rattle.check_uses.specs.Marks.{Lower, used, use_all, highest}
use Rattle.check_uses.proofs.ChildByChild.{lower_first, lower_rest, high_append}
use borrow.Author.Rules.{rules}
use Rattle.check_uses.proofs.children.use_entries.Goals as goal

-- The entries are those that are left at first.
at_first : (fs : List ℕ) (x first count : ℕ) → first ≡ count_of x + children_in x (length fs) → count ≡ entries_in x (length fs) → entries_of x fs ≡ entries_left fs first count 0
at_first fs x first count e f = rw (← e, ← f) (all_left fs first count)

pub loop-j-init : goal.loop-j-init
loop-j-init c =
    let a = c.args in
    let first = c.field_count-before.result + c.child_count.result in
    let q : first ≡ count_of a.code + children_in a.code (length a.fields.now) = omega (arith, c.field_count-before.ensures, c.child_count.ensures) in
    let e = at_first a.fields.now a.code first c.entry_count-count.result q c.entry_count-count.ensures in
    (refl, subst (λ es. Lower (length a.marks.now) es) e c.requires.1, ap (λ es. highest es a.marks.now a.below) e, ap (λ es. use_all es a.marks.now) e)

pub use_entry-h-requires : goal.use_entry-h-requires
use_entry-h-requires c =
    let v = c.field-entry in
    let l = c.loop-j in
    let fs = c.args.fields.now in
    let first = c.field_count-before.result + c.child_count.result in
    let count = c.entry_count-count.result in
    let e = next_left fs first count l.j v.result c.loop-j-test.true v.ensures in
    lower_first (length l.marks) (as_child an_entry v.result) (entries_left fs first count (l.j + 1)) (subst (λ es. Lower (length l.marks) es) e l.invariant.1)

pub loop-j-preserved : goal.loop-j-preserved
loop-j-preserved c =
    let m = c.use_entry-h in
    let v = c.field-entry in
    let l = c.loop-j in
    let a = c.args in
    let fs = a.fields.now in
    let first = c.field_count-before.result + c.child_count.result in
    let count = c.entry_count-count.result in
    let es = as_child an_entry v.result in
    let gs = entries_left fs first count (l.j + 1) in
    let e = next_left fs first count l.j v.result c.loop-j-test.true v.ensures in
    let ms = c.use_entry-h.new.marks in
    let kept : length ms ≡ length l.marks = c.use_entry-h.auto.marks in
    let high : highest (entries_left fs first count l.j) l.marks l.h ≡ highest gs ms m.result = ap (λ xs. highest xs l.marks l.h) e ∙ high_append es gs l.marks l.h ∙ rw (m.ensures.0, m.ensures.1) refl in
    let uses : use_all (entries_left fs first count l.j) l.marks ≡ use_all gs ms = ap (λ xs. use_all xs l.marks) e ∙ foldl-append used l.marks es gs ∙ ap (λ xs. use_all gs xs) (sym m.ensures.1) in
    let below = lower_rest (length l.marks) es gs (subst (λ xs. Lower (length l.marks) xs) e l.invariant.1) in
    (kept ∙ l.invariant.0, subst (λ q. Lower q gs) (sym kept) below, l.invariant.2 ∙ high, l.invariant.3 ∙ uses)

pub returns : goal.returns
unfolding highest
returns c =
    let l = c.loop-j in
    let a = c.args in
    let fs = a.fields.now in
    let first = c.field_count-before.result + c.child_count.result in
    let e = none_left fs first c.entry_count-count.result l.j (search rules) in
    (sym (l.invariant.2 ∙ ap (λ es. highest es l.marks l.h) e), sym (l.invariant.3 ∙ ap (λ es. use_all es l.marks) e))
