-- `check_uses::children::enter_children` meets its contract: those side by side come before the entries.
use mathlib.Core.Path.{refl, sym, subst, ◌∙◌}
use mathlib.Core.List.{foldl-append}
use lib.Dec.{lit<}
use Rattle.read_records.specs.Heads.{side_of, entries_of}
use Rattle.check_uses.specs.Marks.{Lower, used}
use Rattle.check_uses.proofs.ChildByChild.{lower_rest, high_append, high_low}
use borrow.Author.Rules.{rules}
use Rattle.check_uses.proofs.children.enter_children.Goals as goal

pub use_entries-h-requires : goal.use_entries-h-requires
use_entries-h-requires c =
    let es = entries_of c.args.code c.args.fields.now in
    (c.requires.0, subst (λ n. Lower n es) (sym c.use_side-side.auto.marks) (lower_rest _ (side_of c.args.code c.args.fields.now) es c.requires.2))

pub set_height-requires : goal.set_height-requires
set_height-requires c =
    (search rules, high_low _ _ _ _ c.use_entries-h.ensures.0 (high_low _ _ 0 _ c.use_side-side.ensures.0 (lit< tt)))

pub returns : goal.returns
returns c =
    let a = c.args in
    let fs = a.fields.now in
    let cs = side_of a.code fs in
    let gs = entries_of a.code fs in
    c.set_height.ensures ∙ rw (foldl-append used a.marks.now cs gs, high_append cs gs a.marks.now 0, c.use_entries-h.ensures.0, c.use_entries-h.ensures.1, c.use_side-side.ensures.0, c.use_side-side.ensures.1) refl
