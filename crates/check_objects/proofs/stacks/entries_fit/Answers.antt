-- `check_objects::stacks::entries_fit` meets its contract: so far each entry fits, and those that are left decide.
use borrow.Author.Rules.{rules}
use mathlib.Core.Path.{◌≡◌, sym, ap, ◌∙◌}
use Prim.Native.Nat.{ℕ, ◌+◌, ◌<◌}
use mathlib.Core.List.{List}
use mathlib.Core.Bool.{Bool, ◌&&◌}
use Rattle.laws.specs.Tests.{all_of}
use Rattle.image.specs.Kinds.{an_entry}
use Rattle.image.specs.Records.{as_child}
use Rattle.image.specs.Layout.{records_of}
use Rattle.read_records.specs.Heads.{field_in}
use Rattle.read_records.proofs.Entries.{entries_left, next_left, none_left}
use Rattle.read_terms.specs.Fields.{first_entry}
use Rattle.check_rules.specs.Judged.{cut_of}
use Rattle.read_terms.proofs.Lists.{each_append}
use Rattle.check_objects.proofs.stacks.entries_fit.Goals as goal

-- One entry, whose test says r, and those behind it.
entry_decides : (ok : ℕ → Bool) (fs : List ℕ) (n i v : ℕ) (r : Bool) → i < n → v ≡ field_in fs (first_entry + i) → r ≡ all_of ok (as_child an_entry v)
    → all_of ok (entries_left fs first_entry n i) ≡ (r && all_of ok (entries_left fs first_entry n (i + 1)))
entry_decides ok fs n i v r h e q =
    ap (λ es. all_of ok es) (next_left fs first_entry n i v h e)
    ∙ (each_append ok (as_child an_entry v) (entries_left fs first_entry n (i + 1)) ∙ ap (λ x. x && all_of ok (entries_left fs first_entry n (i + 1))) (sym q))

pub returns-then-not-entry_fits : goal.returns-then-not-entry_fits
returns-then-not-entry_fits c =
    let l = c.loop-i in
    let ok = cut_of (records_of c.args.image.now) c.args.descriptors.now in
    let e = entry_decides ok c.args.fields.now c.entries_in-i-end.result l.i c.field-entry.result c.entry_fits.result c.loop-i-test.true c.field-entry.ensures c.entry_fits.ensures in
    sym (rw (c.if-not-entry_fits.true) at e) ∙ l.invariant

pub loop-i-preserved : goal.loop-i-preserved
loop-i-preserved c =
    let l = c.loop-i in
    let ok = cut_of (records_of c.args.image.now) c.args.descriptors.now in
    let e = entry_decides ok c.args.fields.now c.entries_in-i-end.result l.i c.field-entry.result c.entry_fits.result c.loop-i-test.true c.field-entry.ensures c.entry_fits.ensures in
    sym (rw (c.if-not-entry_fits.false) at e) ∙ l.invariant

pub returns : goal.returns
unfolding all_of
returns c =
    let l = c.loop-i in
    let fs = c.args.fields.now in
    let z = none_left fs first_entry c.entries_in-i-end.result l.i (search rules) in
    sym (ap (λ es. all_of (cut_of (records_of c.args.image.now) c.args.descriptors.now) es) z) ∙ l.invariant
