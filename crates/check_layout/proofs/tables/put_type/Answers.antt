-- `check_layout::tables::put_type` meets its contract: a type is new since its key is, or since it was compared.
use mathlib.Core.Path.{◌≡◌, sym, ap, ◌∙◌}
use mathlib.Core.Bool.{true, false, not}
use borrow.Author.Tests.{not-false}
use Rattle.check_repeats.specs.NewTypes.{new_type}
use Rattle.check_repeats.specs.Keys.{key_of, new_key, with_key}
use Rattle.check_repeats.proofs.Filter.{new_by_key}
use Rattle.check_ranges.proofs.Numbers.{yes_of, no_of}
use Rattle.check_layout.proofs.Repeats.{repeated, not_repeated}
use Rattle.check_layout.proofs.tables.put_type.Goals as goal
use Rattle.check_layout.proofs.tables.put_type.Goals.{then-has_key+else-not-is_new_type, else-has_key}

pub returns-then-not-is_new_type : goal.returns-then-not-is_new_type
returns-then-not-is_new_type c =
    let a = c.args in
    let h : new_type a.image.now a.fields.now a.t.0 a.types.now a.descriptors.now a.descriptor ≡ false = no_of _ _ c.is_new_type.ensures c.if-not-is_new_type.true in
    record { answer = repeated _ h; types = rw h; descriptors = rw h; filter = rw h }

pub returns : goal.returns
returns c =
    let a = c.args in
    let unlike : c.has_key.result ≡ false → new_key a.t.0 a.filter.now (key_of a.descriptor a.fields.now) ≡ true = λ w. not-false (new_key a.t.0 a.filter.now (key_of a.descriptor a.fields.now)) (ap (λ k. not (new_key a.t.0 a.filter.now k)) (sym c.key_of-key.ensures) ∙ (sym c.has_key.ensures ∙ w)) in
    let h : new_type a.image.now a.fields.now a.t.0 a.types.now a.descriptors.now a.descriptor ≡ true = elim c.if-has_key.branch [
      | then-has_key+else-not-is_new_type w ↦ yes_of _ _ w.is_new_type.ensures w.if-not-is_new_type.false
      | else-has_key w ↦ new_by_key c.requires.4 a.fields.now a.descriptor (unlike w.if-has_key.false)
    ] in
    record { answer = not_repeated _ h; types = rw (c.from-i.ensures, h); descriptors = rw (c.from-i.ensures, h); filter = rw h (c.put_key.ensures ∙ ap (with_key a.filter.now a.t.0) c.key_of-key.ensures) }
