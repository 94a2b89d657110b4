-- A term written anew, field by field: what stands in the output and in the numbers of its fields after the first of them, and after all.
use Prim.Native.Nat.{ℕ, zero, suc, ◌+◌, ◌-◌, ◌*◌, ◌≤◌, ◌<◌}
use native.Mathlib.Omega.{arith}
use mathlib.Core.Path.{◌≡◌, refl, sym, ap, ◌∙◌}
use mathlib.Core.Bool.{true, false}
use mathlib.Core.List.{List, [], ◌∷◌, ◌++◌, append-nil}
use lib.ListN.{length, get_or, set, take}
use lib.Seq.{take-suc-set}
use Rattle.calculus.specs.Syntax.{Ty}
use Rattle.image.specs.Kinds.{in_domains, in_operations, in_truths, any_number, Field, a_type, own, free, a_term, an_entry, term, term_row}
use Rattle.image.specs.Records.{Layout}
use Rattle.image.specs.Types.{type_of, term_kind, stated_type, others, children}
use Rattle.image.specs.TermFields.{term_fields}
use Rattle.image.proofs.Laid.{LayoutOk}
use Rattle.laws.proofs.Booleans.{no_path, of_lt}
use Rattle.base_bytes.specs.Bytes.{over}
use Rattle.base_bytes.proofs.Over.{onward}
use Rattle.read_records.specs.Codes.{class_number}
use Rattle.write_fields.specs.Classes.{is_child, child_no, as_field}
use Rattle.write_types.specs.Entries.{kept_number}
use Rattle.image_written.specs.Table.{place}
use Rattle.image_written.specs.Records.{little, record_of, bytes, image}
use Rattle.image_written.specs.Written.{terms, terms_all, roots, term_records, term_records_all}
use Rattle.image_written.proofs.Reading.{little_length}
use Rattle.image_written.proofs.Laying.{image_append}
use Rattle.image_written.proofs.Steps.{terms_snoc, records_snoc}
use Rattle.image_written.proofs.Fronts.{tree_at, trees, sorts_at, numbers_of, kids, kids_all, new_field, new_fields, front_next, front_all, tree_at_lem}

module _ (L : Layout) (T : List Ty) where
  pub child_field : (q : ℕ) (f : Field) (w : ℕ) → is_child (class_number f) w ≡ true → new_field L T q f w ≡ as_field (class_number f) (q + terms (tree_at L (child_no (class_number f) w)) - 1)
  child_field q a_type w h = no_path (sym h)
  child_field q (own in_domains) w h = no_path (sym h)
  child_field q (own in_operations) w h = no_path (sym h)
  child_field q (own in_truths) w h = no_path (sym h)
  child_field q (own any_number) w h = no_path (sym h)
  child_field q (a_term b) w h = refl
  child_field q an_entry zero h = no_path (sym h)
  child_field q an_entry (suc w) h =
      let z : w ≡ suc w - 1 = omega arith in
      let y : suc (q + terms (tree_at L w) - 1) ≡ q + terms (tree_at L w) - 1 + 1 = omega arith in
      y ∙ ap (λ c. q + terms (tree_at L c) - 1 + 1) z

  pub kept_field : (places : List ℕ) (q : ℕ) (f : Field) (w : ℕ) → is_child (class_number f) w ≡ false → (f ≡ a_type → get_or places w 0 ≡ place T (type_of L w)) → new_field L T q f w ≡ kept_number places (class_number f) w
  kept_field places q a_type w h e = sym (e refl)
  kept_field places q (own in_domains) w h e = refl
  kept_field places q (own in_operations) w h e = refl
  kept_field places q (own in_truths) w h e = refl
  kept_field places q (own any_number) w h e = refl
  kept_field places q (a_term b) w h e = no_path h
  kept_field places q an_entry zero h e = refl
  kept_field places q an_entry (suc w) h e = no_path (sym later ∙ h)
    where
      later : is_child 6 (suc w) ≡ true
      later = of_lt {m = 0} {n = suc w} (omega arith)

  -- One child more: how many terms, and their bytes.
  pub one_child : (n i c q : ℕ) → kids L n (i + 1) ≡ kids L n i ++ (c ∷ [])
      → (terms_all (trees L (kids L n (i + 1))) ≡ terms_all (trees L (kids L n i)) + terms (tree_at L c))
      × (image (term_records_all T q (trees L (kids L n (i + 1)))) ≡ image (term_records_all T q (trees L (kids L n i))) ++ image (term_records T (q + terms_all (trees L (kids L n i))) (tree_at L c)))
  one_child n i c q e = (
    ap (λ es. terms_all (trees L es)) e ∙ terms_snoc (λ j. tree_at L j) (kids L n i) c,
    ap (λ es. image (term_records_all T q (trees L es))) e ∙ ap (λ rs. image rs) (records_snoc (λ j. tree_at L j) T q (kids L n i) c)
        ∙ image_append (term_records_all T q (trees L (kids L n i))) (term_records T (q + terms_all (trees L (kids L n i))) (tree_at L c)),
  )

  -- The numbers of the first fields.
  abbrev pub first_numbers : ℕ → ℕ → ℕ → List ℕ
  first_numbers n i q = new_fields L T (take i (sorts_at L n)) (take i (numbers_of L n)) q

  pub one_number : (n i q v : ℕ) (numbers : List ℕ) → i < length (sorts_at L n) → i < length numbers → take i numbers ≡ first_numbers n i q
      → v ≡ new_field L T (q + terms_all (trees L (kids L n i))) (get_or (sorts_at L n) i free) (get_or (numbers_of L n) i 0) → take (i + 1) (set numbers i v) ≡ first_numbers n (i + 1) q
  one_number n i q v numbers l m e f =
      let z : suc i ≡ i + 1 = omega arith in
      ap (λ j. take j (set numbers i v)) (sym z) ∙ take-suc-set numbers i v m ∙ ap (λ xs. xs ++ (v ∷ [])) e ∙ ap (λ x. first_numbers n i q ++ (x ∷ [])) f ∙ sym (front_next L T n i q l) ∙ ap (λ j. first_numbers n j q) z

  -- All fields, and the record behind the children.
  module _ (good : LayoutOk L) (n q : ℕ) (h : n < length L.terms) (i : ℕ) (all : length (sorts_at L n) ≤ i) where
    abbrev B : List ℕ
    B = image (term_records_all T q (trees L (kids L n i)))

    abbrev fields : List ℕ
    fields = first_numbers n i q

    whole : term_records T q (tree_at L n) ≡ term_records_all T q (trees L (kids L n i)) ++ (record_of (term (term_kind L n)) fields ∷ [])
    unfolding term_records
    whole =
        ap (λ e. term_records T q e) (tree_at_lem L good n h)
        ∙ ap (λ es. term_records_all T q (trees L es) ++ (record_of (term (term_kind L n)) (term_fields (term_kind L n) (place T (stated_type L n)) (others L n) (roots q (trees L (children L n)))) ∷ [])) (sym (kids_all L n i all))
        ∙ ap (λ fs. term_records_all T q (trees L (kids L n i)) ++ (record_of (term (term_kind L n)) fs ∷ [])) (sym (front_all L T n i q all))

    pub all_bytes : image (term_records T q (tree_at L n)) ≡ B ++ little ((4 + 2 * length fields) ∷ (term_row (term_kind L n)).number ∷ fields)
    unfolding image bytes
    all_bytes = ap (λ rs. image rs) whole ∙ image_append (term_records_all T q (trees L (kids L n i))) (record_of (term (term_kind L n)) fields ∷ []) ∙ ap (λ b. B ++ b) (append-nil _)

    pub term_written : (out : List ℕ) {out₁ out₂ : List ℕ} (at : ℕ) → out₁ ≡ over at B out → out₂ ≡ over (at + length B) (little ((4 + 2 * length fields) ∷ (term_row (term_kind L n)).number ∷ fields)) out₁ → at + length B + (4 + 2 * length fields) ≤ length out
        → out₂ ≡ over at (image (term_records T q (tree_at L n))) out
    term_written out {out₁} {out₂} at e f capacity =
        onward B (little ((4 + 2 * length fields) ∷ (term_row (term_kind L n)).number ∷ fields)) out at (at + length B) e f refl (omega (arith, little_length ((4 + 2 * length fields) ∷ (term_row (term_kind L n)).number ∷ fields)))
        ∙ ap (λ b. over at b out) (sym all_bytes)
