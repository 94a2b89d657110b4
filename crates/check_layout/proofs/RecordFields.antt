-- The fields of a record, read in the part of the image that they occupy: 7, and the descriptor of a type.
use Prim.Native.Nat.{ℕ, zero, suc, ◌+◌, ◌*◌, ◌/◌, ◌≤◌, ◌<◌}
use native.Mathlib.Omega.{arith}
use native.Mathlib.Nat.{suc-mul}
use mathlib.Core.Path.{◌≡◌, refl, sym, ap, ◌∙◌}
use mathlib.Core.Bool.{Bool, true, ◌&&◌, and-true, and_assoc}
use mathlib.Core.List.{List, [], ◌∷◌, ◌++◌, append-nil, append_assoc}
use lib.ListN.{length}
use lib.Dec.{ltb, leb, leb-suc-suc}
use Rattle.image.specs.Bytes.{words, number_at, field_at}
use Rattle.image.specs.Kinds.{in_domains, in_operations, in_truths, any_number, Field, a_type, own, a_term, an_entry, Row, row_of, again}
use Rattle.image.specs.Records.{Layout, kind_at, fields_at}
use Rattle.image.specs.Layout.{within, all_within}
use Rattle.laws.proofs.Booleans.{lt_of, ge_of, by_test}
use Rattle.read_records.specs.declared.numbers.Counts.{Counts}
use Rattle.read_records.specs.Codes.{class_number, class_numbers}
use Rattle.read_records.specs.Heads.{field_bytes, field_in}
use Rattle.read_records.specs.Descriptors.{field_or0, Describes}
use Rattle.read_records.proofs.Classes.{first_class}
use Rattle.read_records.proofs.Descriptors.{has_field, no_field}
use Rattle.read_records.proofs.Parts.{field_is}
use Rattle.check_fields.specs.Fields.{field_from, DescriptorFrom}
use Rattle.check_ranges.specs.Ranges.{in_class, ranges_from, groups_from, classes_past}

-- The classes behind those of some fields.
pub classes_past_lem : (gs hs : List Field) → classes_past (length gs) (class_numbers (gs ++ hs)) ≡ class_numbers hs
unfolding classes_past
classes_past_lem [] hs = refl
classes_past_lem (g ∷ gs) hs = ap (classes_past (length gs)) (first_class g (gs ++ hs)).1 ∙ classes_past_lem gs hs

pub past_both : (m n cs : ℕ) → classes_past (m + n) cs ≡ classes_past n (classes_past m cs)
unfolding classes_past
past_both zero n cs = let e : 0 + n ≡ n = omega arith in ap (λ k. classes_past k cs) e
past_both (suc m) n cs = let e : suc m + n ≡ suc (m + n) = omega arith in ap (λ k. classes_past k cs) e ∙ past_both m n (cs / 8)

module _ (L : Layout) (n : Counts) (types : length L.types ≡ n.types) (domains : length L.domains ≡ n.domains) (terms : length L.terms ≡ n.terms) where
  -- A field in its range is in that of its class's number.
  within_class : (f : Field) (v : ℕ) → within L f v ≡ in_class n (class_number f) v
  within_class a_type v = ap (ltb v) types
  within_class (own in_domains) v = ap (ltb v) domains
  within_class (own in_operations) v = refl
  within_class (own in_truths) v = sym (leb-suc-suc v 1)
  within_class (own any_number) v = refl
  within_class (a_term b) v = ap (ltb v) terms
  within_class an_entry v = ap (leb v) terms

  -- The record of q bytes at o.
  module _ (o q : ℕ) where
    abbrev part : List ℕ
    part = field_bytes L.image o q

    -- The fields fs, from field i on.
    abbrev within_from : List Field → ℕ → Bool
    within_from fs i = all_within L fs (words L.image (o + 4 + 2 * i) (length fs))

    -- Some of them, and the others behind these.
    run_part : (gs hs rest : List Field) (i : ℕ) → 4 + 2 * (i + length gs) ≤ q
        → within_from (gs ++ rest) i ≡ (ranges_from (length gs) (class_numbers (gs ++ hs)) part n i && within_from rest (i + length gs))
    unfolding all_within ranges_from words
    run_part [] hs rest i h = let e : i ≡ i + 0 = omega arith in ap (within_from rest) e
    run_part (g ∷ gs) hs rest i h =
        let w : field_in part i ≡ field_at L.image o i = field_is L.image o q i (omega arith) in
        let x : within L g (field_at L.image o i) ≡ in_class n (class_number g) (field_in part i) = within_class g (field_at L.image o i) ∙ ap (in_class n (class_number g)) (sym w) in
        let y = run_part gs hs rest (suc i) (omega arith) in
        let c = first_class g (gs ++ hs) in
        let d : o + 4 + 2 * i + 2 ≡ o + 4 + 2 * suc i = omega arith in
        let e : suc i + length gs ≡ i + suc (length gs) = omega arith in
        rw (d, x, y, c.0, c.1, e) (sym (and_assoc (in_class n (class_number g) (field_in part i)) (ranges_from (length gs) (class_numbers (gs ++ hs)) part n (suc i)) (within_from rest (i + suc (length gs)))))

    -- A group that stands c times, and the others behind it.
    groups_part : (gs hs rest : List Field) (c i : ℕ) → 4 + 2 * (i + c * length gs) ≤ q
        → within_from (again c gs ++ rest) i ≡ (groups_from c (length gs) (class_numbers (gs ++ hs)) part n i && within_from rest (i + c * length gs))
    unfolding groups_from
    groups_part gs hs rest zero i h = let e : i ≡ i + 0 * length gs = omega arith in ap (within_from rest) e
    groups_part gs hs rest (suc c) i h =
        let m : suc c * length gs ≡ c * length gs + length gs = suc-mul c (length gs) in
        let a : (gs ++ again c gs) ++ rest ≡ gs ++ (again c gs ++ rest) = append_assoc gs (again c gs) rest in
        let x = run_part gs hs (again c gs ++ rest) i (omega arith) in
        let y = groups_part gs hs rest c (i + length gs) (omega arith) in
        let e : i + length gs + c * length gs ≡ i + suc c * length gs = omega arith in
        rw (a, x, y, e)
        (sym
        (and_assoc (ranges_from (length gs) (class_numbers (gs ++ hs)) part n i) (groups_from c (length gs) (class_numbers (gs ++ hs)) part n (i + length gs)) (within_from rest (i + suc c * length gs))))

    -- The last fields.
    last_part : (gs : List Field) (i : ℕ) → 4 + 2 * (i + length gs) ≤ q → within_from gs i ≡ ranges_from (length gs) (class_numbers gs) part n i
    unfolding all_within words
    last_part gs i h =
        let x : within_from (gs ++ []) i ≡ (ranges_from (length gs) (class_numbers (gs ++ [])) part n i && true) = run_part gs [] [] i h in
        rw (append-nil gs) at x ∙ and-true _

    -- All of them.
    pub all_part : (r : Row) (c : ℕ) → 4 + 2 * (length r.first + (c * length r.group + length r.last)) ≤ q
        → within_from (r.first ++ (again c r.group ++ r.last)) 0
        ≡ (ranges_from (length r.first) (class_numbers (r.first ++ (r.group ++ r.last))) part n 0
        && (groups_from c (length r.group) (class_numbers (r.group ++ r.last)) part n (length r.first)
        && ranges_from (length r.last) (class_numbers r.last) part n (length r.first + c * length r.group)))
    all_part r c h =
        let z : 0 + length r.first ≡ length r.first = omega arith in
        let x = run_part r.first (r.group ++ r.last) (again c r.group ++ r.last) 0 (omega arith) in
        let y = groups_part r.group r.last r.last c (length r.first) (omega arith) in
        let w = last_part r.last (length r.first + c * length r.group) (omega arith) in
        x ∙ rw (z, y, w) refl

-- The descriptor.
module _ (b : List ℕ) (o n : ℕ) where
  field_part : (q i : ℕ) → 4 + 2 * q ≤ n → q ≡ length (fields_at b o (row_of (kind_at b o))) → field_from (field_bytes b o n) q i ≡ field_or0 b o i
  field_part q i h e = by_test (ltb i q)
      (λ t. let l : i < q = lt_of t in simp t (field_is b o n i (omega arith) ∙ sym (has_field b o i (omega arith))))
      λ t. let l : q ≤ i = ge_of t in simp t (sym (no_field b o i (omega arith)))

  pub descriptor_part : (q k x : ℕ) → 4 + 2 * q ≤ n → q ≡ length (fields_at b o (row_of (kind_at b o))) → k ≡ number_at b o → DescriptorFrom (field_bytes b o n) q k x → Describes b o x
  descriptor_part q k x h e d K =
      record {
        kind = K.kind ∙ d;
        field0 = K.field0 ∙ field_part q 0 h e;
        field1 = K.field1 ∙ field_part q 1 h e;
        field2 = K.field2 ∙ field_part q 2 h e;
      }
