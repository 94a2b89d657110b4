-- The first of 2 to 8 that a whole record fails, from its tests on numbers.
use Prim.Native.Nat.{ℕ, ◌+◌, ◌-◌, ◌*◌}
use native.Mathlib.Omega.{arith}
use mathlib.Core.Path.{◌≡◌, refl, sym, ap, ◌∙◌}
use mathlib.Core.Bool.{Bool, true, false, and-true}
use mathlib.Core.List.{List, [], ◌∷◌, ◌++◌}
use mathlib.Core.Option.{Option, none, some}
use lib.ListN.{length}
use Rattle.image.specs.declared.Refusal.{Refusal}
use Rattle.laws.specs.Tests.{all, first_fault}
use Rattle.image.specs.Bytes.{words, length_at, number_at}
use Rattle.image.specs.Kinds.{Kind, Row, row_of, kind_of, fields_of}
use Rattle.image.specs.Records.{times, Layout}
use Rattle.image.specs.Layout.{right_length, in_order_of, has_capacity, all_within, in_range, is_new, tests}
use Rattle.laws.proofs.Booleans.{no_path}
use Rattle.read_records.specs.declared.numbers.Counts.{Counts}
use Rattle.read_records.specs.Codes.{class_numbers, times_in, code_at}
use Rattle.read_records.specs.Heads.{field_bytes, fields_at}
use Rattle.read_records.proofs.Codes.{known_code, times_in_lem}
use Rattle.read_records.proofs.Heads.{Whole}
use Rattle.read_records.proofs.Parts.{bytes_length}
use Rattle.check_ranges.specs.Numbers.{length_fits, range_fits, number_tests}
use Rattle.check_layout.specs.Tables.{layout_of, Tables}
use Rattle.check_ranges.proofs.Numbers.{four, fits_size}
use Rattle.check_layout.proofs.RecordFields.{classes_past_lem, past_both, all_part}
use Rattle.check_layout.proofs.Sections.{right_length_lem, order_law, capacity_law}
use Rattle.check_layout.proofs.Kept.{type_count_lem, domain_count, term_count_lem}

-- 4 to 8, of which 7 need only be the same where 4 holds.
five : Bool → Bool → Bool → Bool → Bool → List (Refusal × Bool)
five a b c d e = (Refusal.WrongLength, a) ∷ (Refusal.SectionOrder, b) ∷ (Refusal.TooManyRecords, c) ∷ (Refusal.FieldRange, d) ∷ (Refusal.RepeatedType, e) ∷ []

abbrev pub or_else : Option Refusal → Option Refusal → Option Refusal
or_else (some r) q = some r
or_else none q = q

same_five : (a b c d d' e : Bool) → (a ≡ true → d ≡ d') → first_fault (five a b c d e) ≡ or_else (first_fault (four a b c d')) (first_fault ((Refusal.RepeatedType, e) ∷ []))
unfolding five first_fault
same_five false b c d d' e h = refl
same_five true false c d d' e h = refl
same_five true true false d d' e h = refl
same_five true true true true true e h = refl
same_five true true true false false e h = refl
same_five true true true true false e h = no_path (h refl)
same_five true true true false true e h = no_path (sym (h refl))

module _ {b : List ℕ} {o q k : ℕ} (W : Whole b o q k) {n : Counts} {ds ts ks es : List ℕ} (T : Tables b n ds ts ks es) where
  abbrev L : Layout
  L = layout_of b n ds ts es

  -- 3
  pub unknown : kind_of (number_at b o) ≡ none → first_fault (tests L o) ≡ some Refusal.UnknownKind
  unfolding tests first_fault
  unknown e = rw (W.framed, e)

  known_tests : (K : Kind) → kind_of (number_at b o) ≡ some K
      → first_fault (tests L o) ≡ first_fault (five (right_length (row_of K) (length_at b o)) (in_order_of K L) (has_capacity K L) (in_range L o (row_of K)) (is_new K o L))
  unfolding tests first_fault five
  known_tests K e = rw (W.framed, e)

  -- 7 need only be the same where 4 holds.
  range_law : (K : Kind) → kind_of (number_at b o) ≡ some K → length_fits (code_at (number_at b o)) (length_at b o) ≡ true
      → in_range L o (row_of K) ≡ range_fits (fields_at b o) (code_at (number_at b o)) n
  unfolding all
  range_law K e f =
      let r : Row = row_of K in
      let x : ℕ = code_at (number_at b o) in
      let P = known_code (number_at b o) K e in
      let m : ℕ = length_at b o in
      let c : times_in x (m - 4) ≡ times r m = times_in_lem K x m P in
      let size = rw (c, P.first, P.group, P.last) at (fits_size x m f) in
      let full : length (fields_at b o) ≡ m - 4 = bytes_length b o (omega arith, omega arith) in
      let y = all_part L n (type_count_lem T) (domain_count T) (term_count_lem T) o m r (times r m) (omega arith) in
      let u = classes_past_lem r.first (r.group ++ r.last) in
      let v = past_both (length r.first) (length r.group) (class_numbers (r.first ++ (r.group ++ r.last))) in
      let w = classes_past_lem r.group r.last in
      let z : o + 4 ≡ o + 4 + 2 * 0 = omega arith in
      let q : in_range L o r ≡ all_within L (fields_of r (times r m)) (words L.image (o + 4 + 2 * 0) (length (fields_of r (times r m)))) = ap (λ p. all_within L (fields_of r (times r m)) (words L.image p (length (fields_of r (times r m))))) z in
      q ∙ y ∙ rw (full, c, P.first, P.group, P.last, P.classes, v, u, w) (simp and-true)

  pub known_law : (K : Kind) → kind_of (number_at b o) ≡ some K
      → first_fault (tests L o) ≡ or_else (first_fault (number_tests (field_bytes b o q) (code_at k) n)) (first_fault ((Refusal.RepeatedType, is_new K o L) ∷ []))
  known_law K e =
      let P = known_code (number_at b o) K e in
      let full : length (fields_at b o) + 4 ≡ length_at b o = let z = bytes_length b o (omega arith, omega arith) in omega arith in
      let x = right_length_lem K (code_at (number_at b o)) (length_at b o) P in
      let y = order_law L n (type_count_lem T) (domain_count T) (term_count_lem T) K (code_at (number_at b o)) P in
      let z = capacity_law L n (type_count_lem T) (domain_count T) (term_count_lem T) K (code_at (number_at b o)) P in
      rw (W.len, W.kind, full) (known_tests K e ∙ rw (x, y, z) (same_five _ _ _ _ _ _ (range_law K e)))
