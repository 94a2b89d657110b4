-- The fields of a type that passes 7 are below 256, so that each has eight bits of the type's descriptor: they are types and domains, of which there are few.
use Prim.Native.Nat.{ℕ, zero, suc, ◌+◌, ◌-◌, ◌*◌, ◌≤◌, ◌<◌}
use native.Mathlib.Omega.{arith}
use native.Mathlib.Nat.{suc-mul}
use mathlib.Core.Path.{◌≡◌, refl, sym, ap, subst, ◌∙◌}
use mathlib.Core.Bool.{Bool, true, false, ◌&&◌}
use mathlib.Core.List.{List, [], ◌∷◌, ◌++◌}
use lib.ListN.{length}
use lib.Dec.{eqb, ltb}
use Rattle.calculus.proofs.Choices.{by_choice}
use Rattle.laws.specs.Tests.{all}
use Rattle.image.specs.Kinds.{in_domains, in_operations, in_truths, any_number, Field, a_type, own, a_term, an_entry, TypeKind, type, Row, type_row_of, lead}
use Rattle.laws.proofs.Booleans.{no_path, and_l, and_r, lt_of, ge_of, eq_of}
use Rattle.laws.proofs.Tests.{each}
use Rattle.image.proofs.EveryKind.{every_of, at_type}
use Rattle.read_records.specs.declared.numbers.Counts.{Counts}
use Rattle.read_records.specs.Counts.{Few}
use Rattle.read_records.specs.Codes.{class_number, class_numbers, group_of, last_of, classes_of, first_of, times_in}
use Rattle.read_records.specs.Heads.{field_in}
use Rattle.read_records.proofs.Codes.{Packs}
use Rattle.read_records.proofs.Classes.{first_class}
use Rattle.check_fields.specs.Fields.{type_count, Narrow, field_from}
use Rattle.check_ranges.specs.Ranges.{in_class, ranges_from, groups_from, classes_past}
use Rattle.check_ranges.specs.Numbers.{length_fits}
use Rattle.check_ranges.proofs.Numbers.{fits_exact}
use Rattle.check_layout.proofs.RecordFields.{classes_past_lem}

-- Every field of a type is a type or a domain; none stands behind the first ones and the group.
abbrev named : List Field → Bool
named [] = true
named (f ∷ fs) = ltb (class_number f) 2 && named fs

abbrev named_row : TypeKind → Bool
named_row k = let r : Row = type_row_of k in all (named r.first ∷ eqb (lead r.first) (length r.first) ∷ eqb (length r.last) 0 ∷ named r.group ∷ [])

every_named : (k : TypeKind) → named_row k ≡ true
unfolding every_of all
every_named k = at_type named_row refl k

type_named : (k : TypeKind) → named (type_row_of k).first ≡ true
type_named k = (each _ (every_named k)).0

group_named : (k : TypeKind) → named (type_row_of k).group ≡ true
group_named k = (each _ (every_named k)).1.1.1.0

no_last : (k : TypeKind) → length (type_row_of k).last ≡ 0
no_last k = eq_of (each _ (every_named k)).1.1.0

type_first : (k : TypeKind) → lead (type_row_of k).first ≡ length (type_row_of k).first
type_first k = eq_of (each _ (every_named k)).1.0

-- A type has as many fields as its kind, or as its length says.
pub type_counted : (k : TypeKind) (x n : ℕ) → Packs (type k) x → length_fits x (n + 4) ≡ true → type_count x n ≡ first_of x + (times_in x n * group_of x + last_of x)
type_counted k x n P h = by_choice (λ z. z ≡ first_of x + (times_in x n * group_of x + last_of x)) (eqb (group_of x) 0)
    (λ e.
    let g : group_of x ≡ 0 = eq_of e in
    let c = P.count ∙ type_first k in
    let f = P.first in
    let l = P.last ∙ no_last k in
    let z : first_of x + (times_in x n * group_of x + last_of x) ≡ first_of x + (times_in x n * 0 + last_of x) = ap (λ m. first_of x + (times_in x n * m + last_of x)) g in
    omega arith)
    λ e.
    let y : n + 4 - 4 ≡ n = omega arith in
    let z : n + 4 ≡ 4 + 2 * (first_of x + (times_in x n * group_of x + last_of x)) = rw y at (fits_exact x (n + 4) e h) in
    omega arith

module _ (fs : List ℕ) (n : Counts) (S : Few n) where
  -- A type or a domain in its range is below 256.
  class_narrow : (f : Field) (v : ℕ) → ltb (class_number f) 2 ≡ true → in_class n (class_number f) v ≡ true → v < 256
  class_narrow a_type v t h = let l : v < n.types = lt_of h in let m = S.types in omega arith
  class_narrow (own in_domains) v t h = let l : v < n.domains = lt_of h in let m = S.domains in omega arith
  class_narrow (own in_operations) v t h = no_path cc
  class_narrow (own in_truths) v t h = no_path cc
  class_narrow (own any_number) v t h = no_path cc
  class_narrow (a_term b) v t h = no_path cc
  class_narrow an_entry v t h = no_path cc

  -- The fields gs from field j on, whose classes stand before those of hs.
  module _ (hs : List Field) where
    range_parts : (g : Field) (gs : List Field) (j : ℕ)
        → ranges_from (suc (length gs)) (class_numbers (g ∷ (gs ++ hs))) fs n j ≡ (in_class n (class_number g) (field_in fs j) && ranges_from (length gs) (class_numbers (gs ++ hs)) fs n (suc j))
    unfolding ranges_from
    range_parts g gs j = let c = first_class g (gs ++ hs) in rw (c.0, c.1)

    field_narrow : (gs : List Field) (j : ℕ) → named gs ≡ true → ranges_from (length gs) (class_numbers (gs ++ hs)) fs n j ≡ true → (i : ℕ) → i < length gs → field_in fs (j + i) < 256
    field_narrow [] j t h i l = absurd (omega arith)
    field_narrow (g ∷ gs) j t h zero l =
        let e : j + 0 ≡ j = omega arith in
        rw e (class_narrow g _ (and_l _ _ t) (and_l _ _ (sym (range_parts g gs j) ∙ h)))
    field_narrow (g ∷ gs) j t h (suc i) l =
        let e : j + suc i ≡ suc j + i = omega arith in
        rw e (field_narrow gs (suc j) (and_r (ltb (class_number g) 2) _ t) (and_r (in_class n (class_number g) (field_in fs j)) _ (sym (range_parts g gs j) ∙ h)) i (omega arith))

    -- A group that stands c times from field j on.
    group_narrow : (gs : List Field) → named gs ≡ true → (c j : ℕ) → groups_from c (length gs) (class_numbers (gs ++ hs)) fs n j ≡ true → (i : ℕ) → i < c * length gs → field_in fs (j + i) < 256
    unfolding groups_from
    group_narrow gs t zero j h i l = absurd (omega arith)
    group_narrow gs t (suc c) j h i l = go (λ z r m. group_narrow gs t c (j + length gs) z r m) (ltb i (length gs)) refl
      where
        here : ranges_from (length gs) (class_numbers (gs ++ hs)) fs n j ≡ true
        here = and_l _ (groups_from c (length gs) (class_numbers (gs ++ hs)) fs n (j + length gs)) h

        later : groups_from c (length gs) (class_numbers (gs ++ hs)) fs n (j + length gs) ≡ true
        later = and_r (ranges_from (length gs) (class_numbers (gs ++ hs)) fs n j) _ h

        go : (groups_from c (length gs) (class_numbers (gs ++ hs)) fs n (j + length gs) ≡ true → (r : ℕ) → r < c * length gs → field_in fs (j + length gs + r) < 256) → (b : Bool) → ltb i (length gs) ≡ b → field_in fs (j + i) < 256
        go next true e = field_narrow gs j t here i (lt_of e)
        go next false e =
            let q : length gs ≤ i = ge_of e in
            let m : suc c * length gs ≡ c * length gs + length gs = suc-mul c (length gs) in
            let p : j + i ≡ j + length gs + (i - length gs) = omega arith in
            rw p (next later (i - length gs) (omega arith))

  -- The fields of a type of the code x, and 0 where it has none.
  module _ (k : TypeKind) (x : ℕ) (P : Packs (type k) x) (fit : length_fits x (length fs + 4) ≡ true) where
    first_narrow : ranges_from (first_of x) (classes_of x) fs n 0 ≡ true → (i : ℕ) → i < first_of x → field_in fs i < 256
    first_narrow h i l =
        let c = P.first in
        let from : 0 + i ≡ i = omega arith in
        let z : field_in fs (0 + i) < 256 = field_narrow ((type_row_of k).group ++ (type_row_of k).last) (type_row_of k).first 0 (type_named k) (rw (P.first, P.classes) at h) i (omega arith) in
        rw from at z

    later_narrow : groups_from (times_in x (length fs)) (group_of x) (classes_past (first_of x) (classes_of x)) fs n (first_of x) ≡ true → (i : ℕ) → i < times_in x (length fs) * group_of x → field_in fs (first_of x + i) < 256
    later_narrow h i l =
        let q : classes_past (first_of x) (classes_of x) ≡ class_numbers ((type_row_of k).group ++ (type_row_of k).last) =
        ap (λ m. classes_past m (classes_of x)) P.first ∙ (ap (classes_past (length (type_row_of k).first)) P.classes ∙ classes_past_lem (type_row_of k).first ((type_row_of k).group ++ (type_row_of k).last)) in
        let r : groups_from (times_in x (length fs)) (length (type_row_of k).group) (class_numbers ((type_row_of k).group ++ (type_row_of k).last)) fs n (first_of x) ≡ true =
        ap (λ g. groups_from (times_in x (length fs)) g (class_numbers ((type_row_of k).group ++ (type_row_of k).last)) fs n (first_of x)) (sym P.group) ∙ (ap (λ cs. groups_from (times_in x (length fs)) (group_of x) cs fs n (first_of x)) (sym q) ∙ h) in
        group_narrow (type_row_of k).last (type_row_of k).group (group_named k) (times_in x (length fs)) (first_of x) r i (subst (λ g. i < times_in x (length fs) * g) P.group l)

    pub narrow : ranges_from (first_of x) (classes_of x) fs n 0 ≡ true → groups_from (times_in x (length fs)) (group_of x) (classes_past (first_of x) (classes_of x)) fs n (first_of x) ≡ true → Narrow fs (type_count x (length fs))
    narrow h g i = go (ltb i (type_count x (length fs))) refl (ltb i (first_of x)) refl
      where
        go : (t : Bool) → ltb i (type_count x (length fs)) ≡ t → (u : Bool) → ltb i (first_of x) ≡ u → field_from fs (type_count x (length fs)) i < 256
        go true t true u = simp t (first_narrow h i (lt_of u))
        go true t false u =
            let l : i < type_count x (length fs) = lt_of t in
            let m : first_of x ≤ i = ge_of u in
            let c = type_counted k x (length fs) P fit in
            let z = P.last ∙ no_last k in
            let p : first_of x + (i - first_of x) ≡ i = omega arith in
            simp t (rw p at (later_narrow g (i - first_of x) (omega arith)))
        go false t u v = simp t (omega arith)
