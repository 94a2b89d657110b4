-- 8 of a type, by its descriptor and, if it is an object's (card 3), by its fields.
use Prim.Native.Nat.{ℕ, ◌*◌, ◌/◌, ◌<◌}
use native.Mathlib.Omega.{arith}
use mathlib.Core.Path.{◌≡◌, refl, sym, ap, subst, ◌∙◌}
use mathlib.Core.Bool.{Bool, true, false, not, ◌&&◌, ◌||◌}
use mathlib.Core.List.{List}
use mathlib.Core.Option.{some}
use lib.ListN.{length, get_or}
use lib.Seq.{get_or-take}
use lib.Dec.{eqb}
use Rattle.calculus.specs.Combinators.{choose}
use Rattle.laws.specs.Tests.{all_below}
use Rattle.image.specs.Bytes.{length_at, number_at}
use Rattle.image.specs.Kinds.{TypeKind, type, Row, type_row_of, kind_of}
use Rattle.image.specs.Records.{Layout, kind_at, numbers_at}
use Rattle.image.specs.Records as Records
use Rattle.image.specs.Layout.{same_numbers, same_type, is_new}
use Rattle.image.specs.LaidOut.{Stands}
use Rattle.image.specs.Types.{type_kind_of, type_place, type_kind}
use Rattle.laws.proofs.Booleans.{and_l, and_r, and_i, same_truth, eq_of, of_eq, no_path}
use Rattle.laws.proofs.Tests.{all_below_lem, below_all}
use Rattle.image.proofs.KindNumbers.{same_kind}
use Rattle.image.proofs.EveryKind.{every_of, at_type, or_else}
use Rattle.image.proofs.Words.{words_length}
use Rattle.image.proofs.Offsets.{number_at_lem}
use Rattle.image.proofs.Laid.{same_numbers_lem, numbers_same, kind_number, Passes, tests_passed, LayoutOk, add_good, nothing_good, same_image}
use Rattle.read_records.specs.declared.numbers.Counts.{Counts}
use Rattle.read_records.specs.Heads.{IsWhole, fields_at, field_in}
use Rattle.read_records.specs.Descriptors.{descriptor_kind, Describes}
use Rattle.read_records.proofs.Descriptors.{same_lists, same_fields_lem, same_descriptor}
use Rattle.read_records.proofs.Parts.{bytes_length, field_is}
use Rattle.check_repeats.specs.NewTypes.{is_object, same_fields, equal_type, new_type, Placed}
use Rattle.check_layout.specs.Tables.{layout_of, Tables, Reached}
use Rattle.check_layout.proofs.Sections.{all_places}
use Rattle.check_layout.proofs.Kept.{type_count_lem}

-- The records that the scan has come past are good ones.
reached_image : {b : List ℕ} {o : ℕ} {L : Layout} → Reached b o L → L.image ≡ b
reached_image Reached.start = refl
reached_image {b} (Reached.next {o} {L} r l t) = same_image L o (kind_at b o) ∙ reached_image r

pub reached_good : {b : List ℕ} {o : ℕ} {L : Layout} → Reached b o L → LayoutOk L
reached_good {b} Reached.start = nothing_good b
reached_good {b} (Reached.next {o} {L} r l t) =
    let e : kind_at L.image o ≡ kind_at b o = ap (λ i. kind_at i o) (reached_image r) in
    add_good L o (kind_at b o) e (subst (λ k. Passes L o k) e (tests_passed L o t)) (reached_good r)

stands_whole : {b : List ℕ} {r : Row} {o : ℕ} → Stands b r o → IsWhole b o
stands_whole S = (omega (arith, S.size), S.inside)

-- The fields of an object's type, as numbers and as bytes.
module _ (b : List ℕ) where
  abbrev row : Row
  row = type_row_of TypeKind.obj

  abbrev count : ℕ → ℕ
  count q = length (Records.fields_at b q row)

  bytes : (q : ℕ) → Stands b row q → length (fields_at b q) ≡ 2 * count q
  bytes q S = let e = S.exact (omega arith) in let z = bytes_length b q (stands_whole S) in omega arith

  number_in : (q : ℕ) → Stands b row q → (i : ℕ) → i < count q → field_in (fields_at b q) i ≡ get_or (numbers_at b q row) i 0
  number_in q S i l = let e = S.exact (omega arith) in field_is b q (length_at b q) i (omega arith) ∙ sym (number_at_lem b q row i l)

  module _ (o p : ℕ) (O : Stands b row o) (P : Stands b row p) where
    fields_same : same_numbers (numbers_at b o row) (numbers_at b p row) ≡ same_fields (fields_at b o) (fields_at b p)
    fields_same = same_truth _ _ to from
      where
        same : ℕ → Bool
        same i = eqb (field_in (fields_at b o) i) (field_in (fields_at b p) i)

        to : same_numbers (numbers_at b o row) (numbers_at b p row) ≡ true → same_fields (fields_at b o) (fields_at b p) ≡ true
        to h =
            let e : numbers_at b o row ≡ numbers_at b p row = numbers_same _ _ h in
            let c : count o ≡ count p = sym (words_length b _ _) ∙ (ap length e ∙ words_length b _ _) in
            let m = bytes o O in
            let n = bytes p P in
            and_i (of_eq {m = length (fields_at b o)} {n = length (fields_at b p)} (omega arith)) (below_all (length (fields_at b o) / 2) same (λ i l. of_eq (number_in o O i (omega arith) ∙ (ap (λ vs. get_or vs i 0) e ∙ sym (number_in p P i (omega arith))))))

        from : same_fields (fields_at b o) (fields_at b p) ≡ true → same_numbers (numbers_at b o row) (numbers_at b p row) ≡ true
        from h =
            let l : length (fields_at b o) ≡ length (fields_at b p) = eq_of (and_l _ (all_below (length (fields_at b o) / 2) same) h) in
            let f = and_r (eqb (length (fields_at b o)) (length (fields_at b p))) _ h in
            let m = bytes o O in
            let n = bytes p P in
            let x : length (numbers_at b o row) ≡ count o = words_length b _ _ in
            let y : length (numbers_at b p row) ≡ count p = words_length b _ _ in
            let at : (i : ℕ) → i < length (numbers_at b o row) → get_or (numbers_at b o row) i 0 ≡ get_or (numbers_at b p row) i 0 =
            λ i q. sym (number_in o O i (omega arith)) ∙ (eq_of (all_below_lem (length (fields_at b o) / 2) same f i (omega arith)) ∙ number_in p P i (omega arith)) in
            let v : numbers_at b o row ≡ numbers_at b p row = same_lists _ _ (omega arith) at in
            rw (← v) (same_numbers_lem (numbers_at b o row))

-- No other type has a group.
abbrev alone : TypeKind → Bool
alone k = eqb (type_row_of k).number (type_row_of TypeKind.obj).number || eqb (length (type_row_of k).group) 0

every_alone : (k : TypeKind) → alone k ≡ true
unfolding every_of
every_alone k = at_type alone refl k

no_group : (k : TypeKind) → eqb (type_row_of k).number (type_row_of TypeKind.obj).number ≡ false → length (type_row_of k).group ≡ 0
no_group k h = eq_of (or_else (eqb (type_row_of k).number (type_row_of TypeKind.obj).number) (eqb (length (type_row_of k).group) 0) (every_alone k) (λ z. no_path (sym z ∙ h)))

and_true : (a : Bool) → (a && true) ≡ a
and_true true = refl
and_true false = refl

and_same : (a b c : Bool) → (a ≡ true → b ≡ c) → (a && b) ≡ (a && c)
and_same true b c h = h refl
and_same false b c h = refl

module _ {b : List ℕ} {n : Counts} {ds ts ks es : List ℕ} (T : Tables b n ds ts ks es) (good : LayoutOk (layout_of b n ds ts es)) where
  abbrev L : Layout
  L = layout_of b n ds ts es

  place : (i : ℕ) → i < n.types → type_place L i ≡ get_or ts i 0
  place i l = get_or-take n.types ts i 0 l

  pub types_placed : Placed b n.types ts
  types_placed = record { at = λ i l. let c = type_count_lem T in rw (← place i l) (stands_whole (good.types i (omega arith)).is.stands) }

  -- The type at o, of kind k, with the descriptor x.
  module _ (o : ℕ) (k : TypeKind) (x : ℕ) (e : kind_of (number_at b o) ≡ some (type k)) (X : Describes b o x) (S : Stands b (type_row_of k) o) where
    abbrev object : ℕ
    object = (type_row_of TypeKind.obj).number

    descriptor_number : descriptor_kind x ≡ (type_row_of k).number
    descriptor_number = X.kind ∙ kind_number (number_at b o) (type k) e

    module _ (q : descriptor_kind x ≡ object) where
      is_object_lem : k ≡ TypeKind.obj
      is_object_lem = ap type_kind_of (same_kind (type k) (type TypeKind.obj) (sym descriptor_number ∙ q))

      also : (i : ℕ) → i < length L.types → x ≡ get_or ks i 0 → type_kind L i ≡ TypeKind.obj
      also i l f = ap type_kind_of (same_kind (type (type_kind L i)) (type TypeKind.obj) (sym (kind_number (number_at b (type_place L i)) (type (type_kind L i)) (good.types i l).kind) ∙ (sym (T.described.at i l).kind ∙ (ap descriptor_kind (sym f) ∙ q))))

      object_same : (i : ℕ) → i < length L.types → same_type b (type_row_of k) o (type_place L i) ≡ (eqb x (get_or ks i 0) && same_fields (fields_at b o) (fields_at b (get_or ts i 0)))
      object_same i l =
          let c = type_count_lem T in
          same_fields_lem b o (type_place L i) k e x (get_or ks i 0) X (T.described.at i l)
          ∙ and_same (eqb x (get_or ks i 0)) _ _ λ h.
          ap (λ j. same_numbers (numbers_at b o (type_row_of j)) (numbers_at b (type_place L i) (type_row_of j))) is_object_lem
          ∙ (fields_same b o (type_place L i) (subst (λ j. Stands b (type_row_of j) o) is_object_lem S) (subst (λ j. Stands b (type_row_of j) (type_place L i)) (also i l (eq_of h)) (good.types i l).is.stands)
          ∙ ap (λ p. same_fields (fields_at b o) (fields_at b p)) (place i (omega arith)))

    type_same : (i : ℕ) → i < length L.types → same_type b (type_row_of k) o (type_place L i) ≡ equal_type b (fields_at b o) ts ks x i
    type_same i l = go (is_object x) refl
      where
        go : (t : Bool) → is_object x ≡ t → same_type b (type_row_of k) o (type_place L i) ≡ (eqb x (get_or ks i 0) && choose t (same_fields (fields_at b o) (fields_at b (get_or ts i 0))) true)
        go true q = object_same (eq_of q) i l
        go false q = same_descriptor b o (type_place L i) k e (no_group k (ap (λ m. eqb m object) (sym descriptor_number) ∙ q)) x (get_or ks i 0) X (T.described.at i l) ∙ sym (and_true (eqb x (get_or ks i 0)))

    pub new_law : is_new (type k) o L ≡ new_type b (fields_at b o) n.types ts ks x
    new_law =
        let other : ℕ → Bool = λ i. not (equal_type b (fields_at b o) ts ks x i) in
        all_places _ L.types other (λ i l. ap not (type_same i l)) ∙ ap (λ m. all_below m other) (type_count_lem T)
