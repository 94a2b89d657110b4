-- The methods of an object's type (card 3), read off the image, and the rules of objects and calls on them.
use Prim.Native.Nat.{ℕ, ◌+◌, ◌*◌, ◌≤◌, ◌<◌}
use native.Mathlib.Omega.{arith}
use native.Mathlib.Numerals.{add-one}
use mathlib.Core.Path.{◌≡◌, refl, sym, ap, subst, ◌∙◌}
use mathlib.Core.Bool.{Bool, true, false}
use mathlib.Core.List.{List, [], ◌∷◌}
use lib.ListN.{length, get_or, drop, length-map, drop_of_length-le}
use lib.Seq.{drop-cons}
use lib.Dec.{eqb}
use Rattle.laws.specs.Tests.{all}
use Rattle.image.specs.Bytes.{words, length_at, field_at}
use Rattle.image.specs.Kinds.{TypeKind, TermKind, type_row_of}
use Rattle.image.specs.Records.{Layout, times}
use Rattle.image.specs.Records as Records
use Rattle.image.specs.declared.Refusal.{Refusal}
use Rattle.image.specs.Limits.{method_limit}
use Rattle.image.specs.LaidOut.{Stands}
use Rattle.image.specs.Layout.{records_of}
use Rattle.image.specs.Types.{type_place, type_kind, type_fields, type_field, method_count}
use Rattle.laws.proofs.Booleans.{lt_of}
use Rattle.laws.proofs.Tests.{each}
use Rattle.image.proofs.Offsets.{number_at_lem}
use Rattle.image.proofs.Words.{words_length}
use Rattle.image.proofs.TypeNumbers.{type_kind_lem}
use Rattle.verdict.specs.Answers.{refused_at}
use Rattle.verdict.specs.Settings.{Setting}
use Rattle.verdict.specs.Rules.{Descriptor, is, bodies_fit}
use Rattle.verdict.specs.Check.{describe, described}
use Rattle.verdict.proofs.Methods.{method_fields_lem}
use Rattle.read_records.specs.Heads.{fields_at, field_in}
use Rattle.read_records.proofs.Parts.{bytes_length, field_is}
use Rattle.read_terms.specs.Lent.{Types, TypeOffsets, IsType, IsObject}
use Rattle.read_terms.specs.Fields.{types_in, count_in}
use Rattle.check_rules.specs.Rules.{rule_in}
use Rattle.check_rules.specs.Judged.{judged, call_fits}
use Rattle.read_terms.specs.Descriptors.{descriptor_is}
use Rattle.read_terms.proofs.Descriptors.{describes}
use Rattle.read_terms.proofs.Located.{good_of, image_is}
use Rattle.read_terms.proofs.TypeRecords.{type_stands, type_whole}
use Rattle.check_rules.proofs.Small.{alone, holds_first, fails_first, mistyped}
use Rattle.check_rules.proofs.OnDescriptors.{type_at_field, types_length}

module _ {b table : List ℕ} (T : TypeOffsets b table) (t : ℕ) (O : IsObject b t) where
  abbrev L : Layout
  L = records_of b

  abbrev o : ℕ
  o = type_place L t

  is_obj : type_kind L t ≡ TypeKind.obj
  is_obj = type_kind_lem L (good_of b T.laid_out) TypeKind.obj t O.there O.object

  object_stands : Stands b (type_row_of TypeKind.obj) o
  object_stands = subst (λ k. Stands b (type_row_of k) o) is_obj (type_stands T O.there)

  fields_object : length (type_fields L t) ≡ length (Records.fields_at b o (type_row_of TypeKind.obj))
  fields_object =
      words_length L.image _ _
      ∙ (ap (λ i. length (Records.fields_at i o (type_row_of (type_kind L t)))) (image_is b T.laid_out) ∙ ap (λ k. length (Records.fields_at b o (type_row_of k))) is_obj)

  -- Two fields of two bytes each method.
  pub method_bytes : length (fields_at b o) ≡ 4 * method_count L t
  method_bytes =
      let S = object_stands in
      let l = bytes_length b o (type_whole T O.there) in
      let e = S.exact (omega arith) in
      let c : length (type_fields L t) ≡ 2 * method_count L t = method_fields_lem L (good_of b T.laid_out) t O.there O.object in
      let w = fields_object in
      omega arith

  pub few_methods : method_count L t ≤ method_limit
  few_methods =
      let e : method_count L t ≡ times (type_row_of TypeKind.obj) (length_at b o) =
      ap (λ i. times (type_row_of (type_kind L t)) (length_at i o)) (image_is b T.laid_out) ∙ ap (λ k. times (type_row_of k) (length_at b o)) is_obj in
      rw e object_stands.most

  pub method_field : (i : ℕ) → i < 2 * method_count L t → field_in (fields_at b o) i ≡ type_field L t i
  method_field i l =
      let S = object_stands in
      let e = S.exact (omega arith) in
      let c : length (type_fields L t) ≡ 2 * method_count L t = method_fields_lem L (good_of b T.laid_out) t O.there O.object in
      let w = fields_object in
      let v = words_length L.image (o + 4) (length (Records.fields_at L.image o (type_row_of (type_kind L t)))) in
      field_is b o (length_at b o) i (omega arith)
      ∙ (ap (λ j. field_at j o i) (sym (image_is b T.laid_out)) ∙ sym (number_at_lem L.image o (type_row_of (type_kind L t)) i (omega arith)))

-- The test of the bodies, from body i on.
module _ (L : Layout) (a : Descriptor) (ts : List ℕ) (i : ℕ) where
  pub fit_more : i < length ts → eqb (a.part (2 * i + 1)) (get_or ts i 0) ≡ true → bodies_fit a (i + 1) (described L (drop (i + 1) ts)) ≡ bodies_fit a i (described L (drop i ts))
  fit_more h e = rw (drop-cons ts i 0 h, e, add-one)

  pub fit_fails : i < length ts → eqb (a.part (2 * i + 1)) (get_or ts i 0) ≡ false → false ≡ bodies_fit a i (described L (drop i ts))
  fit_fails h e = rw (drop-cons ts i 0 h, e)

  pub fit_ends : length ts ≤ i → true ≡ bodies_fit a i (described L (drop i ts))
  fit_ends h = rw (drop_of_length-le ts h)

-- What a type's descriptor tells of its kind.
module _ {b descriptors : List ℕ} (K : Types b descriptors) {t : ℕ} (h : IsType b t) where
  pub kind_told : descriptor_is (get_or descriptors t 0) TypeKind.obj ≡ is TypeKind.obj (describe (records_of b) t)
  kind_told = sym (ap (λ d. is TypeKind.obj d) (describes K h))

  -- The same of a program's test r of the descriptor x.
  module _ {r : Bool} {x : ℕ} (seen : r ≡ descriptor_is x TypeKind.obj) (descriptor : x ≡ get_or descriptors t 0) where
    pub kind_seen : r ≡ is TypeKind.obj (describe (records_of b) t)
    kind_seen = seen ∙ (ap (λ y. descriptor_is y TypeKind.obj) descriptor ∙ kind_told)

    pub object_seen : r ≡ true → IsObject b t
    object_seen e = record { there = h; object = sym kind_seen ∙ e }

-- Three tests in a row, of which the first fails, the second does, or both hold.
module _ (x y z : Bool) where
  pub first_fails : x ≡ false → false ≡ all (x ∷ y ∷ z ∷ [])
  first_fails h = sym h ∙ fails_first x (y ∷ z ∷ []) h

  pub second_fails : x ≡ true → y ≡ false → false ≡ all (x ∷ y ∷ z ∷ [])
  second_fails g h = sym h ∙ (fails_first y (z ∷ []) h ∙ holds_first x (y ∷ z ∷ []) g)

  pub third_tells : x ≡ true → y ≡ true → z ≡ all (x ∷ y ∷ z ∷ [])
  third_tells g h = sym (alone z) ∙ (holds_first y (z ∷ []) h ∙ holds_first x (y ∷ z ∷ []) g)

-- How many bodies there are, as the rule counts them.
pub bodies_counted : (b fs : List ℕ) → length (described (records_of b) (types_in b fs TermKind.obj)) ≡ count_in fs TermKind.obj
bodies_counted b fs = length-map (types_in b fs TermKind.obj) (λ a. describe (records_of b) a) ∙ types_length b fs TermKind.obj refl

-- A call: its object is its one child, the method's number its one other field.
module _ (b fs : List ℕ) (p : Setting ℕ) (place : ℕ) where
  abbrev fitting : Bool
  fitting = call_fits (records_of b) (type_at_field b fs 1) (field_in fs 2) (field_in fs 0)

  abbrev running : Bool
  running = eqb (type_field (records_of b) (type_at_field b fs 1) (2 * field_in fs 2)) p.dom

  call_rule : judged place (record { bound = true; typed = fitting; allowed = running }) ≡ judged place (rule_in b fs TermKind.call p)
  unfolding words
  call_rule = refl

  pub call_refused : fitting ≡ false → refused_at Refusal.TypeRule place ≡ judged place (rule_in b fs TermKind.call p)
  call_refused h = mistyped place true fitting running refl h ∙ call_rule

  pub call_judged : (d : Bool) → fitting ≡ true → d ≡ running → judged place (record { bound = true; typed = true; allowed = d }) ≡ judged place (rule_in b fs TermKind.call p)
  call_judged d h e =
      ap (λ x. judged place (record { bound = true; typed = x; allowed = d })) (sym h) ∙ (ap (λ x. judged place (record { bound = true; typed = fitting; allowed = x })) e ∙ call_rule)

-- What a call that fits tells of the object's type.
pub call_tells : (b : List ℕ) (a m t : ℕ) → IsType b a → call_fits (records_of b) a m t ≡ true → IsObject b a × (m < method_count (records_of b) a)
call_tells b a m t h e = let z = each _ e in (record { there = h; object = z.0 }, lt_of z.1.0)
