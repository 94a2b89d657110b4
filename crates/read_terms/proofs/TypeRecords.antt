-- What stands in the image at the offsets of a table of types, and what the fields of an object's type say of its methods (card 3).
use Prim.Native.Nat.{ℕ, zero, suc, ◌+◌, ◌*◌, ◌≤◌, ◌<◌}
use native.Mathlib.Omega.{arith}
use mathlib.Core.Path.{◌≡◌, refl, sym, ap, subst, ◌∙◌}
use mathlib.Core.List.{List, [], ◌∷◌}
use lib.ListN.{length, get_or}
use lib.Dec.{ltb}
use borrow.Author.Tests.{lt-ltb, le-ltb, ne_eqb}
use Rattle.calculus.proofs.Choices.{by_choice}
use Rattle.calculus.specs.Combinators.{choose}
use Rattle.calculus.specs.Syntax.{Ty}
use Rattle.calculus.specs.Plain.{methods_of, method_dom}
use Rattle.image.specs.Bytes.{length_at, number_at}
use Rattle.image.specs.Kinds.{TypeKind, type_row_of}
use Rattle.image.specs.Records.{Layout, times, numbers_at}
use Rattle.image.specs.Records as Records
use Rattle.image.specs.Layout.{records_of}
use Rattle.image.specs.Types.{type_place, type_kind, methods_out, type_out, type_of}
use Rattle.image.specs.LaidOut.{Stands}
use Rattle.laws.proofs.Booleans.{lt_of, ge_of}
use Rattle.image.proofs.Words.{words_length}
use Rattle.image.proofs.Laid.{TypeOk}
use Rattle.image.proofs.Counts.{fields_length}
use Rattle.image.proofs.Offsets.{number_at_lem}
use Rattle.image.proofs.TypeNumbers.{type_out_lem}
use Rattle.read_records.specs.Heads.{IsWhole, fields_at, field_in}
use Rattle.read_records.proofs.Parts.{bytes_length, field_is}
use Rattle.read_terms.specs.Lent.{TypeOffsets, IsType}
use Rattle.read_terms.specs.Methods.{method_in, type_methods}
use Rattle.read_terms.proofs.Lists.{table_long, table_at}
use Rattle.read_terms.proofs.Located.{good_of, image_is}

-- Method m is of the numbers 2 * m and 2 * m + 1.
has_method : (vs : List ℕ) (g : ℕ → Ty) (m : ℕ) → 2 * m + 1 < length vs → method_dom (methods_out vs g) m ≡ get_or vs (2 * m) 0
has_method [] g m h = absurd (omega arith)
has_method (p ∷ []) g m h = absurd (omega arith)
has_method (p ∷ a ∷ vs) g zero h = refl
has_method (p ∷ a ∷ vs) g (suc m) h =
    let e : suc (suc (2 * m)) ≡ 2 * suc m = omega arith in
    has_method vs g m (omega arith) ∙ ap (λ i. get_or (p ∷ a ∷ vs) i 0) e

no_method_lem : (vs : List ℕ) (g : ℕ → Ty) (m : ℕ) → length vs ≤ 2 * m + 1 → method_dom (methods_out vs g) m ≡ 0
no_method_lem [] g m h = refl
no_method_lem (p ∷ []) g m h = refl
no_method_lem (p ∷ a ∷ vs) g zero h = absurd (omega arith)
no_method_lem (p ∷ a ∷ vs) g (suc m) h = no_method_lem vs g m (omega arith)

-- The three cases of a method's domain.
module _ (fs : List ℕ) (m : ℕ) where
  pub no_object : (k : ℕ) → (k ≡ 25 → ⊥) → 0 ≡ method_in k fs m
  no_object k e = rw (ne_eqb k 25 e) refl

  pub past_methods : (k : ℕ) → k ≡ 25 → length fs < 4 + 4 * m → 0 ≡ method_in k fs m
  past_methods k e h = rw (e, lt-ltb _ _ h) refl

  pub the_method : (k : ℕ) → k ≡ 25 → 4 + 4 * m ≤ length fs → field_in fs (2 * m) ≡ method_in k fs m
  the_method k e h = rw (e, le-ltb _ _ h) refl

-- A type's record at o of the image b.
module _ (b : List ℕ) (o m : ℕ) (g : ℕ → Ty) (W : IsWhole b o) where
  abbrev fs : List ℕ
  fs = fields_at b o

  abbrev numbers : List ℕ
  numbers = numbers_at b o (type_row_of TypeKind.obj)

  counted : length numbers ≡ times (type_row_of TypeKind.obj) (length_at b o) * 2
  counted =
      let e = fields_length (type_row_of TypeKind.obj) (times (type_row_of TypeKind.obj) (length_at b o)) in
      let n = words_length b (o + 4) (length (Records.fields_at b o (type_row_of TypeKind.obj))) in
      omega arith

  object_method : choose (ltb (length fs) (4 + 4 * m)) 0 (field_in fs (2 * m)) ≡ method_dom (methods_out numbers g) m
  object_method = by_choice (λ z. z ≡ method_dom (methods_out numbers g) m) (ltb (length fs) (4 + 4 * m))
      (λ e.
      let h : length fs < 4 + 4 * m = lt_of e in
      let l = bytes_length b o W in
      let c = counted in
      sym (no_method_lem numbers g m (omega arith)))
      λ e.
      let h : 4 + 4 * m ≤ length fs = ge_of e in
      let l = bytes_length b o W in
      let c = counted in
      let n = words_length b (o + 4) (length (Records.fields_at b o (type_row_of TypeKind.obj))) in
      field_is b o (length_at b o) (2 * m) (omega arith) ∙ sym (has_method numbers g m (omega arith) ∙ number_at_lem b o (type_row_of TypeKind.obj) (2 * m) (omega arith))

  -- By the kind of the type; only that of an object has methods.
  out_method : (k : TypeKind) → number_at b o ≡ (type_row_of k).number → method_in (number_at b o) fs m ≡ method_dom (methods_of (type_out k (numbers_at b o (type_row_of k)) g)) m
  unfolding type_out
  out_method TypeKind.unit e = rw e refl
  out_method TypeKind.truth e = rw e refl
  out_method TypeKind.number e = rw e refl
  out_method TypeKind.pair e = rw e refl
  out_method TypeKind.fun e = rw e refl
  out_method TypeKind.ref e = rw e refl
  out_method TypeKind.label e = rw e refl
  out_method TypeKind.pcd e = rw e refl
  out_method TypeKind.adv e = rw e refl
  out_method TypeKind.obj e = rw e object_method
  out_method TypeKind.stack e = rw e refl

module _ {b table : List ℕ} (T : TypeOffsets b table) {t : ℕ} (h : IsType b t) where
  abbrev L : Layout
  L = records_of b

  abbrev p : ℕ
  p = type_place L t

  pub type_in_table : t < length table
  type_in_table = let z = table_long table L.types T.offsets in omega arith

  pub type_place_is : get_or table t 0 ≡ p
  type_place_is = table_at table L.types T.offsets t h

  -- A whole record of a type's kind stands there.
  pub type_ok : TypeOk b (length L.domains) L.types (type_kind L t) t p
  type_ok = subst (λ i. TypeOk i (length L.domains) L.types (type_kind L t) t p) (image_is b T.laid_out) ((good_of b T.laid_out).types t h)

  pub type_stands : Stands b (type_row_of (type_kind L t)) p
  type_stands = type_ok.is.stands

  pub type_whole : IsWhole b p
  type_whole = let S = type_stands in (omega (arith, S.size), S.inside)

  -- What is read there is what the type says of its methods.
  pub methods_in : (m : ℕ) → type_methods b t m ≡ method_dom (methods_of (type_of L t)) m
  methods_in m =
      out_method b p m (λ a. type_of L a) type_whole (type_kind L t) type_stands.number
      ∙ (ap (λ i. method_dom (methods_of (type_out (type_kind L t) (numbers_at i p (type_row_of (type_kind L t))) (λ a. type_of L a))) m) (sym (image_is b T.laid_out))
      ∙ ap (λ y. method_dom (methods_of y) m) (sym (type_out_lem L (good_of b T.laid_out) t h)))
