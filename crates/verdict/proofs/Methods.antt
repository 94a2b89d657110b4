-- The methods of an object's type (card 3): of the fields of its record, which are a domain and a type for each method, and of the type in full.
use Prim.Native.Nat.{ℕ, zero, suc, ◌+◌, ◌*◌, ◌<◌}
use native.Mathlib.Omega.{arith}
use mathlib.Core.Path.{◌≡◌, refl, sym, subst, ◌∙◌}
use mathlib.Core.Bool.{true}
use mathlib.Core.List.{List, [], ◌∷◌, map}
use lib.ListN.{length, get_or}
use lib.Dec.{eqb}
use Rattle.calculus.specs.Syntax.{Dom, Ty, op0, abort}
use Rattle.calculus.specs.Typing.{Policy, no_store, Has, has_first, has_later, t_abort, ◌⨾◌⊢◌⦂◌ as TmTy, ◌⊢ᵐ◌⦂◌ as BodiesTy, no_body, a_body, is_op0}
use Rattle.image.specs.Kinds.{a_type, free, TypeKind, type_row_of}
use Rattle.image.specs.Records.{Layout, fields_at}
use Rattle.image.specs.Types.{type_place, type_fields, type_field, method_count, is_type, methods_out}
use Rattle.laws.proofs.Booleans.{and_l, and_r, and_i, eq_of, of_eq}
use Rattle.image.proofs.Laid.{LayoutOk}
use Rattle.image.proofs.Words.{words_length}
use Rattle.image.proofs.TypeNumbers.{method_fields, type_kind_lem}
use Rattle.verdict.specs.Rules.{Descriptor, bodies_fit}
use Rattle.verdict.specs.Check.{described}
use Rattle.verdict.specs.WellTyped.{aborts}

-- Two fields a method.
pub two_each : (c : ℕ) → length (method_fields c) ≡ 2 * c
two_each zero = refl
two_each (suc c) = let h = two_each c in omega arith

-- The second of them is a type.
pub type_second : (c m : ℕ) → m < c → get_or (method_fields c) (2 * m + 1) free ≡ a_type
type_second zero m l = absurd (omega arith)
type_second (suc c) zero l = refl
type_second (suc c) (suc m) l = let e : 2 * suc m + 1 ≡ suc (suc (2 * m + 1)) = omega arith in rw e (type_second c m (omega arith))

module _ (g : ℕ → Ty) where
  -- Method m, by its two fields.
  pub has_method : (c : ℕ) (vs : List ℕ) → length vs ≡ 2 * c → (m : ℕ) → m < c → Has (get_or vs (2 * m) 0) (g (get_or vs (2 * m + 1) 0)) (methods_out vs g) m
  has_method zero vs n m l = absurd (omega arith)
  has_method (suc c) [] n m l = absurd (omega arith)
  has_method (suc c) (p ∷ []) n m l = absurd (omega arith)
  has_method (suc c) (p ∷ a ∷ vs) n zero l = has_first
  has_method (suc c) (p ∷ a ∷ vs) n (suc m) l =
      let e : 2 * suc m ≡ suc (suc (2 * m)) = omega arith in
      let f : suc (suc (2 * m)) + 1 ≡ suc (suc (2 * m + 1)) = omega arith in
      rw (e, f) (has_later (has_method c vs (omega arith) m (omega arith)))

  pub method_parts_lem : (c : ℕ) (vs : List ℕ) → length vs ≡ 2 * c → (m : ℕ) {p : Dom} {b : Ty} → Has p b (methods_out vs g) m → (m < c) × (get_or vs (2 * m) 0 ≡ p) × (g (get_or vs (2 * m + 1) 0) ≡ b)
  method_parts_lem zero [] n m {p = p} {b = b} h = elim h [ ]
  method_parts_lem zero (p ∷ []) n m {b = b} h = elim h [ ]
  method_parts_lem (suc c) [] n m {p = p} {b = b} h = elim h [ ]
  method_parts_lem (suc c) (p ∷ []) n m {b = b} h = elim h [ ]
  method_parts_lem zero (p ∷ a ∷ vs) n m h = absurd (omega arith)
  method_parts_lem (suc c) (p ∷ a ∷ vs) n zero has_first = (omega arith, refl, refl)
  method_parts_lem (suc c) (p ∷ a ∷ vs) n (suc m) (has_later h) =
      let r = method_parts_lem c vs (omega arith) m h in
      let e : 2 * suc m ≡ suc (suc (2 * m)) = omega arith in
      let l : suc m < suc c = let z = r.0 in omega arith in
      let f : suc (suc (2 * m)) + 1 ≡ suc (suc (2 * m + 1)) = omega arith in
      rw (e, f) (l, r.1, r.2)

  -- The bodies of an object, each of its method's type.
  module _ (D : Policy) {Δ : List Ty} where
    pub bodies_typed : (c : ℕ) (vs ts : List ℕ) → length vs ≡ 2 * c → length ts ≡ c → ((i : ℕ) → i < c → get_or vs (2 * i + 1) 0 ≡ get_or ts i 0) → BodiesTy D no_store Δ (aborts (map g ts)) (methods_out vs g)
    bodies_typed zero [] [] n k h = no_body
    bodies_typed zero [] (t ∷ ts) n k h = absurd (omega arith)
    bodies_typed zero (v ∷ vs) ts n k h = absurd (omega arith)
    bodies_typed (suc c) [] ts n k h = absurd (omega arith)
    bodies_typed (suc c) (p ∷ []) ts n k h = absurd (omega arith)
    bodies_typed (suc c) (p ∷ a ∷ vs) [] n k h = absurd (omega arith)
    bodies_typed (suc c) (p ∷ a ∷ vs) (t ∷ ts) n k h =
        let e : a ≡ t = h 0 (omega arith) in
        let rest : (i : ℕ) → i < c → get_or vs (2 * i + 1) 0 ≡ get_or ts i 0 = λ i l. let f : 2 * suc i + 1 ≡ suc (suc (2 * i + 1)) = omega arith in rw f at (h (suc i) (omega arith)) in
        rw (← e) (a_body (is_op0 t_abort) (bodies_typed c vs ts (omega arith) (omega arith) rest))

    abort_type : {p : Dom} {a t : Ty} → TmTy D no_store Δ p (op0 abort a) t → a ≡ t
    abort_type (is_op0 r) = refl

    pub bodies_types : (c : ℕ) (vs ts : List ℕ) → length vs ≡ 2 * c → BodiesTy D no_store Δ (aborts (map g ts)) (methods_out vs g) → (length ts ≡ c) × ((i : ℕ) → i < c → g (get_or vs (2 * i + 1) 0) ≡ g (get_or ts i 0))
    bodies_types zero [] (t ∷ ts) n d = elim d [ ]
    bodies_types (suc c) (p ∷ (a ∷ vs)) [] n d = elim d [ ]
    bodies_types zero [] [] n d = (refl, λ i l. absurd (omega arith))
    bodies_types zero (v ∷ vs) ts n d = absurd (omega arith)
    bodies_types (suc c) [] ts n d = absurd (omega arith)
    bodies_types (suc c) (p ∷ []) ts n d = absurd (omega arith)
    bodies_types (suc c) (p ∷ a ∷ vs) (t ∷ ts) n (a_body b d) = let e = bodies_types c vs ts (omega arith) d in (let z = e.0 in omega arith, at e.1)
      where
        at : ((i : ℕ) → i < c → g (get_or vs (2 * i + 1) 0) ≡ g (get_or ts i 0)) → (i : ℕ) → i < suc c → g (get_or (p ∷ a ∷ vs) (2 * i + 1) 0) ≡ g (get_or (t ∷ ts) i 0)
        at h zero l = sym (abort_type b)
        at h (suc i) l = let f : 2 * suc i + 1 ≡ suc (suc (2 * i + 1)) = omega arith in rw f (h i (omega arith))

module _ (L : Layout) where
  -- The test of the bodies, one by one.
  pub body_fits : (a : Descriptor) (m : ℕ) (ts : List ℕ) → bodies_fit a m (described L ts) ≡ true → (i : ℕ) → i < length ts → a.part (2 * (m + i) + 1) ≡ get_or ts i 0
  body_fits a m [] h i l = absurd (omega arith)
  body_fits a m (t ∷ ts) h zero l = let e : m + 0 ≡ m = omega arith in rw e (eq_of (and_l (eqb (a.part (2 * m + 1)) t) (bodies_fit a (suc m) (described L ts)) h))
  body_fits a m (t ∷ ts) h (suc i) l =
      let e : m + suc i ≡ suc m + i = omega arith in
      rw e (body_fits a (suc m) ts (and_r (eqb (a.part (2 * m + 1)) t) (bodies_fit a (suc m) (described L ts)) h) i (omega arith))

  pub bodies_fit_lem : (a : Descriptor) (m : ℕ) (ts : List ℕ) → ((i : ℕ) → i < length ts → a.part (2 * (m + i) + 1) ≡ get_or ts i 0) → bodies_fit a m (described L ts) ≡ true
  bodies_fit_lem a m [] h = refl
  bodies_fit_lem a m (t ∷ ts) h =
      let e : m + 0 ≡ m = omega arith in
      let first : a.part (2 * m + 1) ≡ t = rw e at (h 0 (omega arith)) in
      let rest : (i : ℕ) → i < length ts → a.part (2 * (suc m + i) + 1) ≡ get_or ts i 0 = λ i l. let f : m + suc i ≡ suc m + i = omega arith in rw f at (h (suc i) (omega arith)) in
      and_i (of_eq first) (bodies_fit_lem a (suc m) ts rest)

  -- The fields of an object's type are those of its methods.
  module _ (good : LayoutOk L) (t : ℕ) (n : t < length L.types) (h : is_type L TypeKind.obj t ≡ true) where
    pub method_fields_lem : length (type_fields L t) ≡ 2 * method_count L t
    method_fields_lem =
        let e = type_kind_lem L good TypeKind.obj t n h in
        words_length L.image _ _ ∙ rw e (two_each _)

    pub method_type : (m : ℕ) → m < method_count L t → type_field L t (2 * m + 1) < length L.types
    method_type m l =
        let e = type_kind_lem L good TypeKind.obj t n h in
        let z = (good.types t n).lower (2 * m + 1) (subst (λ k. get_or (fields_at L.image (type_place L t) (type_row_of k)) (2 * m + 1) free ≡ a_type) (sym e) (type_second _ m (rw e at l))) in
        omega arith
