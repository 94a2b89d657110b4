-- The types of a layout: each is what its record says of its parts, and no two numbers have the same type.
use Prim.Native.Nat.{ℕ, zero, suc, ◌≤◌, ◌<◌}
use native.Mathlib.Omega.{arith}
use mathlib.Core.Path.{◌≡◌, refl, sym, ap, subst, ◌∙◌}
use mathlib.Core.Bool.{Bool, true, false}
use mathlib.Core.List.{List, [], ◌∷◌, ◌++◌}
use lib.ListN.{length, get_or}
use lib.Dec.{ltb}
use Rattle.calculus.specs.Syntax.{Ty, Sigs, no_method, method}
use Rattle.image.specs.Bytes.{length_at}
use Rattle.image.specs.Kinds.{Field, a_type, free, TypeKind, type, type_row_of, again, fields_of}
use Rattle.image.specs.Records.{Layout, times, fields_at, numbers_at}
use Rattle.image.specs.Layout.{same_type}
use Rattle.image.specs.Types.{type_kind_of, head_of, type_place, type_number, type_kind, type_fields, type_field, is_type, methods_out, type_out, type_from, type_of}
use Rattle.laws.proofs.Booleans.{no_path, lt_of, ge_of, eq_of, of_eq}
use Rattle.laws.proofs.Tests.{of_each}
use Rattle.image.proofs.KindNumbers.{same_kind}
use Rattle.image.proofs.Words.{words_length}
use Rattle.image.proofs.Laid.{same_numbers_lem, LayoutOk, kind_number}

head_out : (k : TypeKind) (vs : List ℕ) (g : ℕ → Ty) → head_of (type_out k vs g) ≡ k
unfolding type_out
head_out TypeKind.unit vs g = refl
head_out TypeKind.truth vs g = refl
head_out TypeKind.number vs g = refl
head_out TypeKind.pair vs g = refl
head_out TypeKind.fun vs g = refl
head_out TypeKind.ref vs g = refl
head_out TypeKind.label vs g = refl
head_out TypeKind.pcd vs g = refl
head_out TypeKind.adv vs g = refl
head_out TypeKind.obj vs g = refl
head_out TypeKind.stack vs g = refl

abbrev is_method : Sigs → Bool
is_method no_method = false
is_method (method p a ms) = true

-- The fields of a type's record of so many bytes.
abbrev fields_in : TypeKind → ℕ → List Field
fields_in k n = fields_of (type_row_of k) (times (type_row_of k) n)

-- The fields of an object's type with c methods (card 3); its methods agree where their types do.
abbrev pub method_fields : ℕ → List Field
method_fields c = again c (type_row_of TypeKind.obj).group ++ []

methods_cong : (c : ℕ) (vs : List ℕ) (g h : ℕ → Ty) → length vs ≡ length (method_fields c) → ((i : ℕ) → get_or (method_fields c) i free ≡ a_type → g (get_or vs i 0) ≡ h (get_or vs i 0)) → methods_out vs g ≡ methods_out vs h
methods_cong c [] g h l e = refl
methods_cong c (p ∷ []) g h l e = refl
methods_cong zero (p ∷ a ∷ vs) g h l e = absurd (omega arith)
methods_cong (suc c) (p ∷ a ∷ vs) g h l e = cc (e 1 refl, methods_cong c vs g h (omega arith) (λ i. e (suc (suc i))))

-- Types agree where their parts do, and the other way round.
pub out_cong : (k : TypeKind) (n : ℕ) (vs : List ℕ) (g h : ℕ → Ty) → length vs ≡ length (fields_in k n)
    → ((i : ℕ) → get_or (fields_in k n) i free ≡ a_type → g (get_or vs i 0) ≡ h (get_or vs i 0)) → type_out k vs g ≡ type_out k vs h
unfolding type_out
out_cong TypeKind.unit n vs g h l e = refl
out_cong TypeKind.truth n vs g h l e = refl
out_cong TypeKind.number n vs g h l e = refl
out_cong TypeKind.pair n vs g h l e = cc (e 0 refl, e 1 refl)
out_cong TypeKind.fun n vs g h l e = cc (e 0 refl, e 2 refl)
out_cong TypeKind.ref n vs g h l e = cc (e 0 refl)
out_cong TypeKind.label n vs g h l e = cc (e 0 refl)
out_cong TypeKind.pcd n vs g h l e = cc (e 0 refl)
out_cong TypeKind.adv n vs g h l e = refl
out_cong TypeKind.obj n vs g h l e = ap Ty.object (methods_cong (times (type_row_of TypeKind.obj) n) vs g h l e)
out_cong TypeKind.stack n vs g h l e = refl

-- Lists of the same few numbers.
same0 : (vs ws : List ℕ) → length vs ≡ 0 → length ws ≡ 0 → vs ≡ ws
same0 [] [] l m = refl
same0 [] (w ∷ ws) l m = absurd (omega arith)
same0 (v ∷ vs) ws l m = absurd (omega arith)

same1 : (vs ws : List ℕ) → length vs ≡ 1 → length ws ≡ 1 → get_or vs 0 0 ≡ get_or ws 0 0 → vs ≡ ws
same1 [] ws l m h = absurd (omega arith)
same1 (v ∷ vs) [] l m h = absurd (omega arith)
same1 (v ∷ vs) (w ∷ ws) l m h = cc (h, same0 vs ws (omega arith) (omega arith))

same2 : (vs ws : List ℕ) → length vs ≡ 2 → length ws ≡ 2 → get_or vs 0 0 ≡ get_or ws 0 0 → get_or vs 1 0 ≡ get_or ws 1 0 → vs ≡ ws
same2 [] ws l m h k = absurd (omega arith)
same2 (v ∷ vs) [] l m h k = absurd (omega arith)
same2 (v ∷ vs) (w ∷ ws) l m h k = cc (h, same1 vs ws (omega arith) (omega arith) k)

same3 : (vs ws : List ℕ) → length vs ≡ 3 → length ws ≡ 3 → get_or vs 0 0 ≡ get_or ws 0 0 → get_or vs 1 0 ≡ get_or ws 1 0 → get_or vs 2 0 ≡ get_or ws 2 0 → vs ≡ ws
same3 [] ws l m h k j = absurd (omega arith)
same3 (v ∷ vs) [] l m h k j = absurd (omega arith)
same3 (v ∷ vs) (w ∷ ws) l m h k j = cc (h, same2 vs ws (omega arith) (omega arith) k j)

methods_agree : (c d : ℕ) (vs ws : List ℕ) (g : ℕ → Ty) → length vs ≡ length (method_fields c) → length ws ≡ length (method_fields d) → methods_out vs g ≡ methods_out ws g
    → ((i : ℕ) → get_or (method_fields c) i free ≡ a_type → get_or (method_fields d) i free ≡ a_type → g (get_or vs i 0) ≡ g (get_or ws i 0) → get_or vs i 0 ≡ get_or ws i 0) → vs ≡ ws
methods_agree zero zero vs ws g l m h ih = same0 vs ws l m
methods_agree zero (suc d) vs [] g l m h ih = absurd (omega arith)
methods_agree zero (suc d) vs (q ∷ []) g l m h ih = absurd (omega arith)
methods_agree zero (suc d) [] (q ∷ b ∷ ws) g l m h ih = no_path (sym (ap is_method h))
methods_agree zero (suc d) (p ∷ vs) (q ∷ b ∷ ws) g l m h ih = absurd (omega arith)
methods_agree (suc c) d [] ws g l m h ih = absurd (omega arith)
methods_agree (suc c) d (p ∷ []) ws g l m h ih = absurd (omega arith)
methods_agree (suc c) zero (p ∷ a ∷ vs) [] g l m h ih = no_path (ap is_method h)
methods_agree (suc c) zero (p ∷ a ∷ vs) (q ∷ ws) g l m h ih = absurd (omega arith)
methods_agree (suc c) (suc d) (p ∷ a ∷ vs) [] g l m h ih = absurd (omega arith)
methods_agree (suc c) (suc d) (p ∷ a ∷ vs) (q ∷ []) g l m h ih = absurd (omega arith)
methods_agree (suc c) (suc d) (p ∷ a ∷ vs) (q ∷ b ∷ ws) g l m h ih =
    let x : p ≡ q = cc in
    let y : a ≡ b = ih 1 refl refl cc in
    let t : methods_out vs g ≡ methods_out ws g = cc in
    let z : vs ≡ ws = methods_agree c d vs ws g (omega arith) (omega arith) t (λ i. ih (suc (suc i))) in
    cc

out_agree : (k : TypeKind) (n m : ℕ) (vs ws : List ℕ) (g : ℕ → Ty) → length vs ≡ length (fields_in k n) → length ws ≡ length (fields_in k m) → type_out k vs g ≡ type_out k ws g
    → ((i : ℕ) → get_or (fields_in k n) i free ≡ a_type → get_or (fields_in k m) i free ≡ a_type → g (get_or vs i 0) ≡ g (get_or ws i 0) → get_or vs i 0 ≡ get_or ws i 0) → vs ≡ ws
unfolding type_out
out_agree TypeKind.unit n m vs ws g l e h ih = same0 vs ws l e
out_agree TypeKind.truth n m vs ws g l e h ih = same0 vs ws l e
out_agree TypeKind.number n m vs ws g l e h ih = same0 vs ws l e
out_agree TypeKind.pair n m vs ws g l e h ih = same2 vs ws l e (ih 0 refl refl cc) (ih 1 refl refl cc)
out_agree TypeKind.fun n m vs ws g l e h ih = same3 vs ws l e (ih 0 refl refl cc) (cc) (ih 2 refl refl cc)
out_agree TypeKind.ref n m vs ws g l e h ih = same2 vs ws l e (ih 0 refl refl cc) cc
out_agree TypeKind.label n m vs ws g l e h ih = same2 vs ws l e (ih 0 refl refl cc) cc
out_agree TypeKind.pcd n m vs ws g l e h ih = same2 vs ws l e (ih 0 refl refl cc) cc
out_agree TypeKind.adv n m vs ws g l e h ih = same1 vs ws l e cc
out_agree TypeKind.obj n m vs ws g l e h ih = methods_agree (times (type_row_of TypeKind.obj) n) (times (type_row_of TypeKind.obj) m) vs ws g l e (cc) ih
out_agree TypeKind.stack n m vs ws g l e h ih = same0 vs ws l e

module _ (L : Layout) (good : LayoutOk L) where
  -- The length of type t's record, what its fields are, and how many.
  abbrev size_of : ℕ → ℕ
  size_of t = length_at L.image (type_place L t)

  abbrev sort_of : ℕ → ℕ → Field
  sort_of t i = get_or (fields_at L.image (type_place L t) (type_row_of (type_kind L t))) i free

  fields_count : (t : ℕ) → length (type_fields L t) ≡ length (fields_in (type_kind L t) (size_of t))
  fields_count t = words_length L.image _ _

  any_fuel : (f h t : ℕ) → t < f → t < h → t < length L.types → type_from L f t ≡ type_from L h t
  unfolding type_from
  any_fuel zero h t l m n = absurd (omega arith)
  any_fuel (suc f) zero t l m n = absurd (omega arith)
  any_fuel (suc f) (suc h) t l m n =
      out_cong (type_kind L t) (size_of t) (type_fields L t) (λ a. type_from L f a) (λ a. type_from L h a) (fields_count t)
      (λ i e. let z = (good.types t n).lower i e in any_fuel f h (type_field L t i) (omega arith) (omega arith) (omega arith))

  -- A type is what its record says of its parts.
  pub type_out_lem : (t : ℕ) → t < length L.types → type_of L t ≡ type_out (type_kind L t) (type_fields L t) (λ a. type_of L a)
  unfolding type_from type_of
  type_out_lem t n =
      out_cong (type_kind L t) (size_of t) (type_fields L t) (λ a. type_from L t a) (λ a. type_of L a) (fields_count t)
      (λ i e. let z = (good.types t n).lower i e in any_fuel t (suc (type_field L t i)) (type_field L t i) z (omega arith) (omega arith))

  kind_row : (t : ℕ) → t < length L.types → type_number L t ≡ (type_row_of (type_kind L t)).number
  kind_row t n = kind_number (type_number L t) (type (type_kind L t)) (good.types t n).kind

  -- The kind that a type's number tells.
  pub type_kind_lem : (k : TypeKind) (t : ℕ) → t < length L.types → is_type L k t ≡ true → type_kind L t ≡ k
  type_kind_lem k t n h = ap type_kind_of (same_kind (type (type_kind L t)) (type k) (sym (kind_row t n) ∙ eq_of h))

  pub out_as : (k : TypeKind) (t : ℕ) → t < length L.types → is_type L k t ≡ true → type_of L t ≡ type_out k (type_fields L t) (λ a. type_of L a)
  out_as k t n h = type_out_lem t n ∙ ap (λ j. type_out j (type_fields L t) (λ a. type_of L a)) (type_kind_lem k t n h)

  pub kind_head : (t : ℕ) → t < length L.types → type_kind L t ≡ head_of (type_of L t)
  kind_head t n = rw (type_out_lem t n) (sym (head_out (type_kind L t) (type_fields L t) (λ a. type_of L a)))

  pub is_head : (k : TypeKind) (t : ℕ) → t < length L.types → head_of (type_of L t) ≡ k → is_type L k t ≡ true
  is_head k t n h = of_eq (kind_row t n ∙ ap (λ j. (type_row_of j).number) (kind_head t n ∙ h))

  -- What is asked of the parts of two types that are to be the same.
  abbrev PartsAgree : ℕ → ℕ → Type 0
  PartsAgree t u = (i : ℕ) → sort_of t i ≡ a_type → sort_of u i ≡ a_type → type_of L (type_field L t i) ≡ type_of L (type_field L u i) → type_field L t i ≡ type_field L u i

  same_types : (t u : ℕ) → t < length L.types → u < length L.types → type_of L t ≡ type_of L u → PartsAgree t u → same_type L.image (type_row_of (type_kind L t)) (type_place L t) (type_place L u) ≡ true
  same_types t u lt lu h ih =
      let e : type_kind L t ≡ type_kind L u = kind_head t lt ∙ ap head_of h ∙ sym (kind_head u lu) in
      let n : type_number L t ≡ type_number L u = kind_row t lt ∙ ap (λ j. (type_row_of j).number) e ∙ sym (kind_row u lu) in
      let o : type_out (type_kind L t) (type_fields L t) (λ a. type_of L a) ≡ type_out (type_kind L t) (type_fields L u) (λ a. type_of L a) = sym (type_out_lem t lt) ∙ h ∙ type_out_lem u lu ∙ ap (λ j. type_out j (type_fields L u) (λ a. type_of L a)) (sym e) in
      let c : length (type_fields L u) ≡ length (fields_in (type_kind L t) (size_of u)) = fields_count u ∙ ap (λ j. length (fields_in j (size_of u))) (sym e) in
      let v : type_fields L t ≡ type_fields L u = out_agree (type_kind L t) (size_of t) (size_of u) (type_fields L t) (type_fields L u) (λ a. type_of L a) (fields_count t) c o
      (λ i q r. ih i q (subst (λ j. get_or (fields_in j (size_of u)) i free ≡ a_type) e r)) in
      let w : numbers_at L.image (type_place L u) (type_row_of (type_kind L t)) ≡ type_fields L u = ap (λ j. numbers_at L.image (type_place L u) (type_row_of j)) e in
      of_each _ (of_eq n, (rw (w, ← v) (same_numbers_lem (type_fields L t)), tt))

  types_apart_below : (f t u : ℕ) → t < f → t < length L.types → u < length L.types → type_of L t ≡ type_of L u → t ≡ u
  types_apart_below zero t u lf lt lu h = absurd (omega arith)
  types_apart_below (suc f) t u lf lt lu h =
      go (λ i e r q. let z = (good.types t lt).lower i e in let y = (good.types u lu).lower i r in types_apart_below f (type_field L t i) (type_field L u i) (omega arith) (omega arith) (omega arith) q)
      (ltb u t) refl (ltb t u) refl
    where
      go : PartsAgree t u → (b : Bool) → ltb u t ≡ b → (d : Bool) → ltb t u ≡ d → t ≡ u
      go ih true e d e' = no_path (sym (same_types t u lt lu h ih) ∙ (good.types t lt).apart u (lt_of e))
      go ih false e true e' = no_path (sym (same_types u t lu lt (sym h) (λ i q r e. sym (ih i r q (sym e)))) ∙ (good.types u lu).apart t (lt_of e'))
      go ih false e false e' = let m : t ≤ u = ge_of e in let n : u ≤ t = ge_of e' in omega arith

  -- No two type numbers have the same type.
  pub types_apart : (t u : ℕ) → t < length L.types → u < length L.types → type_of L t ≡ type_of L u → t ≡ u
  types_apart t u lt lu h = types_apart_below (suc t) t u (omega arith) lt lu h

-- Layouts whose types have the same kinds and the same fields have the same types.
module _ (L M : Layout) (good : LayoutOk L) (kinds : (t : ℕ) → t < length L.types → type_kind M t ≡ type_kind L t) (fields : (t : ℕ) → t < length L.types → type_fields M t ≡ type_fields L t) where
  from_same : (f t : ℕ) → t < length L.types → type_from M f t ≡ type_from L f t
  unfolding type_from
  from_same zero t h = refl
  from_same (suc f) t h =
      ap (λ k. type_out k (type_fields M t) (λ a. type_from M f a)) (kinds t h)
      ∙ (ap (λ vs. type_out (type_kind L t) vs (λ a. type_from M f a)) (fields t h)
      ∙ out_cong (type_kind L t) (length_at L.image (type_place L t)) (type_fields L t) (λ a. type_from M f a) (λ a. type_from L f a) (words_length L.image _ _)
      (λ i e. let z = (good.types t h).lower i e in from_same f (type_field L t i) (omega arith)))

  pub type_same : (t : ℕ) → t < length L.types → type_of M t ≡ type_of L t
  unfolding type_of
  type_same t h = from_same (suc t) t h
