-- Lists: a prefix, a fact of each element, a relation between two lists' elements, an element of a mapped list, a list with one element more or another.
use Prim.Native.Nat.{ℕ, zero, suc, ◌≤◌, ◌<◌}
use native.Mathlib.Omega.{arith}
use mathlib.Core.Path.{◌≡◌, refl, sym, subst, ◌∙◌}
use mathlib.Core.List.{List, [], ◌∷◌, ◌++◌, map, reverse, reverse_aux}
use mathlib.Core.Option.{Option, none, some, some-injective}
use lib.ListN.{length, get_or, set, get_elem?, length-append, get_or-append}
use lib.Seq.{get_or-append_seam, get_or-set_same, get_or-set_other}
use lib.Dec.{ltb, eqb}
use Rattle.laws.proofs.Booleans.{no_path, lt_of, ge_of, eq_of, of_eq, by_test}

module _ {A : Type 0} where
  abbrev IsNone : Option A → Type 0
  IsNone none = Unit
  IsNone (some a) = ⊥

  pub none_some : {a : A} → ◌≡◌ {A = Option A} none (some a) → ⊥
  none_some e = subst IsNone e tt

  -- ys is xs with more appended.
  pub data Prefix : List A → List A → Type 0 where
    pre_nil : {ys : List A} → Prefix [] ys
    pre_cons : {x : A} {xs ys : List A} → Prefix xs ys → Prefix (x ∷ xs) (x ∷ ys)

  pub prefix_refl : (xs : List A) → Prefix xs xs
  prefix_refl [] = pre_nil
  prefix_refl (x ∷ xs) = pre_cons (prefix_refl xs)

  pub prefix_append : (xs ys : List A) → Prefix xs (xs ++ ys)
  prefix_append [] ys = pre_nil
  prefix_append (x ∷ xs) ys = pre_cons (prefix_append xs ys)

  pub prefix_get : {xs ys : List A} → Prefix xs ys → (i : ℕ) {x : A} → get_elem? xs i ≡ some x → get_elem? ys i ≡ some x
  prefix_get pre_nil i e = cc
  prefix_get (pre_cons p) zero e = e
  prefix_get (pre_cons p) (suc i) e = prefix_get p i e

  pub prefix_trans : {xs ys zs : List A} → Prefix xs ys → Prefix ys zs → Prefix xs zs
  prefix_trans pre_nil q = pre_nil
  prefix_trans (pre_cons p) (pre_cons q) = pre_cons (prefix_trans p q)

  pub get_last : (xs : List A) (x : A) → get_elem? (xs ++ (x ∷ [])) (length xs) ≡ some x
  get_last [] x = refl
  get_last (y ∷ xs) x = get_last xs x

  pub data All (P : A → Type 0) : List A → Type 0 where
    all_nil : All P []
    all_cons : {x : A} {xs : List A} → P x → All P xs → All P (x ∷ xs)

  pub all_map : {P Q : A → Type 0} → ((x : A) → P x → Q x) → {xs : List A} → All P xs → All Q xs
  all_map f all_nil = all_nil
  all_map f (all_cons {x} p ps) = all_cons (f x p) (all_map f ps)

  pub all_snoc : {P : A → Type 0} {xs : List A} {x : A} → All P xs → P x → All P (xs ++ (x ∷ []))
  all_snoc all_nil p = all_cons p all_nil
  all_snoc (all_cons q qs) p = all_cons q (all_snoc qs p)

  all_reverse_aux : {P : A → Type 0} {xs zs : List A} → All P xs → All P zs → All P (reverse_aux xs zs)
  all_reverse_aux all_nil k = k
  all_reverse_aux (all_cons p ps) k = all_reverse_aux ps (all_cons p k)

  pub all_reverse : {P : A → Type 0} {xs : List A} → All P xs → All P (reverse xs)
  all_reverse ps = all_reverse_aux ps all_nil

module _ {A B : Type 0} where
  pub data All2 (R : A → B → Type 0) : List A → List B → Type 0 where
    all2_nil : All2 R [] []
    all2_cons : {x : A} {y : B} {xs : List A} {ys : List B} → R x y → All2 R xs ys → All2 R (x ∷ xs) (y ∷ ys)

  pub all2_map : {R S : A → B → Type 0} → ((x : A) (y : B) → R x y → S x y) → {xs : List A} {ys : List B} → All2 R xs ys → All2 S xs ys
  all2_map f all2_nil = all2_nil
  all2_map f (all2_cons {x} {y} r rs) = all2_cons (f x y r) (all2_map f rs)

  module _ {R : A → B → Type 0} where
    pub all2_length : {xs : List A} {ys : List B} → All2 R xs ys → length xs ≡ length ys
    all2_length all2_nil = refl
    all2_length (all2_cons r rs) = cc (all2_length rs)

    -- Where the one list has an element, so has the other.
    pub all2_get : {xs : List A} {ys : List B} → All2 R xs ys → (i : ℕ) {x : A} → get_elem? xs i ≡ some x → (y : B) × (get_elem? ys i ≡ some y) × R x y
    all2_get all2_nil i e = absurd (none_some e)
    all2_get (all2_cons {x = x₀} {y} r rs) zero {x} e = (y, refl, rw (some-injective x₀ x e) at r)
    all2_get (all2_cons r rs) (suc i) e = all2_get rs i e

    pub all2_set : {xs : List A} {ys : List B} → All2 R xs ys → (i : ℕ) {x : A} {y : B} → get_elem? xs i ≡ some x → R x y → All2 R xs (set ys i y)
    all2_set all2_nil i e r = all2_nil
    all2_set (all2_cons {x = x₀} q rs) zero {x} e r = all2_cons (rw (← some-injective x₀ x e) at r) rs
    all2_set (all2_cons q rs) (suc i) e r = all2_cons q (all2_set rs i e r)

    pub all2_snoc : {xs : List A} {ys : List B} {x : A} {y : B} → All2 R xs ys → R x y → All2 R (xs ++ (x ∷ [])) (ys ++ (y ∷ []))
    all2_snoc all2_nil r = all2_cons r all2_nil
    all2_snoc (all2_cons q rs) r = all2_cons q (all2_snoc rs r)

    all2_reverse_aux : {xs zs : List A} {ys ws : List B} → All2 R xs ys → All2 R zs ws → All2 R (reverse_aux xs zs) (reverse_aux ys ws)
    all2_reverse_aux all2_nil k = k
    all2_reverse_aux (all2_cons r rs) k = all2_reverse_aux rs (all2_cons r k)

    pub all2_reverse : {xs : List A} {ys : List B} → All2 R xs ys → All2 R (reverse xs) (reverse ys)
    all2_reverse rs = all2_reverse_aux rs all2_nil

-- An element of a mapped list.
pub map_at : {A B : Type 0} (f : A → B) (xs : List A) (i : ℕ) (d : A) (e : B) → i < length xs → get_or (map f xs) i e ≡ f (get_or xs i d)
map_at f [] i d e h = absurd (omega arith)
map_at f (x ∷ xs) zero d e h = refl
map_at f (x ∷ xs) (suc i) d e h = map_at f xs i d e (omega arith)

-- What holds of each element and of one more holds of each of the longer list.
pub each_snoc : (P : ℕ → ℕ → Type 0) (xs : List ℕ) (r d : ℕ) → ((t : ℕ) → t < length xs → P t (get_or xs t d)) → P (length xs) r
    → (t : ℕ) → t < length (xs ++ (r ∷ [])) → P t (get_or (xs ++ (r ∷ [])) t d)
each_snoc P xs r d h z t lt = by_test (ltb t (length xs))
    (λ e. rw (get_or-append xs (r ∷ []) d t (lt_of e)) (h t (lt_of e)))
    λ e.
    let g : length xs ≤ t = ge_of e in
    let q : t ≡ length xs = omega (arith, length-append xs (r ∷ [])) in
    rw (q, get_or-append_seam xs r [] d) z

-- A list changed at place i: what holds of the new element there, and of the old ones elsewhere, holds of each.
pub each_set : (P : ℕ → ℕ → Type 0) (xs : List ℕ) (i v d : ℕ) → i < length xs → P i v → ((j : ℕ) → (j ≡ i → ⊥) → P j (get_or xs j d)) → (j : ℕ) → P j (get_or (set xs i v) j d)
each_set P xs i v d l h k j = by_test (eqb j i)
    (λ e. let q : j ≡ i = eq_of e in rw (q, get_or-set_same xs i v d l) h)
    λ e. let n : j ≡ i → ⊥ = λ q. no_path (sym (of_eq q) ∙ e) in rw (get_or-set_other xs i j v d n) (k j n)
