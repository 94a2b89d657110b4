-- What stands at a place of a list, where something does: after a change, at the end, under a map.
use Prim.Native.Nat.{ℕ, zero, suc, ◌<◌}
use native.Mathlib.Omega.{arith}
use mathlib.Core.Path.{◌≡◌, refl}
use mathlib.Core.Logic.{◌⊎◌, inl, inr}
use mathlib.Core.List.{List, [], ◌∷◌, ◌++◌, map}
use mathlib.Core.Option.{some, none-ne-some, some-injective}
use lib.ListN.{length, set, get_elem?}

module _ {A : Type 0} where
  -- The place is below the list's length.
  pub place_below : (x : List A) (i : ℕ) {a : A} → get_elem? x i ≡ some a → i < length x
  place_below [] i p = absurd (none-ne-some _ p)
  place_below (b ∷ x) zero p = omega arith
  place_below (b ∷ x) (suc i) p = let h = place_below x i p in omega arith

  -- At the place of a change the new element, elsewhere the old one.
  pub get_set : (x : List A) (i j : ℕ) (n : A) {a : A} → get_elem? (set x i n) j ≡ some a → ((j ≡ i) × (n ≡ a)) ⊎ ((j ≡ i → ⊥) × (get_elem? x j ≡ some a))
  get_set [] i j n p = absurd (none-ne-some _ p)
  get_set (b ∷ x) zero zero n p = inl (refl, some-injective _ _ p)
  get_set (b ∷ x) zero (suc j) n p = inr ((λ e. omega arith), p)
  get_set (b ∷ x) (suc i) zero n p = inr ((λ e. omega arith), p)
  get_set (b ∷ x) (suc i) (suc j) n {a} p = past (get_set x i j n p)
    where
      past : ((j ≡ i) × (n ≡ a)) ⊎ ((j ≡ i → ⊥) × (get_elem? x j ≡ some a)) → ((suc j ≡ suc i) × (n ≡ a)) ⊎ ((suc j ≡ suc i → ⊥) × (get_elem? x j ≡ some a))
      past (inl (e, q)) = inl (omega arith, q)
      past (inr (h, q)) = inr ((λ e. h (omega arith)), q)

  -- One more at the end.
  pub get_snoc : (x : List A) (j : ℕ) (n : A) {a : A} → get_elem? (x ++ (n ∷ [])) j ≡ some a → ((j ≡ length x) × (n ≡ a)) ⊎ (get_elem? x j ≡ some a)
  get_snoc [] zero n p = inl (refl, some-injective _ _ p)
  get_snoc [] (suc j) n p = absurd (none-ne-some _ p)
  get_snoc (b ∷ x) zero n p = inr p
  get_snoc (b ∷ x) (suc j) n {a} p = past (get_snoc x j n p)
    where
      past : ((j ≡ length x) × (n ≡ a)) ⊎ (get_elem? x j ≡ some a) → ((suc j ≡ suc (length x)) × (n ≡ a)) ⊎ (get_elem? x j ≡ some a)
      past (inl (e, q)) = inl (omega arith, q)
      past (inr q) = inr q

-- What stands in a list of images is the image of what stands in the list.
pub get_map : {A B : Type 0} (f : A → B) (x : List A) (i : ℕ) {b : B} → get_elem? (map f x) i ≡ some b → (a : A) × (get_elem? x i ≡ some a) × (f a ≡ b)
get_map f [] i p = absurd (none-ne-some _ p)
get_map f (a ∷ x) zero p = (a, refl, some-injective _ _ p)
get_map f (a ∷ x) (suc i) p = get_map f x i p
