-- Laws of lists: an element of a table's first places, and tests of each element.
use Prim.Native.Nat.{ℕ, zero, suc, ◌+◌, ◌≤◌, ◌<◌}
use native.Mathlib.Omega.{arith}
use mathlib.Core.Path.{◌≡◌, refl, sym, ap, ◌∙◌}
use native.Mathlib.Numerals.{add-one}
use mathlib.Core.Bool.{Bool, true, false, ◌&&◌, and_assoc}
use mathlib.Core.List.{List, [], ◌∷◌, ◌++◌, map}
use lib.ListN.{length, get_or, take, drop, set, replicate, length-take, get_or-eq_default, drop_of_length-le}
use lib.Seq.{drop-cons, get_or-take, get_or-set_same, get_or-set_other}
use lib.Dec.{eqb, ltb}
use borrow.Author.Tests.{eqb-false}
use Rattle.laws.specs.Tests.{all, all_of}
use Rattle.laws.proofs.Booleans.{lt_of, ge_of, eq_of}

-- A table whose first places hold a list is as long, and holds its elements.
module _ (table xs : List ℕ) (h : take (length xs) table ≡ xs) where
  pub table_long : length xs ≤ length table
  table_long = omega (arith, length-take (length xs) table, ap length h)

  pub table_at : (i : ℕ) → i < length xs → get_or table i 0 ≡ get_or xs i 0
  table_at i l = sym (get_or-take (length xs) table i 0 l) ∙ ap (λ ys. get_or ys i 0) h

-- A table that is filled front to back: it holds the first elements of a list, and 0 behind them.
pub filled_none : (n k : ℕ) (xs : List ℕ) → get_or (replicate n 0) k 0 ≡ get_or (take 0 xs) k 0
filled_none zero k xs = refl
filled_none (suc n) zero xs = refl
filled_none (suc n) (suc k) xs = filled_none n k xs

pub filled_more : (table xs : List ℕ) (d : ℕ) → d < length table → d < length xs → ((k : ℕ) → get_or table k 0 ≡ get_or (take d xs) k 0) → (k : ℕ) → get_or (set table d (get_or xs d 0)) k 0 ≡ get_or (take (d + 1) xs) k 0
filled_more table xs d l m h k = go (ltb k d) refl (eqb k d) refl
  where
    go : (x : Bool) → ltb k d ≡ x → (y : Bool) → eqb k d ≡ y → get_or (set table d (get_or xs d 0)) k 0 ≡ get_or (take (d + 1) xs) k 0
    go x e true f =
        let z : k ≡ d = eq_of f in
        rw z (get_or-set_same table d (get_or xs d 0) 0 l ∙ sym (get_or-take (d + 1) xs d 0 (omega arith)))
    go true e false f =
        let z : k < d = lt_of e in
        get_or-set_other table d k (get_or xs d 0) 0 (eqb-false k d f) ∙ h k ∙ get_or-take d xs k 0 z ∙ sym (get_or-take (d + 1) xs k 0 (omega arith))
    go false e false f =
        let z : d ≤ k = ge_of e in
        let n : k ≡ d → ⊥ = eqb-false k d f in
        get_or-set_other table d k (get_or xs d 0) 0 n ∙ h k ∙ get_or-eq_default (take d xs) 0 {n = k} (omega (arith, length-take d xs))
        ∙ sym (get_or-eq_default (take (d + 1) xs) 0 {n = k} (omega (arith, length-take (d + 1) xs)))

-- A test of each element, from element i on.
module _ (ok : ℕ → Bool) (xs : List ℕ) (i : ℕ) where
  pub test_more : i < length xs → ok (get_or xs i 0) ≡ true → all_of ok (drop (i + 1) xs) ≡ all_of ok (drop i xs)
  unfolding all_of
  test_more h e = rw (drop-cons xs i 0 h, e, add-one)

  pub test_fails : i < length xs → ok (get_or xs i 0) ≡ false → false ≡ all_of ok (drop i xs)
  unfolding all_of
  test_fails h e = rw (drop-cons xs i 0 h, e)

  pub test_ends : length xs ≤ i → true ≡ all_of ok (drop i xs)
  unfolding all_of
  test_ends h = rw (drop_of_length-le xs h)

-- Tests of each element of a mapped list.
pub tests_mapped : {A : Type 0} (f : ℕ → A) (p : A → Bool) (xs : List ℕ) → all (map p (map f xs)) ≡ all_of (λ x. p (f x)) xs
unfolding all all_of
tests_mapped f p [] = refl
tests_mapped f p (x ∷ xs) = ap (λ b. p (f x) && b) (tests_mapped f p xs)

-- Two tests of each element.
pub tests_both : (p q : ℕ → Bool) (xs : List ℕ) → all (all_of p xs ∷ all_of q xs ∷ []) ≡ all_of (λ x. all (p x ∷ q x ∷ [])) xs
unfolding all all_of
tests_both p q [] = refl
tests_both p q (x ∷ xs) = go (p x) (q x) (all_of p xs) (all_of q xs) (all_of (λ x. all (p x ∷ q x ∷ [])) xs) (tests_both p q xs)
  where
    go : (a b c d e : Bool) → all (c ∷ d ∷ []) ≡ e → all ((a && c) ∷ (b && d) ∷ []) ≡ all (a ∷ b ∷ []) && e
    go true true c d e h = h
    go true false true d e h = refl
    go true false false d e h = refl
    go false b c d e h = refl

-- A test of each element of a mapped list, and of two lists.
pub each_mapped : (p : ℕ → Bool) (f : ℕ → ℕ) (xs : List ℕ) → all_of p (map f xs) ≡ all_of (λ x. p (f x)) xs
unfolding all_of
each_mapped p f [] = refl
each_mapped p f (x ∷ xs) = ap (λ b. p (f x) && b) (each_mapped p f xs)

pub each_append : (p : ℕ → Bool) (xs ys : List ℕ) → all_of p (xs ++ ys) ≡ (all_of p xs && all_of p ys)
unfolding all_of
each_append p [] ys = refl
each_append p (x ∷ xs) ys = ap (λ b. p x && b) (each_append p xs ys) ∙ sym (and_assoc (p x) (all_of p xs) (all_of p ys))
