-- A list of numbers, changed at one place after another, as the depths and the marks of terms are.
use Prim.Native.Nat.{ℕ, suc, ◌+◌, ◌≤◌, ◌<◌}
use native.Mathlib.Omega.{arith}
use native.Mathlib.Numerals.{add-one}
use mathlib.Core.Path.{◌≡◌, refl, subst, ◌∙◌}
use mathlib.Core.Bool.{Bool, true, false}
use mathlib.Core.List.{List, [], ◌∷◌, foldl}
use lib.ListN.{length, get_or, set, drop, length-set, drop_of_length-le}
use lib.Seq.{drop-cons, get_or-set_same, get_or-set_other}
use lib.Dec.{eqb}
use borrow.Author.Tests.{eqb-false}
use Rattle.laws.proofs.Booleans.{eq_of}
use Rattle.verdict.specs.Shape.{count}

-- What is left of the places is one place and the rest of them, or none.
module _ (f : List ℕ → ℕ → List ℕ) (es xs : List ℕ) (j : ℕ) where
  pub fold_next : j < length es → foldl f xs (drop j es) ≡ foldl f (f xs (get_or es j 0)) (drop (j + 1) es)
  fold_next h = rw (add-one, drop-cons es j 0 h) refl

  pub fold_end : length es ≤ j → foldl f xs (drop j es) ≡ xs
  fold_end h = rw (drop_of_length-le es h) refl

-- The number at a place changed by g.
module _ (g : ℕ → ℕ) where
  abbrev change : List ℕ → ℕ → List ℕ
  change xs e = set xs e (g (get_or xs e 0))

  pub change_length : (es xs : List ℕ) → length (foldl change xs es) ≡ length xs
  change_length [] xs = refl
  change_length (e ∷ es) xs = change_length es (change xs e) ∙ length-set xs e _

  -- P n x says something of a number x that was changed n times. If one more change carries it on, it is so of the number at e after all changes: as many more as e stands among the places.
  pub change_at : (P : ℕ → ℕ → Type 0) → ((n x : ℕ) → P n x → P (suc n) (g x)) → (es xs : List ℕ) (e n : ℕ) → e < length xs → P n (get_or xs e 0) → P (n + count e es) (get_or (foldl change xs es) e 0)
  unfolding count
  change_at P s [] xs e n l p = let z : n + 0 ≡ n = omega arith in rw z p
  change_at P s (x ∷ es) xs e n l p = go (λ m. change_at P s es (change xs x) e m (rw length-set l)) (eqb e x) refl
    where
      go : ((m : ℕ) → P m (get_or (change xs x) e 0) → P (m + count e es) (get_or (foldl change (change xs x) es) e 0)) → (t : Bool) → eqb e x ≡ t
          → P (n + count e (x ∷ es)) (get_or (foldl change (change xs x) es) e 0)
      go ih true t =
          let same : get_or (change xs e) e 0 ≡ g (get_or xs e 0) = get_or-set_same xs e (g (get_or xs e 0)) 0 l in
          let here : P (suc n) (get_or (change xs e) e 0) = rw same (s n (get_or xs e 0) p) in
          let k : n + (1 + count e es) ≡ suc n + count e es = omega arith in
          rw (t, k) (ih (suc n) (subst (λ y. P (suc n) (get_or (change xs y) e 0)) (eq_of t) here))
      go ih false t =
          let other : get_or (change xs x) e 0 ≡ get_or xs e 0 = get_or-set_other xs x e (g (get_or xs x 0)) 0 (eqb-false e x t) in
          let k : n + (0 + count e es) ≡ n + count e es = omega arith in
          rw (t, k) (ih n (rw other p))
