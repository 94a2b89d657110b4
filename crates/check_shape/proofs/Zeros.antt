-- Laws of an array of zeros.
use Prim.Native.Nat.{ℕ, zero, suc, ◌≤◌}
use native.Mathlib.Omega.{arith}
use mathlib.Core.Path.{◌≡◌, refl, ap, ◌∙◌}
use mathlib.Core.List.{List, ◌∷◌}
use lib.ListN.{length, take, set, replicate, length-take, length-set, length-replicate}

pub zeros_length : (m : ℕ) (xs : List ℕ) → xs ≡ replicate m 0 → length xs ≡ m
zeros_length m xs e = ap length e ∙ length-replicate {A = ℕ} m 0

pub zeros_front : (n m : ℕ) → n ≤ m → take {A = ℕ} n (replicate m 0) ≡ replicate n 0
zeros_front zero m h = refl
zeros_front (suc n) zero h = absurd (omega arith)
zeros_front (suc n) (suc m) h = ap (λ xs. 0 ∷ xs) (zeros_front n m (omega arith))

-- One place of it set, its front lent, and given back as ys.
module _ (m : ℕ) (xs : List ℕ) (zeros : xs ≡ replicate m 0) (n i v : ℕ) where
  pub front_length : n ≤ m → length (take n (set xs i v)) ≡ n
  front_length h = let z = zeros_length m xs zeros in simp (length-take, length-set) (omega arith)
