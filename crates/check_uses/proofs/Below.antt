-- Tests at the numbers below a bound, one after another.
use Prim.Native.Nat.{ℕ, suc, ◌+◌, ◌≤◌, ◌<◌}
use native.Mathlib.Omega.{arith}
use mathlib.Core.Path.{◌≡◌, ap, subst, ◌∙◌}
use mathlib.Core.Bool.{Bool, true, ◌&&◌}
use lib.Dec.{ltb}
use Rattle.laws.specs.Tests.{all_below}
use Rattle.laws.proofs.Booleans.{lt_of, ge_of, by_test}

-- One more test, in a row of them, and where each so far holds.
module _ (n : ℕ) (ok : ℕ → Bool) where
  pub below_more : (b t : Bool) → b ≡ all_below n ok → t ≡ (b && ok n) → t ≡ all_below (n + 1) ok
  unfolding all_below
  below_more b t e h = let w : n + 1 ≡ suc n = omega arith in rw w (h ∙ ap (λ x. x && ok n) e)

  pub holds_more : ((k : ℕ) → k < n → ok k ≡ true) → ok n ≡ true → (k : ℕ) → k < n + 1 → ok k ≡ true
  holds_more before h k l = by_test (ltb k n)
      (λ t. before k (lt_of t))
      λ t. let z : n ≤ k = ge_of t in let e : n ≡ k = omega arith in subst (λ j. ok j ≡ true) e h
