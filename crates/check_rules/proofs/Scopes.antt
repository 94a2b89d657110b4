-- The context in a scope's first places.
use Prim.Native.Nat.{ℕ, zero, suc, ◌-◌, ◌<◌}
use native.Mathlib.Omega.{arith}
use mathlib.Core.Path.{◌≡◌, refl, ap, sym, ◌∙◌}
use mathlib.Core.List.{List}
use lib.ListN.{length, get_or, take}
use lib.Seq.{get_or-take, take-take}
use Rattle.check_rules.specs.Scopes.{context_in}

pub context_length : (xs : List ℕ) (n : ℕ) → length (context_in xs n) ≡ n
unfolding context_in
context_length xs zero = refl
context_length xs (suc n) = ap suc (context_length xs n)

pub context_at : (xs : List ℕ) (n k : ℕ) → k < n → get_or (context_in xs n) k 0 ≡ get_or xs (n - 1 - k) 0
unfolding context_in
context_at xs zero k h = absurd (omega arith)
context_at xs (suc n) zero h = let e : n ≡ suc n - 1 - 0 = omega arith in ap (λ j. get_or xs j 0) e
context_at xs (suc n) (suc k) h = let e : n - 1 - k ≡ suc n - 1 - suc k = omega arith in context_at xs n k (omega arith) ∙ ap (λ j. get_or xs j 0) e

-- It lies in the first places alone.
pub context_kept : (xs ys : List ℕ) (n : ℕ) → take n xs ≡ take n ys → context_in xs n ≡ context_in ys n
unfolding context_in
context_kept xs ys zero h = refl
context_kept xs ys (suc n) h =
    let a : get_or xs n 0 ≡ get_or ys n 0 = sym (get_or-take (suc n) xs n 0 (omega arith)) ∙ ap (λ l. get_or l n 0) h ∙ get_or-take (suc n) ys n 0 (omega arith) in
    let t : take n xs ≡ take n ys = sym (take-take n (suc n) xs (omega arith)) ∙ ap (take n) h ∙ take-take n (suc n) ys (omega arith) in
    let r = context_kept xs ys n t in
    cc
