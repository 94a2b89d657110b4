-- Tests over lists and over the numbers below a bound, and the first test that fails (document 01, "Turned back at the gate": one refusal, the first in order).
use Rattle.std.specs.Prelude.{ℕ, zero, suc, Bool, true, false, ◌&&◌, ◌||◌, List, [], ◌∷◌}
use Rattle.std.proofs.Math.Option.{Option, none, some}

-- Each of the tests holds.
unfoldable pub all : List Bool → Bool
all [] = true
all (b ∷ bs) = b && all bs

-- The test holds of each of the numbers.
unfoldable pub all_of : (ℕ → Bool) → List ℕ → Bool
all_of ok [] = true
all_of ok (n ∷ ns) = ok n && all_of ok ns

-- The test holds at each number below n; at some number below n.
unfoldable pub all_below : ℕ → (ℕ → Bool) → Bool
all_below zero ok = true
all_below (suc n) ok = all_below n ok && ok n

unfoldable pub any_below : ℕ → (ℕ → Bool) → Bool
any_below zero ok = false
any_below (suc n) ok = any_below n ok || ok n

-- What the first test that fails stands for.
unfoldable pub first_fault : {A : Type 0} → List (A × Bool) → Option A
first_fault [] = none
first_fault (t ∷ ts) = elim t.1 [ true ↦ first_fault ts | false ↦ some t.0 ]
