-- Tests of lists and of the numbers below a bound: what holds of each where the test holds, and the other way round.
use Prim.Native.Nat.{ℕ, zero, suc, ◌+◌, ◌≤◌, ◌<◌}
use native.Mathlib.Omega.{arith}
use native.Mathlib.Numerals.{add-one}
use mathlib.Core.Path.{◌≡◌, refl, sym}
use mathlib.Core.Bool.{Bool, true, false, ◌||◌}
use mathlib.Core.List.{List, [], ◌∷◌}
use mathlib.Core.Option.{none}
use lib.ListN.{length, get_or}
use lib.Dec.{ltb}
use Rattle.laws.specs.Tests.{all, all_of, all_below, any_below, first_fault}
use Rattle.laws.proofs.Booleans.{no_path, and_l, and_r, and_i, or_false_l, or_false_r, lt_of, ge_of}

-- Each test of a list holds.
abbrev pub Each : List Bool → Type 0
Each [] = Unit {0}
Each (b ∷ bs) = (b ≡ true) × Each bs

pub each : (bs : List Bool) → all bs ≡ true → Each bs
unfolding all
each [] h = tt
each (true ∷ bs) h = (refl, each bs h)
each (false ∷ bs) h = no_path (sym h)

pub of_each : (bs : List Bool) → Each bs → all bs ≡ true
unfolding all
of_each [] h = refl
of_each (b ∷ bs) h = and_i h.0 (of_each bs h.1)

pub all_of_lem : (ok : ℕ → Bool) (ns : List ℕ) → all_of ok ns ≡ true → (i d : ℕ) → i < length ns → ok (get_or ns i d) ≡ true
unfolding all_of
all_of_lem ok [] h i d l = absurd (omega arith)
all_of_lem ok (n ∷ ns) h zero d l = and_l (ok n) (all_of ok ns) h
all_of_lem ok (n ∷ ns) h (suc i) d l = all_of_lem ok ns (and_r (ok n) (all_of ok ns) h) i d (omega arith)

pub of_all : (ok : ℕ → Bool) (ns : List ℕ) → ((i : ℕ) → i < length ns → ok (get_or ns i 0) ≡ true) → all_of ok ns ≡ true
unfolding all_of
of_all ok [] h = refl
of_all ok (n ∷ ns) h = and_i (h 0 (omega arith)) (of_all ok ns (λ i l. h (suc i) (omega arith)))

pub all_below_lem : (n : ℕ) (ok : ℕ → Bool) → all_below n ok ≡ true → (i : ℕ) → i < n → ok i ≡ true
unfolding all_below
all_below_lem zero ok h i l = absurd (omega arith)
all_below_lem (suc n) ok h i l = go (λ z. all_below_lem n ok (and_l (all_below n ok) (ok n) h) i z) (ltb i n) refl
  where
    go : (i < n → ok i ≡ true) → (c : Bool) → ltb i n ≡ c → ok i ≡ true
    go ih true e = ih (lt_of e)
    go ih false e = let z : n ≤ i = ge_of e in let q : i ≡ n = omega arith in rw q (and_r (all_below n ok) (ok n) h)

pub below_all : (n : ℕ) (ok : ℕ → Bool) → ((i : ℕ) → i < n → ok i ≡ true) → all_below n ok ≡ true
unfolding all_below
below_all zero ok h = refl
below_all (suc n) ok h = and_i (below_all n ok (λ i l. h i (omega arith))) (h n (omega arith))

pub none_below : (n : ℕ) (ok : ℕ → Bool) → any_below n ok ≡ false → (i : ℕ) → i < n → ok i ≡ false
unfolding any_below
none_below zero ok h i l = absurd (omega arith)
none_below (suc n) ok h i l = go (λ z. none_below n ok (or_false_l (any_below n ok) (ok n) h) i z) (ltb i n) refl
  where
    go : (i < n → ok i ≡ false) → (c : Bool) → ltb i n ≡ c → ok i ≡ false
    go ih true e = ih (lt_of e)
    go ih false e = let z : n ≤ i = ge_of e in let q : i ≡ n = omega arith in rw q (or_false_r (any_below n ok) (ok n) h)

-- No number passes a test that fails at each.
pub below_none : (n : ℕ) (ok : ℕ → Bool) → ((i : ℕ) → ok i ≡ false) → any_below n ok ≡ false
unfolding any_below
below_none zero ok h = refl
below_none (suc n) ok h = rw (below_none n ok h) (h n)

-- A passed list of tests passes at its head and in its tail.
pub passed : {A : Type 0} (a : A) (t : Bool) (ts : List (A × Bool)) → first_fault ((a, t) ∷ ts) ≡ none → (t ≡ true) × (first_fault ts ≡ none)
unfolding first_fault
passed a true ts h = (refl, h)
passed a false ts h = no_path cc

-- Some number below n, and below n + 1.
pub any_none : (p : ℕ → Bool) → false ≡ any_below 0 p
unfolding any_below
any_none p = refl

pub any_more : (n : ℕ) (p : ℕ → Bool) (b : Bool) → b ≡ any_below n p → (b || p n) ≡ any_below (n + 1) p
unfolding any_below
any_more n p b e = rw (add-one, e)

pub any_same : (n : ℕ) (p q : ℕ → Bool) → ((i : ℕ) → p i ≡ q i) → any_below n p ≡ any_below n q
unfolding any_below
any_same zero p q h = refl
any_same (suc n) p q h = rw (any_same n p q h, h n)
