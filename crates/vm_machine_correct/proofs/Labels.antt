-- Labels as digits in base 64 under a leading 1, and as sets of bits.
use Prim.Native.Nat.{ℕ, zero, suc, ◌+◌, ◌-◌, ◌*◌, ◌/◌, ◌%◌, ◌^◌, ◌≤◌, ◌<◌, max}
use native.Mathlib.Omega.{arith}
use native.Mathlib.Nat.{pow-suc, one-mul, zero-div}
use mathlib.Core.Path.{◌≡◌, refl, sym, ap, ◌∙◌}
use mathlib.Core.Bool.{Bool, true, false, ◌||◌}
use mathlib.Core.List.{List, [], ◌∷◌}
use lib.ListN.{length}
use lib.Dec.{eqb, ltb}
use lib.Bits.{bit_or, or_step, or_shr}
use lib.Pow.{pow-lt, pow-add, shl-shr, high}
use borrow.Author.Tests.{eqb-true, eqb-false, ltb-true, ltb-false, lt-leb}
use Rattle.calculus.specs.Compose.{member}
use Rattle.calculus.specs.Limits.{label_limit}
use Rattle.vm_machine.specs.Memory.{no_digits, with_digit, digit_count, label_set, has_bit, with_bit}

-- Digits of labels, the latest first.
unfoldable pub digits_of : List ℕ → ℕ
digits_of [] = no_digits
digits_of (l ∷ ls) = label_limit * digits_of ls + l

pub data Labels : List ℕ → Type 0 where
  no_labels : Labels []
  one_more : {l : ℕ} {ls : List ℕ} → l < label_limit → Labels ls → Labels (l ∷ ls)

-- The labels ds, the latest first, put before ls.
abbrev pub onto : List ℕ → List ℕ → List ℕ
onto [] ls = ls
onto (d ∷ ds) ls = onto ds (d ∷ ls)

pub digits_low : {ds : List ℕ} → Labels ds → 1 ≤ digits_of ds
unfolding digits_of
digits_low no_labels = omega arith
digits_low (one_more h ls) = omega (arith, digits_low ls)

pub digits_fit : {ds : List ℕ} (m : ℕ) → Labels ds → length ds ≤ m → digits_of ds < 2 * label_limit ^ m
unfolding digits_of
digits_fit zero no_labels h = omega arith
digits_fit (suc m) no_labels h = rw (pow-suc label_limit m) (omega (arith, digits_fit m no_labels (omega arith)))
digits_fit zero (one_more l ds) h = absurd (omega arith)
digits_fit (suc m) (one_more l ds) h = rw (pow-suc label_limit m) (omega (arith, digits_fit m ds (omega arith)))

-- One label more.
pub with_digit_lem : {ds : List ℕ} → Labels ds → length ds ≤ 8 → (l : ℕ) → with_digit (digits_of ds) l ≡ digits_of (l ∷ ds)
unfolding digits_of
with_digit_lem h few l = omega (arith, digits_fit 8 h few)

-- How many there are.
pub digit_count_lem : (n : ℕ) {ds : List ℕ} → Labels ds → length ds ≤ n → digit_count n (digits_of ds) ≡ length ds
unfolding digit_count digits_of
digit_count_lem zero no_labels h = refl
digit_count_lem zero (one_more l ds) h = absurd (omega arith)
digit_count_lem (suc n) no_labels h = refl
digit_count_lem (suc n) (one_more {l = l} {ls = ls} p ds) h =
    let big : 1 < label_limit * digits_of ls + l = omega (arith, digits_low ds) in
    let rest : (label_limit * digits_of ls + l) / label_limit ≡ digits_of ls = omega arith in
    rw (lt-leb (label_limit * digits_of ls + l) 1 big, rest) (ap suc (digit_count_lem n ds (omega arith)))

-- The bits of a union, of one bit, and of a set with one label more.
max_one : (p q : ℕ) → p < 2 → q < 2 → (max p q < 2) × (eqb (max p q) 1 ≡ (eqb p 1 || eqb q 1))
max_one zero zero h g = (omega arith, refl)
max_one zero (suc zero) h g = (omega arith, refl)
max_one zero (suc (suc q)) h g = absurd (omega arith)
max_one (suc zero) zero h g = (omega arith, refl)
max_one (suc zero) (suc zero) h g = (omega arith, refl)
max_one (suc zero) (suc (suc q)) h g = absurd (omega arith)
max_one (suc (suc p)) q h g = absurd (omega arith)

pub has_union : (a b l : ℕ) → has_bit (bit_or a b) l ≡ (has_bit a l || has_bit b l)
has_union a b l =
    let m = max_one (a / 2 ^ l % 2) (b / 2 ^ l % 2) (omega arith) (omega arith) in
    let e : bit_or (a / 2 ^ l) (b / 2 ^ l) % 2 ≡ max (a / 2 ^ l % 2) (b / 2 ^ l % 2) = omega (arith, or_step (a / 2 ^ l) (b / 2 ^ l), m.0) in
    ap (λ (x : ℕ). eqb x 1) (ap (λ (x : ℕ). x % 2) (or_shr a b l) ∙ e) ∙ m.1

zero_first : (a b : ℕ) → 0 * a + b ≡ b
zero_first a b = omega arith

has_one : (k l : ℕ) → has_bit (2 ^ k) l ≡ eqb l k
has_one k l = try (eqb l k) refl (ltb l k) refl
  where
    try : (b : Bool) → eqb l k ≡ b → (c : Bool) → ltb l k ≡ c → has_bit (2 ^ k) l ≡ b
    try true p c q =
        let e : l ≡ k = eqb-true l k p in
        let o : 2 ^ k / 2 ^ k ≡ 1 = ap (λ (x : ℕ). x / 2 ^ k) (sym (one-mul (2 ^ k))) ∙ shl-shr 1 k in
        rw (e, o) refl
    try false p true q =
        let h : l < k = ltb-true l k q in
        let j : ℕ = k - l - 1 in
        let n : suc j + l ≡ k = omega arith in
        let e : 2 ^ k / 2 ^ l ≡ 2 ^ suc j = ap (λ (x : ℕ). 2 ^ x / 2 ^ l) (sym n) ∙ ap (λ (x : ℕ). x / 2 ^ l) (pow-add 2 (suc j) l) ∙ shl-shr (2 ^ suc j) l in
        let z : 2 ^ suc j % 2 ≡ 0 = omega (arith, pow-suc 2 j) in
        rw (e, z) refl
    try false p false q =
        let h : k < l = omega (arith, ltb-false l k q, eqb-false l k p) in
        let e : 2 ^ k / 2 ^ l ≡ 0 = ap (λ (x : ℕ). x / 2 ^ l) (sym (zero_first (2 ^ l) (2 ^ k))) ∙ high 0 l (pow-lt h) in
        rw e refl

pub has_with : (s k l : ℕ) → has_bit (with_bit s k) l ≡ (has_bit s l || eqb l k)
has_with s k l = has_union s (2 ^ k) l ∙ ap (λ (b : Bool). has_bit s l || b) (has_one k l)

or_assoc : (a b c : Bool) → ((a || b) || c) ≡ (a || (b || c))
or_assoc true b c = refl
or_assoc false b c = refl

or_false : (a : Bool) → (a || false) ≡ a
or_false true = refl
or_false false = refl

-- The set of the labels ds, and s.
pub label_set_lem : {ds : List ℕ} → Labels ds → (n s l : ℕ) → length ds ≡ n → has_bit (label_set n (digits_of ds) s) l ≡ (has_bit s l || member l ds)
unfolding label_set digits_of
label_set_lem no_labels zero s l e = sym (or_false (has_bit s l))
label_set_lem no_labels (suc n) s l e = absurd (omega arith)
label_set_lem (one_more h ds) zero s l e = absurd (omega arith)
label_set_lem (one_more {l = k} {ls = ls} h ds) (suc n) s l e =
    let last : (label_limit * digits_of ls + k) % label_limit ≡ k = omega arith in
    let rest : (label_limit * digits_of ls + k) / label_limit ≡ digits_of ls = omega arith in
    rw (last, rest) (label_set_lem ds n (with_bit s k) l (omega arith) ∙ ap (λ (b : Bool). b || member l ls) (has_with s k l) ∙ or_assoc (has_bit s l) (eqb l k) (member l ls))

-- Labels put before others are the same labels.
or_swap : (a b c : Bool) → (a || (b || c)) ≡ (b || (a || c))
or_swap true true c = refl
or_swap true false c = refl
or_swap false b c = refl

pub member_onto : (l : ℕ) (ds ls : List ℕ) → member l (onto ds ls) ≡ (member l ds || member l ls)
member_onto l [] ls = refl
member_onto l (d ∷ ds) ls = member_onto l ds (d ∷ ls) ∙ or_swap (member l ds) (eqb l d) (member l ls) ∙ sym (or_assoc (eqb l d) (member l ds) (member l ls))

-- The set of a pointcut.
pub set_of_labels : {ds : List ℕ} → Labels ds → (n : ℕ) → length ds ≡ n → (l : ℕ) → has_bit (label_set n (digits_of ds) 0) l ≡ member l (onto ds [])
set_of_labels {ds} h n e l =
    let z : has_bit 0 l ≡ false = rw (zero-div (2 ^ l)) refl in
    label_set_lem h n 0 l e ∙ ap (λ (b : Bool). b || member l ds) z ∙ sym (member_onto l ds [] ∙ or_false (member l ds))
