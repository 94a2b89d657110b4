-- The bits of a word with one bit more: that bit is there, and each that was there stays.
use Prim.Native.Nat.{ℕ, zero, suc, ◌/◌, ◌%◌, ◌^◌, ◌<◌, max}
use native.Mathlib.Omega.{arith}
use native.Mathlib.Nat.{one-mul}
use mathlib.Core.Path.{◌≡◌, refl, sym, ap, ◌∙◌}
use mathlib.Core.Bool.{Bool, true, false, ◌||◌}
use lib.Dec.{eqb}
use lib.Bits.{bit_or, or_step, or_shr}
use lib.Pow.{shl-shr}
use Rattle.check_repeats.specs.Keys.{has_bit, with_bit}

max_one : (p q : ℕ) → p < 2 → q < 2 → (max p q < 2) × (eqb (max p q) 1 ≡ (eqb p 1 || eqb q 1))
max_one zero zero h g = (omega arith, refl)
max_one zero (suc zero) h g = (omega arith, refl)
max_one zero (suc (suc q)) h g = absurd (omega arith)
max_one (suc zero) zero h g = (omega arith, refl)
max_one (suc zero) (suc zero) h g = (omega arith, refl)
max_one (suc zero) (suc (suc q)) h g = absurd (omega arith)
max_one (suc (suc p)) q h g = absurd (omega arith)

has_union : (a b l : ℕ) → has_bit (bit_or a b) l ≡ (has_bit a l || has_bit b l)
has_union a b l =
    let m = max_one (a / 2 ^ l % 2) (b / 2 ^ l % 2) (omega arith) (omega arith) in
    let e : bit_or (a / 2 ^ l) (b / 2 ^ l) % 2 ≡ max (a / 2 ^ l % 2) (b / 2 ^ l % 2) = omega (arith, or_step (a / 2 ^ l) (b / 2 ^ l), m.0) in
    ap (λ (x : ℕ). eqb x 1) (ap (λ (x : ℕ). x % 2) (or_shr a b l) ∙ e) ∙ m.1

has_own : (l : ℕ) → has_bit (2 ^ l) l ≡ true
has_own l = let o : 2 ^ l / 2 ^ l ≡ 1 = ap (λ (x : ℕ). x / 2 ^ l) (sym (one-mul (2 ^ l))) ∙ shl-shr 1 l in rw o refl

or_true : (a : Bool) → (a || true) ≡ true
or_true true = refl
or_true false = refl

pub bit_there : (w l : ℕ) → has_bit (with_bit w l) l ≡ true
bit_there w l = has_union w (2 ^ l) l ∙ (ap (λ b. has_bit w l || b) (has_own l) ∙ or_true (has_bit w l))

pub bit_stays : (w k l : ℕ) → has_bit w l ≡ true → has_bit (with_bit w k) l ≡ true
bit_stays w k l h = has_union w (2 ^ k) l ∙ ap (λ b. b || has_bit (2 ^ k) l) h
