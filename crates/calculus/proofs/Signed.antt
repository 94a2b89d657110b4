-- Arithmetic on bit patterns is that of signed numbers: the test on patterns with flipped sign bits is their order, and sums and differences are theirs, cut at the ends of the range (card 2).
use Prim.Native.Nat.{ℕ, zero, suc, ◌+◌, ◌-◌, ◌%◌, ◌<◌, ◌≤◌}
use mathlib.Core.Path.{◌≡◌, refl, sym, ap, ◌∙◌}
use mathlib.Core.Bool.{Bool, true, false, cond}
use native.Mathlib.Omega.{arith}
use borrow.Author.Tests.{ltb-true, ltb-false, lt-ltb, le-ltb, le-leb, lt-leb}
use lib.Dec.{ltb}
use lib.IntN.{ℤ, pos, negsuc, sub_ℕ, ◌+ℤ◌, ◌-ℤ◌}
use lib.Signed.{lt_z}
use mir.Syntax.{w32}
use mir.Val.{to_z}
use mir.Facts.{to_z_pos, to_z-neg}
use Rattle.calculus.specs.Limits.{word_size, sign_bit, minus_one}
use Rattle.calculus.specs.Combinators.{choose}
use Rattle.calculus.specs.Numbers.{sum, difference, saturated, flipped, is_less}

-- The number of a pattern with the sign bit.
negative : (x : ℕ) → sign_bit ≤ x → x < word_size → to_z w32 x ≡ negsuc (minus_one - x)
negative x h l =
    let e : word_size - suc (minus_one - x) ≡ x = omega arith in
    rw e at (to_z-neg w32 (minus_one - x) (omega arith))

-- Two tests agree where each holds if the other does.
same_test : (a b c d : ℕ) → (a < b → c < d) → (c < d → a < b) → ltb a b ≡ ltb c d
same_test a b c d f g = by (ltb a b) (ltb c d) refl refl
  where
    by : (p q : Bool) → ltb a b ≡ p → ltb c d ≡ q → ltb a b ≡ ltb c d
    by true q e h = e ∙ sym (lt-ltb c d (f (ltb-true a b e)))
    by false true e h = lt-ltb a b (g (ltb-true c d h)) ∙ sym h
    by false false e h = e ∙ sym h

pub less_signed : (a b : ℕ) → a < word_size → b < word_size → is_less a b ≡ lt_z (to_z w32 a) (to_z w32 b)
less_signed a b ha hb = by (ltb a sign_bit) (ltb b sign_bit) refl refl
  where
    by : (p q : Bool) → ltb a sign_bit ≡ p → ltb b sign_bit ≡ q → is_less a b ≡ lt_z (to_z w32 a) (to_z w32 b)
    by true true ea eb =
        let la = ltb-true a sign_bit ea in let lb = ltb-true b sign_bit eb in
        rw (to_z_pos w32 la, to_z_pos w32 lb) (same_test (flipped a) (flipped b) a b (λ h. omega arith) (λ h. omega arith))
    by true false ea eb =
        let la = ltb-true a sign_bit ea in let lb = ltb-false b sign_bit eb in
        rw (to_z_pos w32 la, negative b lb hb) (le-ltb (flipped a) (flipped b) (omega arith))
    by false true ea eb =
        let la = ltb-false a sign_bit ea in let lb = ltb-true b sign_bit eb in
        rw (negative a la ha, to_z_pos w32 lb) (lt-ltb (flipped a) (flipped b) (omega arith))
    by false false ea eb =
        let la = ltb-false a sign_bit ea in let lb = ltb-false b sign_bit eb in
        rw (negative a la ha, negative b lb hb) (same_test (flipped a) (flipped b) (minus_one - b) (minus_one - a) (λ h. omega arith) (λ h. omega arith))

-- A signed number cut at the ends of the range.
abbrev pub cut_z : ℤ → ℤ
cut_z z = choose (lt_z (pos 2147483647) z) (pos 2147483647) (choose (lt_z z (negsuc 2147483647)) (negsuc 2147483647) z)

-- The number whose flipped pattern is n + sign_bit is n, and the one whose flipped pattern is sign_bit - (k + 1) is -(k + 1); both are cut.
above : (n : ℕ) → to_z w32 (saturated (n + sign_bit)) ≡ cut_z (pos n)
above n = by (ltb 2147483647 n) refl
  where
    by : (p : Bool) → ltb 2147483647 n ≡ p → to_z w32 (saturated (n + sign_bit)) ≡ cut_z (pos n)
    by true e = let l = ltb-true 2147483647 n e in rw (lt-leb (n + sign_bit) minus_one (omega arith), e) (to_z_pos w32 (omega arith))
    by false e =
        let l = ltb-false 2147483647 n e in
        let f : flipped (n + sign_bit) ≡ n = omega arith in
        rw (le-leb (n + sign_bit) minus_one (omega arith), e, f) (to_z_pos w32 (omega arith))

below : (k : ℕ) → to_z w32 (saturated (sign_bit - suc k)) ≡ cut_z (negsuc k)
below k = by (ltb 2147483647 k) refl
  where
    by : (p : Bool) → ltb 2147483647 k ≡ p → to_z w32 (saturated (sign_bit - suc k)) ≡ cut_z (negsuc k)
    by true e =
        let l = ltb-true 2147483647 k e in
        let f : flipped (sign_bit - suc k) ≡ sign_bit = omega arith in
        rw (le-leb (sign_bit - suc k) minus_one (omega arith), e, f) (negative sign_bit (omega arith) (omega arith))
    by false e =
        let l = ltb-false 2147483647 k e in
        let f : minus_one - flipped (sign_bit - suc k) ≡ k = omega arith in
        rw (le-leb (sign_bit - suc k) minus_one (omega arith), e) (negative (flipped (sign_bit - suc k)) (omega arith) (omega arith) ∙ ap negsuc f)

-- Below the range, inside it, where both are as modulo 2^32, and above it: what an engine computes.
module _ (a b : ℕ) where
  pub sum_below : flipped a + flipped b < sign_bit → sum a b ≡ sign_bit
  sum_below h = rw (le-leb (flipped a + flipped b - sign_bit) minus_one (omega arith)) (omega arith)

  pub sum_inside : sign_bit ≤ flipped a + flipped b → flipped a + flipped b < word_size + sign_bit → sum a b ≡ (a + b) % word_size
  sum_inside h k = rw (le-leb (flipped a + flipped b - sign_bit) minus_one (omega arith)) (omega arith)

  pub sum_above : word_size + sign_bit ≤ flipped a + flipped b → sum a b ≡ sign_bit - 1
  sum_above h = rw (lt-leb (flipped a + flipped b - sign_bit) minus_one (omega arith)) (omega arith)

  pub difference_below : flipped a + sign_bit < flipped b → difference a b ≡ sign_bit
  difference_below h = rw (le-leb (flipped a + sign_bit - flipped b) minus_one (omega arith)) (omega arith)

  pub difference_inside : b < word_size → flipped b ≤ flipped a + sign_bit → flipped a < flipped b + sign_bit → difference a b ≡ (a + (word_size - b)) % word_size
  difference_inside l h k = rw (le-leb (flipped a + sign_bit - flipped b) minus_one (omega arith)) (omega arith)

  pub difference_above : flipped b + sign_bit ≤ flipped a → difference a b ≡ sign_bit - 1
  difference_above h = rw (lt-leb (flipped a + sign_bit - flipped b) minus_one (omega arith)) (omega arith)

mixed : (a k : ℕ) → to_z w32 (saturated (a + sign_bit - suc k)) ≡ cut_z (sub_ℕ a (suc k))
mixed a k = by (ltb a (suc k)) refl
  where
    by : (p : Bool) → ltb a (suc k) ≡ p → to_z w32 (saturated (a + sign_bit - suc k)) ≡ cut_z (cond p (negsuc (suc k - suc a)) (pos (a - suc k)))
    by true e =
        let l = ltb-true a (suc k) e in
        let f : a + sign_bit - suc k ≡ sign_bit - suc (suc k - suc a) = omega arith in
        rw f (below (suc k - suc a))
    by false e =
        let l = ltb-false a (suc k) e in
        let f : a + sign_bit - suc k ≡ a - suc k + sign_bit = omega arith in
        rw f (above (a - suc k))

module _ (f g : ℕ) where
  -- Sums, by the signs; f and g are flipped patterns.
  sum_pos : (m n : ℕ) → f ≡ m + sign_bit → g ≡ n + sign_bit → to_z w32 (saturated (f + g - sign_bit)) ≡ cut_z (pos m +ℤ pos n)
  sum_pos m n p q = let e : f + g - sign_bit ≡ m + n + sign_bit = omega arith in rw e (above (m + n))

  sum_mixed : (m k : ℕ) → f ≡ m + sign_bit → g ≡ sign_bit - suc k → k < sign_bit → to_z w32 (saturated (f + g - sign_bit)) ≡ cut_z (pos m +ℤ negsuc k)
  sum_mixed m k p q h = let e : f + g - sign_bit ≡ m + sign_bit - suc k = omega arith in rw e (mixed m k)

  sum_neg : (k l : ℕ) → f ≡ sign_bit - suc k → g ≡ sign_bit - suc l → k < sign_bit → l < sign_bit → to_z w32 (saturated (f + g - sign_bit)) ≡ cut_z (negsuc k +ℤ negsuc l)
  sum_neg k l p q h i = let e : f + g - sign_bit ≡ sign_bit - suc (suc (k + l)) = omega arith in rw e (below (suc (k + l)))

  -- Differences.
  less_pos : (m n : ℕ) → f ≡ m + sign_bit → g ≡ n + sign_bit → to_z w32 (saturated (f + sign_bit - g)) ≡ cut_z (pos m -ℤ pos n)
  less_pos m zero p q =
      let e : f + sign_bit - g ≡ m + 0 + sign_bit = omega arith in
      rw e (above (m + 0))
  less_pos m (suc n) p q = let e : f + sign_bit - g ≡ m + sign_bit - suc n = omega arith in rw e (mixed m n)

  less_below : (m l : ℕ) → f ≡ m + sign_bit → g ≡ sign_bit - suc l → l < sign_bit → to_z w32 (saturated (f + sign_bit - g)) ≡ cut_z (pos m -ℤ negsuc l)
  less_below m l p q h = let e : f + sign_bit - g ≡ m + suc l + sign_bit = omega arith in rw e (above (m + suc l))

  less_above : (k n : ℕ) → f ≡ sign_bit - suc k → g ≡ n + sign_bit → k < sign_bit → to_z w32 (saturated (f + sign_bit - g)) ≡ cut_z (negsuc k -ℤ pos n)
  less_above k zero p q h = let e : f + sign_bit - g ≡ 0 + sign_bit - suc k = omega arith in rw e (mixed 0 k)
  less_above k (suc n) p q h = let e : f + sign_bit - g ≡ sign_bit - suc (suc (k + n)) = omega arith in rw e (below (suc (k + n)))

  less_neg : (k l : ℕ) → f ≡ sign_bit - suc k → g ≡ sign_bit - suc l → k < sign_bit → l < sign_bit → to_z w32 (saturated (f + sign_bit - g)) ≡ cut_z (negsuc k -ℤ negsuc l)
  less_neg k l p q h i = let e : f + sign_bit - g ≡ suc l + sign_bit - suc k = omega arith in rw e (mixed (suc l) k)

-- What a pattern stands for, with its flipped pattern.
pub data Stands (x : ℕ) : ℤ → Type 0 where
  at_pos : (n : ℕ) → flipped x ≡ n + sign_bit → Stands x (pos n)
  at_neg : (k : ℕ) → flipped x ≡ sign_bit - suc k → k < sign_bit → Stands x (negsuc k)

stands : (x : ℕ) → x < word_size → Stands x (to_z w32 x)
stands x h = by (ltb x sign_bit) refl
  where
    by : (p : Bool) → ltb x sign_bit ≡ p → Stands x (to_z w32 x)
    by true e = let l = ltb-true x sign_bit e in rw (to_z_pos w32 l) (at_pos x (omega arith))
    by false e = let l = ltb-false x sign_bit e in rw (negative x l h) (at_neg (minus_one - x) (omega arith) (omega arith))

sum_of : (a b : ℕ) {y z : ℤ} → Stands a y → Stands b z → to_z w32 (sum a b) ≡ cut_z (y +ℤ z)
sum_of a b (at_pos m p) (at_pos n q) = sum_pos (flipped a) (flipped b) m n p q
sum_of a b (at_pos m p) (at_neg k q h) = sum_mixed (flipped a) (flipped b) m k p q h
sum_of a b (at_neg k p h) (at_pos n q) =
    let e : flipped a + flipped b - sign_bit ≡ flipped b + flipped a - sign_bit = omega arith in
    rw e (sum_mixed (flipped b) (flipped a) n k q p h)
sum_of a b (at_neg k p h) (at_neg l q i) = sum_neg (flipped a) (flipped b) k l p q h i

difference_of : (a b : ℕ) {y z : ℤ} → Stands a y → Stands b z → to_z w32 (difference a b) ≡ cut_z (y -ℤ z)
difference_of a b (at_pos m p) (at_pos n q) = less_pos (flipped a) (flipped b) m n p q
difference_of a b (at_pos m p) (at_neg l q h) = less_below (flipped a) (flipped b) m l p q h
difference_of a b (at_neg k p h) (at_pos n q) = less_above (flipped a) (flipped b) k n p q h
difference_of a b (at_neg k p h) (at_neg l q i) = less_neg (flipped a) (flipped b) k l p q h i

-- Card 2: plus and minus are those of signed numbers, cut at the ends of the range.
pub sum_signed : (a b : ℕ) → a < word_size → b < word_size → to_z w32 (sum a b) ≡ cut_z (to_z w32 a +ℤ to_z w32 b)
sum_signed a b h i = sum_of a b (stands a h) (stands b i)

pub difference_signed : (a b : ℕ) → a < word_size → b < word_size → to_z w32 (difference a b) ≡ cut_z (to_z w32 a -ℤ to_z w32 b)
difference_signed a b h i = difference_of a b (stands a h) (stands b i)
