-- Loops over the tables, turn by turn: lookups link by link, labels digit by digit.
use Prim.Native.Nat.{ℕ, zero, suc, ◌+◌, ◌-◌, ◌*◌, ◌/◌, ◌%◌, ◌^◌, ◌≤◌, ◌<◌}
use native.Mathlib.Nat.{pow-suc, mod-eq_of_lt}
use native.Mathlib.Omega.{arith}
use mathlib.Core.Path.{◌≡◌, refl, sym, ap, ◌∙◌}
use lib.Dec.{leb}
use lib.Bits.{bit_or}
use borrow.Author.Tests.{le-leb, lt-leb}
use Rattle.calculus.specs.Combinators.{choose}
use Rattle.calculus.specs.Limits.{label_limit}
use Rattle.vm_code.specs.Values.{unit_value}
use Rattle.vm_machine.specs.Memory.{Memory, no_binding, bound_link, binding_at, lookup, with_bit, no_digits, digit_count, label_set}

-- What is found k bindings outside the one with word w.
unfoldable pub outside : Memory → ℕ → ℕ → ℕ
outside M w zero = w
outside M w (suc k) = choose (leb no_binding (bound_link w)) unit_value (lookup M (bound_link w) k)

module _ (M : Memory) where
  pub lookup_outside : (i k : ℕ) → lookup M i k ≡ outside M (binding_at M i) k
  unfolding lookup outside
  lookup_outside i zero = refl
  lookup_outside i (suc k) = refl

  pub outside_none : (w k : ℕ) → 0 < k → no_binding ≤ bound_link w → outside M w k ≡ unit_value
  unfolding outside
  outside_none w zero h e = absurd (omega arith)
  outside_none w (suc k) h e = rw (le-leb no_binding (bound_link w) e)

  -- u is the word of the next binding outside.
  pub outside_on : (w k l u : ℕ) → 0 < k → l ≡ bound_link w → l < no_binding → u ≡ binding_at M l → outside M w k ≡ outside M u (k - 1)
  unfolding outside
  outside_on w zero l u h e n d = absurd (omega arith)
  outside_on w (suc k) l u h e n d =
      let m : suc k - 1 ≡ k = omega arith in
      rw (lt-leb no_binding (bound_link w) (omega arith), m) (ap (λ j. lookup M j k) (sym e) ∙ lookup_outside l k ∙ ap (λ x. outside M x k) (sym d))

  pub outside_here : (w k : ℕ) → k ≡ 0 → outside M w k ≡ w
  unfolding outside
  outside_here w k e = rw e

no_digits_lem : (m d : ℕ) → d ≤ no_digits → digit_count m d ≡ 0
unfolding digit_count
no_digits_lem zero d h = refl
no_digits_lem (suc m) d h = rw (le-leb d no_digits h)

-- How many of n digits there are, of which i are counted and d is left.
module _ (n i d : ℕ) where
  pub count_none : d ≤ no_digits → i + digit_count (n - i) d ≡ i
  count_none h = rw (no_digits_lem (n - i) d h) (omega arith)

  pub count_end : n ≤ i → i + digit_count (n - i) d ≡ i
  unfolding digit_count
  count_end h = let e : n - i ≡ 0 = omega arith in rw e (omega arith)

  pub count_more : i < n → no_digits < d → i + digit_count (n - i) d ≡ i + 1 + digit_count (n - (i + 1)) (d / label_limit)
  unfolding digit_count
  count_more h g = let e : n - i ≡ suc (n - (i + 1)) = omega arith in rw (e, lt-leb d no_digits g) (omega arith)

-- The set of n labels, of which s are taken and the digits d are left.
module _ (n i d s : ℕ) where
  pub set_end : n ≤ i → label_set (n - i) d s ≡ s
  unfolding label_set
  set_end h = let e : n - i ≡ 0 = omega arith in rw e

  pub set_more : (t : ℕ) → i < n → t ≡ with_bit s (d % label_limit) → label_set (n - i) d s ≡ label_set (n - (i + 1)) (d / label_limit) t
  unfolding label_set
  set_more t h e = let f : n - i ≡ suc (n - (i + 1)) = omega arith in rw (f, e)

-- A bit of a word of 64.
power_positive : (n : ℕ) → 0 < 2 ^ n
power_positive zero = omega arith
power_positive (suc n) = rw pow-suc (omega (arith, power_positive n))

power_below : (l n : ℕ) → l < n → 2 ^ l < 2 ^ n
power_below l zero h = absurd (omega arith)
power_below zero (suc n) h = rw pow-suc (omega (arith, power_positive n))
power_below (suc l) (suc n) h = rw (pow-suc 2 l, pow-suc 2 n) (omega (arith, power_below l n (omega arith)))

pub bit_in : (s l : ℕ) → l < label_limit → bit_or s ((1 * 2 ^ l) % 2 ^ 64) ≡ with_bit s l
bit_in s l h =
    let e : 1 * 2 ^ l ≡ 2 ^ l = omega arith in
    ap (bit_or s) (rw e (mod-eq_of_lt (power_below l 64 h)))
