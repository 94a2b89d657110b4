-- Laws of decimal numbers: any bound of digits above the number serves; the last digit, and the digits above it; the sign.
use Prim.Native.Nat.{ℕ, zero, suc, ◌+◌, ◌-◌, ◌/◌, ◌%◌, ◌≤◌, ◌<◌}
use native.Mathlib.Omega.{arith}
use mathlib.Core.Path.{◌≡◌, refl, ap, ◌∙◌}
use mathlib.Core.Bool.{Bool, true, false}
use mathlib.Core.List.{List, [], ◌∷◌, ◌++◌}
use lib.Dec.{ltb}
use borrow.Author.Tests.{lt-ltb, le-ltb, ltb-false}
use Rattle.calculus.specs.Combinators.{choose}
use Rattle.calculus.specs.Limits.{word_size, sign_bit}
use Rattle.listing_lines.specs.Text.{ascii, digit, digits, decimal, signed_decimal}

-- The digits of n from those above the last, by whether it has but one.
from_above : ℕ → List ℕ → Bool → List ℕ
from_above n above b = elim b [ true ↦ digit n | false ↦ above ++ digit (n % 10) ]

enough : (k m n : ℕ) → n < k → n < m → digits k n ≡ digits m n
unfolding digits from_above
enough zero m n h l = absurd (omega arith)
enough (suc k) zero n h l = absurd (omega arith)
enough (suc k) (suc m) n h l = look (ltb n 10) refl (λ t. enough k m (n / 10) (omega arith) (omega arith))
  where
    look : (b : Bool) → ltb n 10 ≡ b → (10 ≤ n → digits k (n / 10) ≡ digits m (n / 10)) → from_above n (digits k (n / 10)) b ≡ from_above n (digits m (n / 10)) b
    look true e next = refl
    look false e next = ap (◌++ digit (n % 10)) (next (ltb-false n 10 e))

-- A number of one digit d.
pub one_digit : (n d : ℕ) → n < 10 → d ≡ 48 + n % 10 → decimal n ≡ d ∷ []
unfolding digits from_above
one_digit n d h e =
    let q : 48 + n ≡ d = omega arith in
    ap (from_above n (digits n (n / 10))) (lt-ltb n 10 h) ∙ ap (◌∷ []) q

-- A number with the last digit d.
pub more_digits : (n d : ℕ) → 10 ≤ n → d ≡ 48 + n % 10 → decimal n ≡ decimal (n / 10) ++ (d ∷ [])
unfolding digits from_above
more_digits n d h e =
    let above : digits n (n / 10) ≡ decimal (n / 10) = enough n (suc (n / 10)) (n / 10) (omega arith) (omega arith) in
    let q : 48 + n % 10 ≡ d = omega arith in
    ap (from_above n (digits n (n / 10))) (le-ltb n 10 h) ∙ ap (◌++ digit (n % 10)) above ∙ ap (λ x. decimal (n / 10) ++ (x ∷ [])) q

pub not_negative : (n : ℕ) → n < sign_bit → signed_decimal n ≡ decimal n
not_negative n h = ap (λ b. choose b (decimal n) (ascii "-" ++ decimal (word_size - n))) (lt-ltb n sign_bit h)

pub negative : (n : ℕ) → sign_bit ≤ n → signed_decimal n ≡ ascii "-" ++ decimal (word_size - n)
negative n h = ap (λ b. choose b (decimal n) (ascii "-" ++ decimal (word_size - n))) (le-ltb n sign_bit h)
