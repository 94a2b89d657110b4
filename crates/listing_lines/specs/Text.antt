-- Text as bytes of ASCII, and numbers in decimal (document 01, "Bench sheet").
use Rattle.std.specs.Prelude.{ℕ, zero, suc, ◌+◌, ◌-◌, ◌/◌, ◌%◌, true, false, List, [], ◌∷◌, ◌++◌, ltb}
use Prim.Native.Char.{code}
use Prim.Native.String.{String, [] as empty, ◌∷◌ as ◌then◌}
use Rattle.calculus.specs.Combinators.{choose}
use Rattle.calculus.specs.Limits.{word_size, sign_bit}

abbrev pub ascii : String → List ℕ
ascii empty = []
ascii (c then s) = code c ∷ ascii s

-- The character of a digit.
abbrev pub digit : ℕ → List ℕ
digit d = (code "0" + d) ∷ []

-- The digits of n, the highest first, as many as k at most.
unfoldable pub digits : ℕ → ℕ → List ℕ
digits zero n = []
digits (suc k) n = elim (ltb n 10) [ true ↦ digit n | false ↦ digits k (n / 10) ++ digit (n % 10) ]

-- A number in decimal: it has at most n + 1 digits.
abbrev pub decimal : ℕ → List ℕ
decimal n = digits (suc n) n

-- A 32-bit pattern as a signed number in decimal.
abbrev pub signed_decimal : ℕ → List ℕ
signed_decimal n = choose (ltb n sign_bit) (decimal n) (ascii "-" ++ decimal (word_size - n))

-- The texts of the parts of a list, end to end.
unfoldable pub texts : {A : Type 0} → (A → List ℕ) → List A → List ℕ
texts f [] = []
texts f (a ∷ x) = f a ++ texts f x
