-- Decimal numbers in the arguments of programs.
use Rattle.std.specs.Prelude.{ℕ, ◌+◌, ◌-◌, ◌*◌, ◌≤◌, Bool, ◌&&◌, cond, List, [], ◌∷◌, leb, Option, Some, None}

-- A digit in ASCII, and what it stands for.
abbrev pub is_digit : ℕ → Bool
is_digit d = leb 48 d && leb d 57

abbrev pub with_digit : ℕ → ℕ → ℕ
with_digit n d = 10 * n + (d - 48)

-- What is said with one byte more: no number, if the byte is no digit or the number is over the limit.
abbrev pub after : ℕ → Option ℕ → ℕ → Option ℕ
after most (Some n) d = cond (is_digit d && leb (with_digit n d) most) (Some (with_digit n d)) None
after most None d = None

unfoldable pub after_all : ℕ → Option ℕ → List ℕ → Option ℕ
after_all most s [] = s
after_all most s (d ∷ ds) = after_all most (after most s d) ds

-- The number that bytes say, if they are decimal digits, at least one, and the number is within the limit.
abbrev pub numeral : ℕ → List ℕ → Option ℕ
numeral most [] = None
numeral most (d ∷ ds) = after_all most (Some 0) (d ∷ ds)

-- A number that is said is within the limit.
abbrev pub AtMost : ℕ → Option ℕ → Type 0
AtMost most (Some n) = n ≤ most
AtMost most None = Unit {0}
