-- Numbers in bytes, little-endian (document 01, "The image"), and bytes written over others.
use Rattle.std.specs.Prelude.{ℕ, zero, suc, ◌+◌, ◌*◌, ◌/◌, ◌%◌, ◌<◌, List, [], ◌∷◌, ◌++◌, length, get_or, take, drop, replicate}

-- A list of bytes, as lent memory is.
abbrev pub AreBytes : List ℕ → Type 0
AreBytes b = (i : ℕ) → get_or b i 0 < 256

-- The k low bytes of a number, lowest first.
unfoldable pub bytes_of : ℕ → ℕ → List ℕ
bytes_of zero n = []
bytes_of (suc k) n = n % 256 ∷ bytes_of k (n / 256)

-- The number that bytes hold, lowest first.
unfoldable pub number_of : List ℕ → ℕ
number_of [] = 0
number_of (a ∷ b) = a + 256 * number_of b

-- The number in the k bytes from offset o on.
unfoldable pub number_at : ℕ → ℕ → List ℕ → ℕ
number_at k o b = number_of (take k (drop o b))

-- The list xs with bs written over it from offset o on.
unfoldable pub over : ℕ → List ℕ → List ℕ → List ℕ
over o bs xs = take o xs ++ bs ++ drop (o + length bs) xs

-- The list with its first n bytes 0.
unfoldable pub cleared : ℕ → List ℕ → List ℕ
cleared n xs = replicate n 0 ++ drop n xs
