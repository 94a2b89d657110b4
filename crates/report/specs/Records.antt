-- Records end to end on bytes (document 01, "The image": "Records stand end to end"): written, and read back from any bytes.
use Rattle.std.specs.Prelude.{ℕ, zero, suc, ◌-◌, Bool, ◌&&◌, List, [], ◌∷◌, ◌++◌, length, take, drop, leb}
use Rattle.calculus.specs.Combinators.{choose}
use Rattle.base_bytes.specs.Bytes.{number_at}
use Rattle.base_bytes.specs.Records.{Record, record_bytes}

unfoldable pub records_bytes : List Record → List ℕ
records_bytes [] = []
records_bytes (r ∷ rs) = record_bytes r ++ records_bytes rs

-- Of the record that bytes begin with: its length, whether it is whole, and what it says.
abbrev pub length_of : List ℕ → ℕ
length_of b = number_at 2 0 b

abbrev pub is_whole : List ℕ → Bool
is_whole b = leb 4 (length_of b) && leb (length_of b) (length b)

abbrev pub first_record : List ℕ → Record
first_record b = record { kind = number_at 2 2 b; fields = take (length_of b - 4) (drop 4 b) }

-- The records that stand end to end after so many bytes. A record that is not whole ends them.
unfoldable pub records_after : ℕ → List ℕ → List Record
records_after k [] = []
records_after zero (a ∷ b) = choose (is_whole (a ∷ b)) (first_record (a ∷ b) ∷ records_after (length_of (a ∷ b) - 1) b) []
records_after (suc k) (a ∷ b) = records_after k b

abbrev pub records_in : List ℕ → List Record
records_in b = records_after 0 b
