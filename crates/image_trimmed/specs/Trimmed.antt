-- An image trimmed to its known fields (document 02, card 1: "An image that meets none of refusals 1 to 4, and its form trimmed to known fields").
use Rattle.std.specs.Prelude.{ℕ, zero, suc, ◌+◌, ◌-◌, ◌/◌, ◌%◌, ◌≤◌, ◌≡◌, true, false, List, [], ◌∷◌, ◌++◌, length, take, drop, leb}
use Rattle.image.specs.Limits.{image_limit}
use Rattle.image.specs.Bytes.{length_at}
use Rattle.image.specs.Kinds.{row_of}
use Rattle.image.specs.Records.{kind_at, known_length}
use Rattle.image_trimmed.specs.SameRecords.{Readable}

-- Every record from offset o on is readable.
pub data ReadableFrom (b : List ℕ) : ℕ → Type 0 where
  ends : (o : ℕ) → o ≡ length b → ReadableFrom b o
  next : (o : ℕ) → Readable b o → ReadableFrom b (o + length_at b o) → ReadableFrom b o

-- The image meets none of the refusals 1 to 4, at any of its records, also behind one that is refused for another cause.
pub record ReadableImage (b : List ℕ) : Type 0 where
  pub short : length b ≤ image_limit
  pub records : ReadableFrom b 0

-- The record at o cut to its known fields: the length anew, then kind and fields as they are.
abbrev pub trimmed_length : List ℕ → ℕ → ℕ
trimmed_length b o = known_length (row_of (kind_at b o)) (length_at b o)

abbrev pub trimmed_record : List ℕ → ℕ → List ℕ
trimmed_record b o = trimmed_length b o % 256 ∷ trimmed_length b o / 256 ∷ take (trimmed_length b o - 2) (drop (o + 2) b)

-- The records from offset o on, each cut. f is the fuel: each record takes at least 4 bytes of b, so b's length is enough.
unfoldable pub trimmed_from : ℕ → List ℕ → ℕ → List ℕ
trimmed_from zero b o = []
trimmed_from (suc f) b o = elim (leb (length b) o) [ true ↦ [] | false ↦ trimmed_record b o ++ trimmed_from f b (o + length_at b o) ]

unfoldable pub trimmed : List ℕ → List ℕ
trimmed b = trimmed_from (length b) b 0

-- Where the record at o stands in the trimmed image: as far from its end as what follows it is long there.
unfoldable pub trimmed_place : List ℕ → ℕ → ℕ
trimmed_place b o = length (trimmed b) - length (trimmed_from (length b) b o)
