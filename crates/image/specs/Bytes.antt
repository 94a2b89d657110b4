-- Records on the bytes of an image (document 01, "The image"): "a length (whole record, in bytes), a kind, then fields. All are unsigned 16-bit little-endian". A record is known by its offset.
use Rattle.std.specs.Prelude.{ℕ, zero, suc, ◌+◌, ◌*◌, List, [], ◌∷◌, get_or}

-- The 16-bit number at offset o.
abbrev pub le16 : List ℕ → ℕ → ℕ
le16 b o = get_or b o 0 + 256 * get_or b (o + 1) 0

-- n 16-bit numbers, end to end, from offset o on.
unfoldable pub words : List ℕ → ℕ → ℕ → List ℕ
words b o zero = []
words b o (suc n) = le16 b o ∷ words b (o + 2) n

-- Of the record at o: its length, its kind's number, and field i.
abbrev pub length_at : List ℕ → ℕ → ℕ
length_at b o = le16 b o

abbrev pub number_at : List ℕ → ℕ → ℕ
number_at b o = le16 b (o + 2)

abbrev pub field_at : List ℕ → ℕ → ℕ → ℕ
field_at b o i = le16 b (o + 4 + 2 * i)
