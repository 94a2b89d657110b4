-- Records as kinds with the numbers of their fields, and their bytes (document 01, "The image").
use Rattle.std.specs.Prelude.{ℕ, ◌+◌, ◌*◌, ◌/◌, ◌%◌, List, [], ◌∷◌, ◌++◌, length}
use Rattle.image.specs.Kinds.{Kind, row_of}
use Rattle.image.specs.Limits.{method_limit}

-- The most known fields of a record: those of the type of an object with as many methods as there may be, two for each.
abbrev pub field_limit : ℕ
field_limit = 2 * method_limit

-- 16-bit numbers, little-endian.
unfoldable pub little : List ℕ → List ℕ
little [] = []
little (n ∷ ns) = (n % 256) ∷ (n / 256) ∷ little ns

pub record Record : Type 0 where
  pub kind : Kind
  pub fields : List ℕ

abbrev pub record_of : Kind → List ℕ → Record
record_of k ns = record { kind = k; fields = ns }

-- A record's length in bytes.
abbrev pub size : Record → ℕ
size r = 4 + 2 * length r.fields

unfoldable pub bytes : Record → List ℕ
bytes r = little (size r ∷ (row_of r.kind).number ∷ r.fields)

-- "Records stand end to end."
unfoldable pub image : List Record → List ℕ
image [] = []
image (r ∷ rs) = bytes r ++ image rs
