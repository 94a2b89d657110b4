-- The descriptor of a type: its kind's number and its first three fields in one number, each in eight bits of it (document 01, "The image"; refusal 8, "type equal to an earlier one"). Two types are equal exactly if their descriptors are, but for the types of objects, which may have more fields (card 3).
use Rattle.std.specs.Prelude.{ℕ, ◌+◌, ◌*◌, ◌/◌, ◌%◌, ◌≡◌, List, get_or}
use Rattle.image.specs.Bytes.{number_at}
use Rattle.image.specs.Kinds.{row_of}
use Rattle.image.specs.Records.{kind_at, numbers_at}

abbrev pub descriptor_of : ℕ → ℕ → ℕ → ℕ → ℕ
descriptor_of k a b c = k + 256 * a + 65536 * b + 16777216 * c

abbrev pub descriptor_kind : ℕ → ℕ
descriptor_kind x = x % 256

abbrev pub descriptor_field0 : ℕ → ℕ
descriptor_field0 x = x / 256 % 256

abbrev pub descriptor_field1 : ℕ → ℕ
descriptor_field1 x = x / 65536 % 256

abbrev pub descriptor_field2 : ℕ → ℕ
descriptor_field2 x = x / 16777216

-- Field i of the record at o, 0 where its kind has none.
abbrev pub field_or0 : List ℕ → ℕ → ℕ → ℕ
field_or0 b o i = get_or (numbers_at b o (row_of (kind_at b o))) i 0

-- The number x is the descriptor of the type at o.
pub record Describes (b : List ℕ) (o x : ℕ) : Type 0 where
  pub kind : descriptor_kind x ≡ number_at b o
  pub field0 : descriptor_field0 x ≡ field_or0 b o 0
  pub field1 : descriptor_field1 x ≡ field_or0 b o 1
  pub field2 : descriptor_field2 x ≡ field_or0 b o 2
