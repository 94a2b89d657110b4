-- Tests and numbers on the bytes that a record's fields occupy (document 01, "The image": "hands each record's fields on as the part of the image that they occupy"; refusal 7).
use Rattle.std.specs.Prelude.{ℕ, ◌/◌, ◌<◌, ◌≡◌, List, eqb, ltb}
use Rattle.calculus.specs.Combinators.{choose}
use Rattle.read_records.specs.Codes.{group_of, count_of}
use Rattle.read_records.specs.Heads.{field_in}
use Rattle.read_records.specs.Descriptors.{descriptor_kind, descriptor_field0, descriptor_field1, descriptor_field2}

-- How many fields a type of the code x has, whose fields take n bytes: where there is a group, as many as the bytes hold (card 3).
abbrev pub type_count : ℕ → ℕ → ℕ
type_count x n = choose (eqb (group_of x) 0) (count_of x) (n / 2)

-- Field i of n, 0 where it is none of them.
abbrev pub field_from : List ℕ → ℕ → ℕ → ℕ
field_from fs n i = choose (ltb i n) (field_in fs i) 0

-- Each of the n fields fits in eight bits.
abbrev pub Narrow : List ℕ → ℕ → Type 0
Narrow fs n = (i : ℕ) → field_from fs n i < 256

-- The number x is the descriptor of a type with the kind's number k and these n fields.
pub record DescriptorFrom (fs : List ℕ) (n k x : ℕ) : Type 0 where
  pub kind : descriptor_kind x ≡ k
  pub field0 : descriptor_field0 x ≡ field_from fs n 0
  pub field1 : descriptor_field1 x ≡ field_from fs n 1
  pub field2 : descriptor_field2 x ≡ field_from fs n 2
