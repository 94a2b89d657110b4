-- Two images with the same records by their known fields (document 02, card 1): the same kinds in the same order, with the same known fields, whatever stands behind these.
use Rattle.std.specs.Prelude.{ℕ, ◌+◌, ◌≡◌, true, List, length}
use Rattle.image.specs.Bytes.{length_at, number_at}
use Rattle.image.specs.Kinds.{row_of}
use Rattle.image.specs.Records.{kind_at, fields_at, numbers_at}
use Rattle.image.specs.Layout.{framed, known, right_length}

-- The record at o meets none of the refusals 2, 3 and 4.
pub record Readable (b : List ℕ) (o : ℕ) : Type 0 where
  pub whole : framed b o ≡ true
  pub known : known b o ≡ true
  pub long : right_length (row_of (kind_at b o)) (length_at b o) ≡ true

-- The record at o of b and the record at p of c are readable, have the same kind, and the same known fields.
pub record SameRecord (b c : List ℕ) (o p : ℕ) : Type 0 where
  pub here : Readable b o
  pub there : Readable c p
  pub number : number_at c p ≡ number_at b o
  pub fields : fields_at c p (row_of (kind_at b o)) ≡ fields_at b o (row_of (kind_at b o))
  pub numbers : numbers_at c p (row_of (kind_at b o)) ≡ numbers_at b o (row_of (kind_at b o))

-- From offset o of b on, and from place o of c on, the records are the same, one by one: place says where a record of b stands in c.
pub data SameFrom (b c : List ℕ) (place : ℕ → ℕ) : ℕ → Type 0 where
  ends : (o : ℕ) → o ≡ length b → place o ≡ length c → SameFrom b c place o
  next : (o : ℕ) → SameRecord b c o (place o) → place (o + length_at b o) ≡ place o + length_at c (place o) → SameFrom b c place (o + length_at b o) → SameFrom b c place o

-- The whole images.
pub record SameRecords (b c : List ℕ) (place : ℕ → ℕ) : Type 0 where
  pub start : place 0 ≡ 0
  pub each : SameFrom b c place 0
