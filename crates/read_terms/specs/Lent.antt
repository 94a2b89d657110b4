-- What a reader of terms is lent: the offsets of the domains, the types and the terms, the descriptors of the types and the masks of the domains of an image that is laid out, each in a table of its own.
use Rattle.std.specs.Prelude.{ℕ, ◌≤◌, ◌<◌, ◌≡◌, true, List, length, get_or, take}
use Rattle.image.specs.Limits.{domain_limit}
use Rattle.image.specs.Layout.{laid, layout, records_of}
use Rattle.image.specs.Kinds.{TypeKind}
use Rattle.image.specs.Types.{type_place, is_type}
use Rattle.verdict.specs.Domains.{masks}
use Rattle.read_records.specs.Descriptors.{Describes}

pub record Domains (b table : List ℕ) : Type 0 where
  pub laid_out : layout b ≡ laid (records_of b)
  pub offsets : take (length (records_of b).domains) table ≡ (records_of b).domains

pub record Terms (b table : List ℕ) : Type 0 where
  pub laid_out : layout b ≡ laid (records_of b)
  pub offsets : take (length (records_of b).terms) table ≡ (records_of b).terms

pub record Types (b table : List ℕ) : Type 0 where
  pub laid_out : layout b ≡ laid (records_of b)
  pub enough : length (records_of b).types ≤ length table
  pub descriptors : (t : ℕ) → t < length (records_of b).types → Describes b (type_place (records_of b) t) (get_or table t 0)

-- The offsets of the types, and a type that is an object's (card 3).
pub record TypeOffsets (b table : List ℕ) : Type 0 where
  pub laid_out : layout b ≡ laid (records_of b)
  pub offsets : take (length (records_of b).types) table ≡ (records_of b).types

pub record IsObject (b : List ℕ) (t : ℕ) : Type 0 where
  pub there : t < length (records_of b).types
  pub object : is_type (records_of b) TypeKind.obj t ≡ true

-- The mask of each domain, 0 where there is none.
pub record Masks (b table : List ℕ) : Type 0 where
  pub sixteen : length table ≡ domain_limit
  pub each : (d : ℕ) → get_or table d 0 ≡ get_or (masks (records_of b)) d 0

-- The tables of the terms and of the types.
pub record Lent (b term-table descriptor_table : List ℕ) : Type 0 where
  pub terms : Terms b term-table
  pub types : Types b descriptor_table

-- The number of one of the image's terms; of one of its types.
abbrev pub IsTerm : List ℕ → ℕ → Type 0
IsTerm b n = n < length (records_of b).terms

abbrev pub IsType : List ℕ → ℕ → Type 0
IsType b t = t < length (records_of b).types
