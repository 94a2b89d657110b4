-- What the validator's tables hold of an image that is laid out: the offsets of its domains and terms, and the descriptors of its types (document 01, "The image": "Three sections in order: domains, types, terms. Each is numbered from 0 on its own").
use Rattle.std.specs.Prelude.{ℕ, ◌≤◌, ◌<◌, ◌≡◌, List, length, get_or, take}
use Rattle.image.specs.Limits.{image_limit}
use Rattle.image.specs.Layout.{laid, layout, records_of}
use Rattle.image.specs.Types.{type_place}
use Rattle.read_records.specs.declared.numbers.Counts.{Counts}
use Rattle.read_records.specs.Descriptors.{Describes}

pub record Tables (b domain-table term-table descriptor_table : List ℕ) : Type 0 where
  -- the image is laid out, and no longer than an image may be
  pub laid_out : layout b ≡ laid (records_of b)
  pub short : length b ≤ image_limit
  -- the tables are long enough, and their first places hold the offsets
  pub domains : take (length (records_of b).domains) domain-table ≡ (records_of b).domains
  pub terms : take (length (records_of b).terms) term-table ≡ (records_of b).terms
  pub enough : length (records_of b).types ≤ length descriptor_table
  pub descriptors : (t : ℕ) → t < length (records_of b).types → Describes b (type_place (records_of b) t) (get_or descriptor_table t 0)

-- So many records has each section of an image that is laid out.
pub record Counted (b : List ℕ) (n : Counts) : Type 0 where
  pub domains : n.domains ≡ length (records_of b).domains
  pub types : n.types ≡ length (records_of b).types
  pub terms : n.terms ≡ length (records_of b).terms
