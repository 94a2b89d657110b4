-- What the scan of an image leaves for the shape: the tables, and how many records each section has (document 01, "Turned back at the gate", refusals 9 to 12).
use Rattle.std.specs.Prelude.{List, ℕ}
use Rattle.read_records.specs.declared.numbers.Counts.{Counts}
use Rattle.read_records.specs.Tables.{Tables}
use Rattle.read_records.specs.Tables as records

-- There is a table of descriptors too, which is not read here.
pub record Counted (b : List ℕ) (n : Counts) (domain-table term-table : List ℕ) : Type 0 where
  pub descriptor_table : List ℕ
  pub tables : Tables b domain-table term-table descriptor_table
  pub counts : records.Counted b n
