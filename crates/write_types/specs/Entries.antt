-- A table of types (the crate image_written) as two arrays of numbers hold it: the order of the types, by the numbers that they have in the image, and each type's place.
use Rattle.std.specs.Prelude.{ℕ, ◌≤◌, ◌<◌, ◌≡◌, true, List, [], map, length, get_or, take, replicate, eqb}
use Rattle.calculus.specs.Syntax.{Ty}
use Rattle.calculus.specs.Combinators.{choose}
use Rattle.image.specs.Limits.{type_limit}
use Rattle.image.specs.Layout.{laid, layout, records_of}
use Rattle.image.specs.Types.{type_of}
use Rattle.image.proofs.Laid.{Below}
use Rattle.image_written.specs.TypeParts.{parts_of}
use Rattle.image_written.specs.Table.{place, has}
use Rattle.image_written.proofs.Writable.{Bounded, PartsIn, TableFrom}
use Rattle.write_types.specs.declared.TypeTable.{TypeTable}

-- The place of a type that is not in the table.
abbrev pub no_place : ℕ
no_place = 65535

abbrev pub place_in : List Ty → Ty → ℕ
place_in T t = choose (has T t) (place T t) no_place

-- The first n types of an order.
abbrev pub entries_of : List ℕ → ℕ → List ℕ → List Ty
entries_of b n order = map (λ t. type_of (records_of b) t) (take n order)

-- The arrays hold n types of the image b, each behind its parts.
pub record Entries (b : List ℕ) (n : ℕ) (places order : List ℕ) : Type 0 where
  pub laid_out : layout b ≡ laid (records_of b)
  pub enough_places : length (records_of b).types ≤ length places
  pub enough_order : length (records_of b).types ≤ length order
  pub few : n ≤ length order
  pub numbers : Below (length (records_of b).types) (take n order)
  pub table : TableFrom (length (records_of b).domains) [] (entries_of b n order)
  pub each : (t : ℕ) → t < length (records_of b).types → get_or places t 0 ≡ place_in (entries_of b n order) (type_of (records_of b) t)

-- Such a table, its types, and one that has none.
abbrev pub TableOf : List ℕ → TypeTable → Type 0
TableOf b T = Entries b T.count T.places T.order

abbrev pub types_of : List ℕ → TypeTable → List Ty
types_of b T = entries_of b T.count T.order

abbrev pub empty_table : TypeTable
empty_table = record { places = replicate type_limit no_place; order = replicate type_limit 0; count = 0 }

-- The parts of type t are among the first n, and it has as many as it may.
pub record PartsThere (b : List ℕ) (n : ℕ) (order : List ℕ) (t : ℕ) : Type 0 where
  pub there : PartsIn (length (records_of b).domains) (entries_of b n order) (parts_of (type_of (records_of b) t))
  pub bounded : Bounded (type_of (records_of b) t)

-- Each type of the image b that the table T has stands in it at the place that the array holds.
pub record Placed (b places : List ℕ) (T : List Ty) : Type 0 where
  pub each : (t : ℕ) → t < length (records_of b).types → has T (type_of (records_of b) t) ≡ true → get_or places t 0 ≡ place T (type_of (records_of b) t)

-- The number of a field of class c (the crate read_records, specs/Codes.antt) and number v that names no child, in the image that is written: a type's place, and any other number as it is.
abbrev pub kept_number : List ℕ → ℕ → ℕ → ℕ
kept_number places c v = choose (eqb c 0) (get_or places v 0) v
