-- The bytes of the domains and of the types of an image that is written anew (document 02, card 11: "domains kept"; types "each after its own parts, left to right").
use Rattle.std.specs.Prelude.{ℕ, ◌+◌, ◌*◌, ◌≡◌, List, map, length}
use Rattle.calculus.specs.Syntax.{Ty}
use Rattle.image.specs.Layout.{records_of}
use Rattle.image.specs.Types.{type_of}
use Rattle.base_bytes.specs.Bytes.{over}
use Rattle.image_written.specs.TypeParts.{parts_of}
use Rattle.image_written.specs.Records.{bytes, image}
use Rattle.image_written.specs.Written.{domain_record, type_record}
use Rattle.image_written.proofs.Writable.{PartsIn}
use Rattle.write_types.specs.Entries.{Placed}

-- Of domains with the masks ms, and of the types of a table.
abbrev pub domain_bytes : List ℕ → List ℕ
domain_bytes ms = image (map (λ m. domain_record m) ms)

abbrev pub type_bytes : List Ty → List ℕ
type_bytes T = image (map (λ t. type_record T t) T)

-- How many bytes type t of the image b takes, whatever the table.
abbrev pub type_size : List ℕ → ℕ → ℕ
type_size b t = 4 + 2 * length (parts_of (type_of (records_of b) t))

-- out' is the output out with type t written at an offset, over every table of types that has its parts at the lent places.
pub record WroteType (b places : List ℕ) (t at : ℕ) (out out' : List ℕ) : Type 0 where
  pub over_table : (T : List Ty) → Placed b places T → PartsIn (length (records_of b).domains) T (parts_of (type_of (records_of b) t)) → out' ≡ over at (bytes (type_record T (type_of (records_of b) t))) out
