-- `write_sections::write_type` meets its contract.
use Prim.Native.Nat.{ℕ}
use mathlib.Core.Path.{◌≡◌}
use lib.ListN.{length}
use Rattle.image.specs.Layout.{records_of}
use Rattle.image.specs.Types.{type_fields}
use Rattle.read_terms.specs.Lent.{IsType}
use Rattle.write_fields.proofs.Standing.{RecordRead}
use Rattle.write_types.proofs.Located.{sorts_at}
use Rattle.write_sections.proofs.Numbered.{Numbered}
use Rattle.image_written.specs.Records.{field_limit}
use Rattle.write_sections.proofs.write_type.Given as goal

-- The loop keeps the fields, and not the type's number: what it claims holds of every type that they are the fields of.
abbrev pub invariant-loop-i : goal.invariant-loop-i
invariant-loop-i l =
    (length l.numbers ≡ field_limit)
    × ((t : ℕ) → IsType l.image t → RecordRead l.fields l.known.code l.known.count (sorts_at l.image t) (type_fields (records_of l.image) t) → Numbered l.image l.table.places t l.i l.numbers)
