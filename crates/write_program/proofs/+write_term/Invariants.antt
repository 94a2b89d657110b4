-- `write_program::write_term` meets its contract.
use Prim.Native.Nat.{ℕ}
use mathlib.Core.Path.{◌≡◌}
use lib.ListN.{length}
use Rattle.image.specs.Layout.{records_of}
use Rattle.read_terms.specs.Lent.{IsTerm}
use Rattle.write_fields.proofs.Standing.{RecordRead}
use Rattle.image_written.proofs.Fronts.{sorts_at, numbers_of}
use Rattle.image_written.specs.Records.{field_limit}
use Rattle.write_program.specs.Writing.{Capacity}
use Rattle.write_program.proofs.Begun.{Begun, Come}
use Rattle.write_program.proofs.+write_term.Given as goal

abbrev pub decreases-write_term : goal.decreases-write_term
decreases-write_term l = l.e.0

-- The loop keeps the fields, and not the term's number: what it claims holds of every term that they are the fields of.
abbrev pub invariant-loop-i : goal.invariant-loop-i
invariant-loop-i l =
    (length l.numbers ≡ field_limit)
    × ((e : ℕ) → IsTerm l.image e → Capacity l.image e l.initial.d (length l.initial.out) → RecordRead l.fields l.known.code l.known.count (sorts_at (records_of l.image) e) (numbers_of (records_of l.image) e)
    → Come l.image e l.i l.initial.d l.d × Begun l.image l.places e l.initial.d l.i l.initial.out l.out l.numbers)
