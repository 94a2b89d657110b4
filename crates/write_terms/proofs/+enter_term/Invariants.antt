-- `write_terms::enter_term` meets its contract.
use Prim.Native.Nat.{ℕ}
use mathlib.Core.Path.{◌≡◌}
use Rattle.image.specs.Layout.{records_of}
use Rattle.read_terms.specs.Lent.{IsTerm}
use Rattle.write_fields.proofs.Standing.{RecordRead}
use Rattle.image_written.specs.Table.{entered, types_in_all}
use Rattle.image_written.proofs.Fronts.{trees, sorts_at, numbers_of, kids}
use Rattle.write_types.specs.Entries.{Entries, entries_of}
use Rattle.write_terms.proofs.+enter_term.Given as goal

abbrev pub decreases-enter_term : goal.decreases-enter_term
decreases-enter_term l = l.e.0

-- The loop keeps the fields, and not the term's number: what it claims holds of every term that they are the fields of.
abbrev pub invariant-loop-i : goal.invariant-loop-i
invariant-loop-i l =
    Entries l.image l.m l.places l.order
    × ((e : ℕ) → IsTerm l.image e → RecordRead l.fields l.known.code l.known.count (sorts_at (records_of l.image) e) (numbers_of (records_of l.image) e)
    → entries_of l.image l.m l.order ≡ entered (entries_of l.image l.n l.initial.order) (types_in_all (trees (records_of l.image) (kids (records_of l.image) e l.i))))
