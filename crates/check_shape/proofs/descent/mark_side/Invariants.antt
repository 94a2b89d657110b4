-- `check_shape::descent::mark_side` meets its contract: the loop marks one child after another; the rest of the list is left.
use mathlib.Core.Path.{◌≡◌}
use lib.ListN.{length, drop}
use Rattle.verdict.specs.Shape.{set_all}
use Rattle.read_records.specs.Heads.{side_of}
use Rattle.check_shape.proofs.descent.mark_side.Given as goal

abbrev pub invariant-loop-j : goal.invariant-loop-j
invariant-loop-j l =
    (length l.depths ≡ length l.initial.depths) × (set_all (side_of l.code l.fields) l.d l.initial.depths ≡ set_all (drop l.j (side_of l.code l.fields)) l.d l.depths)
