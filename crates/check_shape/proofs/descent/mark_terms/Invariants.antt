-- The loop goes down from the root; the lower terms are left.
use mathlib.Core.Path.{◌≡◌}
use lib.ListN.{length}
use Rattle.image.specs.Layout.{records_of}
use Rattle.check_shape.specs.Depths.{capped_from}
use Rattle.check_shape.proofs.descent.mark_terms.Given as goal

abbrev pub invariant-loop-i : goal.invariant-loop-i
invariant-loop-i l =
    (length l.depths ≡ length l.initial.depths)
    × (capped_from (records_of l.image) (length l.terms) l.initial.depths ≡ capped_from (records_of l.image) l.i l.depths)
