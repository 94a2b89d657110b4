-- One record after another.
use Prim.Native.Nat.{◌-◌}
use lib.ListN.{length}
use Rattle.report.specs.Read.{leaf_in}
use Rattle.listing_lines.specs.Lines.{leaf_text}
use Rattle.listing_lines.proofs.Walk.{Walked}
use Rattle.listing_lines.proofs.leaves.put_leaves.Given as goal

abbrev pub invariant-loop-size : goal.invariant-loop-size
invariant-loop-size l = Walked leaf_text leaf_in l.initial.out l.at l.s l.out l.o l.i l.size

abbrev pub decreases-loop-size : goal.decreases-loop-size
decreases-loop-size l = length l.s - l.i
