-- One record after another.
use Prim.Native.Nat.{◌-◌}
use lib.ListN.{length}
use Rattle.report.specs.Read.{cell_in_of}
use Rattle.listing_lines.specs.Lines.{cell_line}
use Rattle.listing_lines.proofs.Walk.{Walked}
use Rattle.listing_lines.proofs.lines.put_cells.Given as goal

abbrev pub invariant-loop-size : goal.invariant-loop-size
invariant-loop-size l = Walked cell_line cell_in_of l.initial.out l.at l.report l.out l.o l.i l.size

abbrev pub decreases-loop-size : goal.decreases-loop-size
decreases-loop-size l = length l.report - l.i
