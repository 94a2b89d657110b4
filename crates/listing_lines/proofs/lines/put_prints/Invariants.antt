-- One record after another.
use Prim.Native.Nat.{◌-◌}
use lib.ListN.{length}
use Rattle.report.specs.Read.{print_in}
use Rattle.listing_lines.specs.Lines.{print_line}
use Rattle.listing_lines.proofs.Walk.{Walked}
use Rattle.listing_lines.proofs.lines.put_prints.Given as goal

abbrev pub invariant-loop-size : goal.invariant-loop-size
invariant-loop-size l = Walked print_line print_in l.initial.out l.at l.log l.out l.o l.i l.size

abbrev pub decreases-loop-size : goal.decreases-loop-size
decreases-loop-size l = length l.log - l.i
