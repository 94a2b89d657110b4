use lib.ListN.{take}
use Rattle.listing_lines.specs.Puts.{Puts}
use Rattle.listing_lines.proofs.text.put.Given as goal

abbrev pub invariant-loop-b : goal.invariant-loop-b
invariant-loop-b l = Puts l.initial.out l.at (take l.b-index l.text) l.out l.o
