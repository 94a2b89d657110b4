-- `write_records::put_numbers` meets its contract.
use mathlib.Core.Path.{◌≡◌}
use lib.ListN.{take}
use Rattle.base_bytes.specs.Bytes.{over}
use Rattle.image_written.specs.Records.{little}
use Rattle.write_records.proofs.put_numbers.Given as goal

abbrev pub invariant-loop-i : goal.invariant-loop-i
invariant-loop-i l = l.out ≡ over l.at (little (take l.i l.numbers)) l.initial.out
