use Prim.Native.Nat.{◌+◌, ◌*◌, ◌≤◌}
use mathlib.Core.Path.{◌≡◌}
use lib.ListN.{length}
use Rattle.base_bytes.specs.Bytes.{over}
use Rattle.report.specs.Written.{cells_bytes}
use Rattle.vm_memory.specs.View.{memory_of}
use Rattle.vm_results.specs.Ended.{cells_from}
use Rattle.vm_results.proofs.cells.put_cells.Given as goal

abbrev pub invariant-loop-i : goal.invariant-loop-i
invariant-loop-i l =
    (l.o ≤ l.at + 70 * l.i)
    × (length l.report ≡ length l.initial.report)
    × (l.o ≡ l.at + length (cells_bytes (cells_from (memory_of l.work) l.i 0)))
    × (l.report ≡ over l.at (cells_bytes (cells_from (memory_of l.work) l.i 0)) l.initial.report)
