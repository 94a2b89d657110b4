use Prim.Native.Nat.{◌+◌, ◌*◌, ◌≤◌}
use mathlib.Core.Path.{◌≡◌}
use lib.ListN.{length}
use Rattle.base_bytes.specs.Bytes.{over}
use Rattle.report.specs.Written.{leaves_bytes, leaves_in}
use Rattle.report.proofs.leaves.put_leaves.Given as goal

abbrev pub invariant-loop-slot : goal.invariant-loop-slot
invariant-loop-slot l =
    (l.o ≤ l.at + 8 * l.slot-index)
    × (length l.report ≡ length l.initial.report)
    × (l.o ≡ l.at + length (leaves_bytes (leaves_in l.slot-index l.slot-items)))
    × (l.report ≡ over l.at (leaves_bytes (leaves_in l.slot-index l.slot-items)) l.initial.report)
