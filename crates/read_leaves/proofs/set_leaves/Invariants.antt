-- `read_leaves::set_leaves` meets its contract.
use mathlib.Core.Path.{◌≡◌}
use Prim.Native.Nat.{ℕ, ◌<◌}
use lib.ListN.{length, get_or, drop}
use Rattle.image.specs.Layout.{records_of}
use Rattle.image.specs.Types.{type_of}
use Rattle.read_records.specs.Leaves.{plain_leaves}
use Rattle.read_leaves.proofs.set_leaves.Given as goal

abbrev pub invariant-loop-i : goal.invariant-loop-i
invariant-loop-i l = (length l.table ≡ length l.initial.table) × ((u : ℕ) → u < l.i → get_or l.table u 0 ≡ plain_leaves (type_of (records_of l.image) u)) × (drop l.count l.table ≡ drop l.count l.initial.table)
