-- `write_types::enter_type` meets its contract.
use mathlib.Core.Path.{◌≡◌}
use Rattle.image_written.specs.Table.{entered}
use Rattle.write_types.specs.Entries.{Entries, entries_of}
use Rattle.write_types.proofs.Located.{front_of}
use Rattle.write_types.proofs.+enter_type.Given as goal

abbrev pub decreases-enter_type : goal.decreases-enter_type
decreases-enter_type l = l.t.0

abbrev pub invariant-loop-i : goal.invariant-loop-i
invariant-loop-i l = Entries l.image l.m l.places l.order × (entries_of l.image l.m l.order ≡ entered (entries_of l.image l.n l.initial.order) (front_of l.image l.t.0 l.i))
