-- `write_unit_bodies::copy_with_unit_bodies` meets its contract.
use Rattle.image.specs.Layout.{records_of}
use Rattle.write_masks.specs.Masks.{in_mask}
use Rattle.write_unit_bodies.specs.UnitBodies.{UnitBodies}
use Rattle.write_unit_bodies.proofs.copy_with_unit_bodies.Given as goal

abbrev pub invariant-loop-i : goal.invariant-loop-i
invariant-loop-i l = UnitBodies (records_of l.image) (in_mask l.high) l.i l.image l.copy
