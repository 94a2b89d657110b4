-- `check_layout::scan_with`: a walk at an offset, and the records before it in the tables. What is left of the image falls.
use Rattle.std.proofs.Common.{◌≡◌, ◌-◌, length}
use Rattle.check_layout.proofs.Stages.{Stage}
use Rattle.check_layout.proofs.scan_with.Given as goal

abbrev pub invariant-loop-head : goal.invariant-loop-head
invariant-loop-head l =
    (l.walk.image.now ≡ l.image) × Stage l.image l.walk.at l.counts l.doms l.types l.descriptors l.filter l.terms l.marks

abbrev pub decreases-loop-head : goal.decreases-loop-head
decreases-loop-head l = length l.image - l.walk.at
