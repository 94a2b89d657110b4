use Prim.Native.Nat.{min}
use mathlib.Core.Path.{◌≡◌}
use Rattle.image.specs.Layout.{records_of}
use Rattle.need_terms.proofs.Lowest.{least_to}
use Rattle.need_terms.proofs.class.+lowest_fault.Given as goal

abbrev pub decreases-lowest_fault : goal.decreases-lowest_fault
decreases-lowest_fault l = l.n.0

-- The term itself, if it is at fault, and the children before child j.
abbrev pub invariant-loop-j : goal.invariant-loop-j
invariant-loop-j l = l.least.0 ≡ min l.initial.least.0 (least_to (records_of l.image) l.outside l.fn.n.0 l.j)
