-- The loop keeps: the truths done, and those of what is left of the rows.
use mathlib.Core.Path.{◌≡◌}
use mathlib.Core.List.{◌++◌}
use lib.ListN.{length, take, drop}
use Rattle.image.specs.Limits.{domain_limit}
use Rattle.check_shape.specs.Faults.{either_row}
use Rattle.check_shape.proofs.order.either_row.Given as goal

abbrev pub invariant-loop-f : goal.invariant-loop-f
invariant-loop-f l = (length l.row ≡ domain_limit) × (take l.f l.row ++ either_row (drop l.f l.a) (drop l.f l.b) ≡ either_row l.a l.b)
