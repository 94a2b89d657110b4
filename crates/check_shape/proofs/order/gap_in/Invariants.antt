-- The loop keeps: some f so far.
use mathlib.Core.Bool.{false, not, ◌&&◌}
use mathlib.Core.Path.{◌≡◌}
use lib.ListN.{get_or}
use Rattle.laws.specs.Tests.{any_below}
use Rattle.check_shape.proofs.order.gap_in.Given as goal

abbrev pub invariant-loop-f : goal.invariant-loop-f
invariant-loop-f l = (l.found ≡ any_below l.f (λ k. get_or l.b k false && not (get_or l.a k false)))
