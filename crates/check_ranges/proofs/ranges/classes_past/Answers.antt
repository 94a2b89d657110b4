-- `check_ranges::ranges::classes_past` meets its contract: what is left of the classes is that of all of them.
use Prim.Native.Nat.{◌-◌}
use mathlib.Core.Path.{◌≡◌, sym, ◌∙◌}
use native.Mathlib.Omega.{arith}
use Rattle.check_ranges.specs.Ranges.{classes_past}
use Rattle.check_ranges.proofs.RangeLoops.{past_next}
use borrow.Author.Rules.{rules}
use Rattle.check_ranges.proofs.ranges.classes_past.Goals as goal

pub loop-preserved : goal.loop-preserved
loop-preserved c = c.loop.invariant ∙ past_next _ c.loop.counter c.loop.rest (search rules)

pub returns : goal.returns
unfolding classes_past
returns c =
    let e : c.args.n - c.loop.counter ≡ 0 = search rules in
    sym (c.loop.invariant ∙ rw e)

pub loop-init : goal.loop-init
loop-init c = let e : c.args.n - 0 ≡ c.args.n = omega arith in rw e
