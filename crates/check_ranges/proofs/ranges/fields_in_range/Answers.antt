-- `check_ranges::ranges::fields_in_range` meets its contract: so far each field is in range, and what is left decides.
use Prim.Native.Nat.{◌+◌, ◌-◌}
use mathlib.Core.Path.{◌≡◌, sym, ◌∙◌}
use native.Mathlib.Omega.{arith}
use Rattle.check_ranges.specs.Ranges.{ranges_from}
use Rattle.check_ranges.proofs.RangeLoops.{range_next, range_stop}
use Rattle.check_ranges.proofs.Numbers.{yes_of, no_of}
use borrow.Author.Rules.{rules}
use Rattle.check_ranges.proofs.ranges.fields_in_range.Goals as goal

pub loop-i-init : goal.loop-i-init
loop-i-init c =
    let a = c.args in
    let e : a.from + a.count - a.from ≡ a.count = omega arith in
    rw e

pub returns-then-not-in_class : goal.returns-then-not-in_class
returns-then-not-in_class c =
    let a = c.args in
    sym (c.loop-i.invariant ∙ range_stop a.fields.now a.counts _ c.loop-i.i c.loop-i.rest (search rules) (no_of _ _ c.in_class.ensures c.if-not-in_class.true))

pub loop-i-preserved : goal.loop-i-preserved
loop-i-preserved c =
    let a = c.args in
    c.loop-i.invariant ∙ range_next a.fields.now a.counts _ c.loop-i.i c.loop-i.rest (search rules) (yes_of _ _ c.in_class.ensures c.if-not-in_class.false)

pub returns : goal.returns
unfolding ranges_from
returns c =
    let a = c.args in
    let e : a.from + a.count - c.loop-i.i ≡ 0 = search rules in
    sym (c.loop-i.invariant ∙ rw e)
