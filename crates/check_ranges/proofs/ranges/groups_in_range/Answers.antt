-- `check_ranges::ranges::groups_in_range` meets its contract: so far each group is in range, and what is left decides.
use Prim.Native.Nat.{◌+◌, ◌-◌, ◌*◌}
use mathlib.Core.Path.{◌≡◌, sym, ◌∙◌}
use native.Mathlib.Omega.{arith}
use Rattle.check_ranges.specs.Ranges.{groups_from}
use Rattle.check_ranges.proofs.RangeLoops.{group_next, group_stop, times_inside}
use Rattle.check_ranges.proofs.Numbers.{yes_of, no_of}
use borrow.Author.Rules.{rules}
use Rattle.check_ranges.proofs.ranges.groups_in_range.Goals as goal

pub loop-k-init : goal.loop-k-init
loop-k-init c =
    let a = c.args in
    let e : a.times - 0 ≡ a.times = omega arith in
    let f : a.from + 0 * a.group ≡ a.from = omega arith in
    rw (e, f)

pub overflow_mul-k : goal.overflow_mul-k
overflow_mul-k c =
    let m = times_inside c.args.times c.loop-k.k c.args.group c.loop-k-test.true in
    let h = c.requires.1 in
    search rules

pub overflow_add-from : goal.overflow_add-from
overflow_add-from c =
    let m = times_inside c.args.times c.loop-k.k c.args.group c.loop-k-test.true in
    let h = c.requires.1 in
    search rules

pub few_in_range-requires : goal.few_in_range-requires
few_in_range-requires c =
    let m = times_inside c.args.times c.loop-k.k c.args.group c.loop-k-test.true in
    let h = c.requires.1 in
    (c.requires.0, omega arith)

pub returns-then-not-few_in_range : goal.returns-then-not-few_in_range
returns-then-not-few_in_range c =
    let a = c.args in
    sym (c.loop-k.invariant ∙ group_stop a.fields.now a.counts a.group a.classes a.times c.loop-k.k (a.from + c.loop-k.k * a.group) c.loop-k-test.true (no_of _ _ c.few_in_range.ensures c.if-not-few_in_range.true))

pub loop-k-preserved : goal.loop-k-preserved
loop-k-preserved c =
    let a = c.args in
    c.loop-k.invariant ∙ group_next a.fields.now a.counts a.group a.classes a.times c.loop-k.k a.from c.loop-k-test.true (yes_of _ _ c.few_in_range.ensures c.if-not-few_in_range.false)

pub returns : goal.returns
unfolding groups_from
returns c =
    let e : c.args.times - c.loop-k.k ≡ 0 = search rules in
    sym (c.loop-k.invariant ∙ rw e)
