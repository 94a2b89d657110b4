-- `check_ranges::ranges::children_in_range` meets its contract: so far each child is in range, and what is left decides.
use Prim.Native.Nat.{◌-◌, ◌/◌}
use mathlib.Core.Path.{◌≡◌, refl, sym, ◌∙◌}
use lib.ListN.{length}
use Rattle.check_ranges.specs.Ranges.{groups_from}
use Rattle.check_ranges.proofs.RangeLoops.{child_next, child_stop}
use Rattle.check_ranges.proofs.Numbers.{yes_of, no_of}
use borrow.Author.Rules.{rules}
use Rattle.check_ranges.proofs.ranges.children_in_range.Goals as goal

pub returns-then-not-names : goal.returns-then-not-names
returns-then-not-names c =
    let a = c.args in
    sym (c.loop-i.invariant ∙ child_stop a.fields.now a.counts _ c.loop-i.i (search rules) (no_of _ _ c.names.ensures c.if-not-names.true))

pub loop-i-preserved : goal.loop-i-preserved
loop-i-preserved c =
    let a = c.args in
    c.loop-i.invariant ∙ child_next a.fields.now a.counts _ c.loop-i.i (search rules) (yes_of _ _ c.names.ensures c.if-not-names.false)

pub returns : goal.returns
unfolding groups_from
returns c =
    let e : length c.args.fields.now / 2 - c.loop-i.i ≡ 0 = search rules in
    sym (c.loop-i.invariant ∙ rw e)

pub loop-i-init : goal.loop-i-init
loop-i-init c = refl
