-- `check_ranges::faults::first_fault` meets its contract: each answer is the first test that fails.
use lib.ListN.{length}
use Rattle.check_ranges.proofs.Numbers.{fits_held, yes_of, no_of, fault4, fault5, fault6, fault7, no_fault}
use Rattle.check_ranges.proofs.faults.first_fault.Goals as goal

pub returns-then-not-in_order : goal.returns-then-not-in_order
returns-then-not-in_order c =
    fault5 _ _ _ _ (yes_of _ _ c.right_length.ensures c.if-not-right_length.false) (no_of _ _ c.in_order.ensures c.if-not-in_order.true)

pub returns-then-not-has_capacity : goal.returns-then-not-has_capacity
returns-then-not-has_capacity c =
    fault6 _ _ _ _ (yes_of _ _ c.right_length.ensures c.if-not-right_length.false) (yes_of _ _ c.in_order.ensures c.if-not-in_order.false) (no_of _ _ c.has_capacity.ensures c.if-not-has_capacity.true)

pub in_range-requires : goal.in_range-requires
in_range-requires c =
    (c.requires.1, fits_held c.args.code (length c.args.fields.now) (yes_of _ _ c.right_length.ensures c.if-not-right_length.false))

pub returns-then-not-in_range : goal.returns-then-not-in_range
returns-then-not-in_range c =
    fault7 _ _ _ _ (yes_of _ _ c.right_length.ensures c.if-not-right_length.false) (yes_of _ _ c.in_order.ensures c.if-not-in_order.false) (yes_of _ _ c.has_capacity.ensures c.if-not-has_capacity.false) (no_of _ _ c.in_range.ensures c.if-not-in_range.true)

pub returns : goal.returns
returns c =
    no_fault _ _ _ _ (yes_of _ _ c.right_length.ensures c.if-not-right_length.false) (yes_of _ _ c.in_order.ensures c.if-not-in_order.false) (yes_of _ _ c.has_capacity.ensures c.if-not-has_capacity.false) (yes_of _ _ c.in_range.ensures c.if-not-in_range.false)

pub returns-then-not-right_length : goal.returns-then-not-right_length
returns-then-not-right_length c = fault4 _ _ _ _ (no_of _ _ c.right_length.ensures c.if-not-right_length.true)
