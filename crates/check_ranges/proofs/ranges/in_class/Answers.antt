-- `check_ranges::ranges::in_class` meets its contract, class by class.
use borrow.Author.Tests.{ne_eqb}
use Rattle.check_ranges.proofs.ranges.in_class.Goals as goal

pub returns-in_default : goal.returns-in_default
returns-in_default c = simp (ne_eqb _ _ c.in_default.in_default-own.rest.0.0.0.0.0.1, ne_eqb _ _ c.in_default.in_default-own.rest.0.0.0.0.1, ne_eqb _ _ c.in_default.in_default-own.rest.0.0.0.1, ne_eqb _ _ c.in_default.in_default-own.rest.0.0.1, ne_eqb _ _ c.in_default.in_default-own.rest.0.1, ne_eqb _ _ c.in_default.in_default-own.rest.1, c.names_entry.ensures)

pub returns-in-0 : goal.returns-in-0
returns-in-0 c = simp (c.in-0.is, c.names.ensures)

pub returns-in-1 : goal.returns-in-1
returns-in-1 c = simp (c.in-1.is, c.names-in-1.ensures)

pub returns-in-2 : goal.returns-in-2
returns-in-2 c = simp (c.in-2.is, c.below.ensures)

pub returns-in-3 : goal.returns-in-3
returns-in-3 c = simp (c.in-3.is, c.below-in-3.ensures)

pub returns-in-4 : goal.returns-in-4
returns-in-4 c = simp c.in-4.is

pub returns-in-5 : goal.returns-in-5
returns-in-5 c = simp (c.in-5.is, c.names-in-5.ensures)
