-- `check_ranges::faults::has_capacity` meets its contract, section by section.
use mathlib.Core.Path.{sym, ◌∙◌}
use borrow.Author.Tests.{eq-eqb, ne_eqb}
use Rattle.check_ranges.proofs.faults.has_capacity.Goals as goal

pub returns-then-section_of-eq-TYPES : goal.returns-then-section_of-eq-TYPES
returns-then-section_of-eq-TYPES c = simp (sym c.is_term.ensures ∙ c.if-is_term.false, eq-eqb _ _ (sym c.section_of.ensures ∙ c.if-section_of-eq-TYPES.true))

pub returns : goal.returns
returns c = simp (sym c.is_term.ensures ∙ c.if-is_term.false, ne_eqb _ _ (λ e. c.if-section_of-eq-TYPES.false (c.section_of.ensures ∙ e)))

pub returns-then-is_term : goal.returns-then-is_term
returns-then-is_term c = simp (sym c.is_term.ensures ∙ c.if-is_term.true)
