-- `check_ranges::faults::in_order` meets its contract, section by section.
use mathlib.Core.Path.{sym, ◌∙◌}
use mathlib.Core.Bool.{and-true}
use borrow.Author.Tests.{eq-eqb, ne_eqb}
use Rattle.laws.specs.Tests.{all}
use Rattle.check_ranges.proofs.faults.in_order.Goals as goal

pub returns-then-section_of-eq-TYPES : goal.returns-then-section_of-eq-TYPES
returns-then-section_of-eq-TYPES c = simp (sym c.is_term.ensures ∙ c.if-is_term.false, eq-eqb _ _ (sym c.section_of.ensures ∙ c.if-section_of-eq-TYPES.true))

pub returns-then-counts-eq0 : goal.returns-then-counts-eq0
unfolding all
returns-then-counts-eq0 c =
    simp (sym c.is_term.ensures ∙ c.if-is_term.false, ne_eqb _ _ (λ e. c.if-section_of-eq-TYPES.false (c.section_of.ensures ∙ e)), eq-eqb _ _ c.if-counts-eq0.true, and-true)

pub returns-else-counts-eq0 : goal.returns-else-counts-eq0
unfolding all
returns-else-counts-eq0 c = simp (sym c.is_term.ensures ∙ c.if-is_term.false, ne_eqb _ _ (λ e. c.if-section_of-eq-TYPES.false (c.section_of.ensures ∙ e)), ne_eqb _ _ c.if-counts-eq0.false)

pub returns-then-is_term : goal.returns-then-is_term
returns-then-is_term c = simp (sym c.is_term.ensures ∙ c.if-is_term.true)
