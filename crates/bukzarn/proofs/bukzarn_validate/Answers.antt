-- The verdict's number and place, as one number.
use mathlib.Core.Path.{ap, ◌∙◌}
use Rattle.answers_as_numbers.specs.Numbers.{refused_as_number}
use Rattle.bukzarn.specs.Numbers.{verdict_as_number}
use Rattle.bukzarn.proofs.bukzarn_validate.Goals as goal

pub returns : goal.returns
returns c =
    c.refused_as_number.ensures
    ∙ ((λ i. refused_as_number (c.verdict_number.ensures i) (c.verdict_place.ensures i)) ∙ ap verdict_as_number c.validate-v.ensures)
