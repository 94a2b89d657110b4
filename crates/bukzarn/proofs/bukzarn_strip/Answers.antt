-- Bytes, number and place of the answer, as one number, and the output as the call leaves it.
use mathlib.Core.Path.{ap, ◌∙◌}
use Rattle.answers_as_numbers.specs.Numbers.{as_number}
use Rattle.bukzarn.specs.Numbers.{stripped_as_number}
use Rattle.bukzarn.proofs.bukzarn_strip.Goals as goal

pub returns : goal.returns
returns c =
    let e = c.write_stripped-s.ensures in (
      c.as_number.ensures
          ∙ ((λ i. as_number (c.stripped_bytes.ensures i) (c.stripped_number.ensures i) (c.stripped_place.ensures i)) ∙ ap (λ L. stripped_as_number L.answer) e),
      ap (λ L. L.out) e,
    )
