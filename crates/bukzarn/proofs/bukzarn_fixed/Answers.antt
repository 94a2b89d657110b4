-- Bytes, number and place of the answer, as one number, and the output as the call leaves it.
use mathlib.Core.Path.{ap, ◌∙◌}
use Rattle.answers_as_numbers.specs.Numbers.{as_number}
use Rattle.bukzarn.specs.Numbers.{written_as_number}
use Rattle.bukzarn.proofs.bukzarn_fixed.Goals as goal

pub returns : goal.returns
returns c =
    let e = c.write_fixed-w.ensures in (
      c.as_number.ensures
          ∙ ((λ i. as_number (c.written_bytes.ensures i) (c.written_number.ensures i) (c.written_place.ensures i)) ∙ ap (λ L. written_as_number L.answer) e),
      ap (λ L. L.out) e,
    )
