-- Bytes and number of the answer, as one number, and the output as the call leaves it.
use mathlib.Core.Path.{ap, ◌∙◌}
use Rattle.answers_as_numbers.specs.Numbers.{as_number}
use Rattle.bukzarn.specs.Numbers.{load_as_number}
use Rattle.bukzarn.proofs.bukzarn_load.Goals as goal

pub returns : goal.returns
returns c =
    let e = c.generate-a.ensures in
    (c.as_number.ensures ∙ ((λ i. as_number (c.load_bytes.ensures i) (c.load_number.ensures i) 0) ∙ ap (λ L. load_as_number L.answer) e), ap (λ L. L.output) e)
