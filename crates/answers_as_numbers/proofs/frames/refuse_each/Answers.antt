-- The refusal as a number, which is every call's.
use mathlib.Core.Path.{ap, ◌∙◌}
use lib.ListN.{length, replicate}
use Rattle.answers_as_numbers.specs.Numbers.{refused_as_number}
use Rattle.answers_as_numbers.proofs.frames.refuse_each.Goals as goal

pub returns : goal.returns
returns c =
    c.fill.ensures.after (λ y e. e)
    ∙ ap (replicate (length c.args.numbers.now)) (c.refused_as_number.ensures ∙ ap (λ m. refused_as_number m c.args.place) c.from.ensures)
