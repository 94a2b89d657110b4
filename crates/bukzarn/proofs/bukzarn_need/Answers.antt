-- The forecast's number and place, as one number, and the lent places as `put_forecast` leaves them.
use mathlib.Core.Path.{ap, ◌∙◌}
use lib.ListN.{length}
use Rattle.answers_as_numbers.specs.Numbers.{refused_as_number}
use Rattle.bukzarn.specs.Numbers.{need_as_number}
use Rattle.bukzarn.proofs.bukzarn_need.Goals as goal

pub returns : goal.returns
returns c =
    let places = length c.args.numbers.now in
    let e = c.forecast_image-f.ensures in (
      c.refused_as_number.ensures
          ∙ ((λ i. refused_as_number (c.need_number.ensures i) (c.forecast_place.ensures i)) ∙ ap (λ f. need_as_number f places) e),
      rw (← e) c.put_forecast.ensures,
    )
