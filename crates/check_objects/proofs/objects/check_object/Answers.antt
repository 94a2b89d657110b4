-- `check_objects::objects::check_object` meets its contract.
use mathlib.Core.Path.{ap, ◌∙◌}
use mathlib.Core.Bool.{true}
use Rattle.check_rules.specs.Judged.{judged}
use Rattle.check_objects.proofs.objects.check_object.Goals as goal

pub returns : goal.returns
returns c =
    λ p. c.judge.ensures ∙ ap (λ t. judged c.args.at (record { bound = true; typed = t; allowed = true })) (c.object_fits.ensures p)
