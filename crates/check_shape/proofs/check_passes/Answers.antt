-- The first refusal stands.
use mathlib.Core.Path.{ap, sym, ◌∙◌}
use Rattle.std.proofs.Common.{◌≡◌, rules, is_err}
use Rattle.verdict.proofs.Answered.{turn_stops, turn_goes}
use Rattle.check_shape.proofs.check_passes.Goals as goal

pub returns-in_err-check_order : goal.returns-in_err-check_order
returns-in_err-check_order c =
    let o = c.check_order.ensures in
    let r : c.from_residual.result ≡ c.check_order.result = search rules in
    r ∙ o ∙ sym (turn_stops _ _ (ap is_err (sym o ∙ c.in_err-check_order.was)))

pub returns : goal.returns
returns c =
    let o = c.check_order.ensures in
    let go = turn_goes _ _ (ap is_err (sym o ∙ c.in_ok-check_order.was)) in
    c.check_terms.ensures ∙ sym go
