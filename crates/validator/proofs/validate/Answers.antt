-- The answer of a call's check has the verdict.
use mathlib.Core.Path.{◌≡◌, sym, ap, ◌∙◌}
use Rattle.std.proofs.Common.{Err, rules}
use Rattle.validator_core.specs.Examined.{verdict_of}
use Rattle.validator.proofs.validate.Goals as goal

pub returns-in_err-check_call : goal.returns-in_err-check_call
returns-in_err-check_call c =
    let r : c.from_residual.result ≡ Err c.in_err-check_call.field-0.0 = search rules in
    r ∙ sym (ap verdict_of c.in_err-check_call.was) ∙ c.check_call.ensures.0.answer

pub returns : goal.returns
returns c = sym (ap verdict_of c.in_ok-check_call.was) ∙ c.check_call.ensures.0.answer
