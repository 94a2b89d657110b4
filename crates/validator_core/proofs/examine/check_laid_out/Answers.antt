-- `validator_core::examine::check_laid_out` meets its contract: the shape refuses, or the typing decides.
use mathlib.Core.Path.{ap, ◌∙◌}
use Rattle.std.proofs.Common.{◌≡◌, is_err, rules}
use Rattle.validator_core.proofs.Passes.{shape_refuses, typing_decides, shaped}
use Rattle.validator_core.proofs.examine.check_laid_out.Goals as goal

pub returns-in_err-check_shape : goal.returns-in_err-check_shape
returns-in_err-check_shape c =
    let r : c.from_residual.result ≡ c.check_shape.result = search rules in
    r ∙ shape_refuses _ _ c.check_shape.ensures (ap is_err c.in_err-check_shape.was)

pub check_typing-requires : goal.check_typing-requires
check_typing-requires c =
    let p = c.requires in
    (p.1, p.2, shaped _ _ c.check_shape.ensures (ap is_err c.in_ok-check_shape.was), p.3)

pub returns : goal.returns
returns c = typing_decides _ _ _ c.check_shape.ensures (ap is_err c.in_ok-check_shape.was) c.check_typing.ensures
