-- `check_core::watches::check_pointcut` meets its contract.
use native.Mathlib.Omega.{arith}
use Rattle.std.specs.Prelude.{[], ◌∷◌, ◌≡◌}
use mathlib.Core.Path.{◌∙◌}
use Rattle.laws.specs.Tests.{all}
use Rattle.check_rules.proofs.OnDescriptors.{pointcut_right}
use Rattle.check_core.proofs.watches.check_pointcut.Goals as goal
use Rattle.check_core.proofs.watches.check_pointcut.Goals.{then-is_kind, else-is_kind}

pub returns : goal.returns
unfolding all
returns c =
    λ p.
    let e : c.if-is_kind.judge ≡ all (c.is_kind.result ∷ c.labels_fit-fit.result ∷ []) = elim c.if-is_kind.branch [ then-is_kind w ↦ grind arith | else-is_kind w ↦ grind arith ] in
    c.judge.ensures ∙ simp (e, c.is_kind.ensures, c.labels_fit-fit.ensures, c.labels_above-above.ensures, c.first_type.ensures, c.second_domain.ensures, c.own_descriptor-own.ensures) (pointcut_right c.requires.0 c.requires.3 c.requires.1 c.requires.2 c.args.at p)
