-- `check_core::watches::check_takedown` meets its contract.
use Rattle.check_rules.proofs.OnDescriptors.{takedown_right}
use mathlib.Core.Path.{◌∙◌}
use Rattle.check_core.proofs.watches.check_takedown.Goals as goal

pub returns : goal.returns
returns c =
    λ Γ. c.judge.ensures ∙ simp (c.leq.ensures, c.is_kind.ensures, c.other_field.ensures, c.own_descriptor-own.ensures) (takedown_right c.requires.0 c.requires.1 c.args.at (record { context = Γ; dom = c.args.c.0 }) c.requires.3)
