-- `check_core::watches::check_new_label` meets its contract.
use Rattle.check_rules.proofs.OnDescriptors.{new_label_right}
use mathlib.Core.Path.{◌∙◌}
use Rattle.check_core.proofs.watches.check_new_label.Goals as goal

pub returns : goal.returns
returns c =
    λ Γ. c.judge.ensures ∙ simp (c.leq.ensures, c.second_domain.ensures, c.is_kind.ensures, c.own_descriptor-own.ensures) (new_label_right c.requires.0 c.requires.1 c.args.at (record { context = Γ; dom = c.args.c.0 }) c.requires.2)
