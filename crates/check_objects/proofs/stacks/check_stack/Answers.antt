-- `check_objects::stacks::check_stack` meets its contract.
use Rattle.check_rules.proofs.OnDescriptors.{stack_right}
use mathlib.Core.Path.{◌∙◌}
use Rattle.check_objects.proofs.stacks.check_stack.Goals as goal

pub returns : goal.returns
returns c =
    λ p. c.judge.ensures ∙ simp (c.is_kind.ensures, c.own_descriptor.ensures) (stack_right c.requires.0 c.requires.1 c.args.at p)
