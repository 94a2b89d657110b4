-- `check_rules::leaf::check_constant` meets its contract.
use mathlib.Core.Path.{◌∙◌}
use native.Mathlib.Omega.{arith}
use Prim.Native.Nat.{◌<◌}
use Rattle.image.specs.Kinds.{term_row}
use Rattle.check_rules.proofs.OnDescriptors.{constant_right}
use Rattle.check_rules.proofs.leaf.check_constant.Goals as goal

pub returns : goal.returns
returns c =
    λ k e p.
    let l : (term_row k).number < 35 = omega arith in
    c.judge.ensures ∙ simp (c.is_kind.ensures, c.own_descriptor-own.ensures, e) (constant_right c.requires.0 c.requires.1 c.args.at p k l)
