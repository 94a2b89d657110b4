-- `check_rules::leaf::check_variable` meets its contract.
use mathlib.Core.Path.{◌∙◌}
use Rattle.check_rules.proofs.Verdict.{variable_unbound, variable_bound}
use Rattle.check_rules.proofs.leaf.check_variable.Goals as goal

pub returns-then-len-k : goal.returns-then-len-k
returns-then-len-k c =
    λ d.
    let e = c.from-k.ensures ∙ c.other_field.ensures in
    variable_unbound c.args.image.now c.args.fields.now c.args.scope.now c.args.len d c.args.at (rw (← e) c.if-len-k.true)

pub returns : goal.returns
returns c =
    λ d.
    let e = c.from-k.ensures ∙ c.other_field.ensures in
    c.judge.ensures ∙ simp (c.same_type.ensures, c.scope_type-a.ensures, c.own_type.ensures, e) (variable_bound c.args.image.now c.args.fields.now c.args.scope.now c.args.len d c.args.at (rw (← e) c.if-len-k.false))
