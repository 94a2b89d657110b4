-- `read_terms::entries::match_child` meets its contract.
use native.Mathlib.Omega.{arith}
use mathlib.Core.Path.{◌∙◌}
use Rattle.read_terms.proofs.Matches.{children_all, first_child_lem, later_child}
use Rattle.read_terms.proofs.entries.match_child.Goals as goal

pub returns-then-j-lt3 : goal.returns-then-j-lt3
returns-then-j-lt3 c = let a = c.args in c.field.ensures ∙ first_child_lem a.fields.now a.j c.if-j-lt3.true

pub entry_term_at-requires : goal.entry_term_at-requires
entry_term_at-requires c =
    let n = children_all c.args.fields.now in
    let h = c.requires.1 in
    let l = c.if-j-lt3.false in
    omega arith

pub returns : goal.returns
returns c = let a = c.args in c.entry_term_at.ensures ∙ later_child a.fields.now a.j (omega (arith, c.if-j-lt3.false))
