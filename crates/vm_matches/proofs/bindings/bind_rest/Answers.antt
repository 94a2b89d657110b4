use Rattle.vm_matches.proofs.Binding.{rest_bound_lem, rest_free, rest_frames}
use borrow.Author.Rules.{rules}
use Rattle.vm_matches.proofs.bindings.bind_rest.Goals as goal

pub bind_inside-requires : goal.bind_inside-requires
bind_inside-requires c =
    let a = c.args in
    let p = c.requires.2 in
    (search rules, rest_frames p.0 a.w _ (c.binds_rest.ensures p.0 p.1) a.b.count c.if-binds_rest.true p.2, c.requires.1)

pub returns-then-binds_rest : goal.returns-then-binds_rest
returns-then-binds_rest c =
    let a = c.args in
    ((λ C e. rest_bound_lem C a.w _ (c.binds_rest.ensures C e) a.v a.work.now _ a.b _ c.if-binds_rest.true c.bind_inside.ensures.0), c.bind_inside.ensures.1)

pub returns : goal.returns
returns c =
    let a = c.args in
    ((λ C e. rest_free C a.w _ (c.binds_rest.ensures C e) a.v a.work.now a.b c.if-binds_rest.false), c.requires.1)
