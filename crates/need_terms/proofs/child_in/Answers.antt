use Rattle.need_terms.proofs.child_in.Goals as goal

pub child_of-requires : goal.child_of-requires
child_of-requires c =
    let P = c.requires.0 in
    (P.kind_of_term, (P.number, c.lead_of.ensures P.kind_of_term P.number, P.child c.args.j c.requires.1))
