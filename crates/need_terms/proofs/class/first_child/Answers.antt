use native.Mathlib.Omega.{arith}
use Rattle.need_terms.proofs.class.first_child.Goals as goal

pub child_in-requires : goal.child_in-requires
child_in-requires c =
    let P = c.requires in
    let n = c.child_count.ensures P.kind_of_term P.number in
    let some = c.if-child_count-eq0.false in
    (P, omega arith)
