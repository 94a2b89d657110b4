-- `read_terms::entries::match_child_count` meets its contract.
use borrow.Author.Rules.{rules}
use native.Mathlib.Omega.{arith}
use Rattle.read_terms.proofs.Matches.{children_few, children_all}
use Rattle.read_terms.proofs.entries.match_child_count.Goals as goal

pub overflow_add-result : goal.overflow_add-result
overflow_add-result c =
    let f = children_few c.args.fields.now in
    let e = c.entry_term_count.ensures in
    search rules

pub returns : goal.returns
returns c =
    let n = children_all c.args.fields.now in
    let e = c.entry_term_count.ensures in
    omega arith
