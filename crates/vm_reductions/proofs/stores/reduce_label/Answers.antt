use Rattle.vm_reductions.proofs.Reduced.{label_made}
use borrow.Author.Rules.{rules}
use Rattle.vm_reductions.proofs.stores.reduce_label.Goals as goal

pub returns-then-n-lt-LABEL_LIMIT : goal.returns-then-n-lt-LABEL_LIMIT
returns-then-n-lt-LABEL_LIMIT c =
    let a = c.args in
    label_made a.work.now _ a.r _ a.w (search rules) _ c.if-n-lt-LABEL_LIMIT.true c.value.ensures c.given-q.ensures
