use Rattle.vm_reductions.proofs.Reduced.{store_made}
use borrow.Author.Rules.{rules}
use Rattle.vm_reductions.proofs.stores.reduce_store.Goals as goal

pub returns : goal.returns
returns c =
    let a = c.args in
    store_made a.work.now _ _ a.r _ a.w a.x a.y _ (search rules) c.cell_of.ensures c.store_cell.ensures c.given.ensures
