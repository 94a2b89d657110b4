use Rattle.vm_reductions.proofs.Reduced.{cell_made}
use Rattle.vm_reductions.proofs.stores.reduce_cell.Goals as goal

pub returns-then-has_capacity : goal.returns-then-has_capacity
returns-then-has_capacity c =
    let a = c.args in
    cell_made a.work.now _ _ a.r _ a.w a.x _ _ c.quota_of-h.ensures c.has_capacity.ensures c.requires.1 _ _ _ _ c.if-has_capacity.true c.whole-n.ensures c.value.ensures c.field_b.ensures c.charge_cells-q.ensures c.put_cell.ensures c.given-q.ensures
