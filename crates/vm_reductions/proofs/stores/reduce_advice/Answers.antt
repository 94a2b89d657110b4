use Rattle.vm_reductions.proofs.Reduced.{advice_made}
use Rattle.vm_reductions.proofs.stores.reduce_advice.Goals as goal

pub returns : goal.returns
returns c =
    let a = c.args in
    advice_made a.work.now _ a.r _ a.w a.x _ _ _ _ _ c.field_b.ensures c.advice_domain-dom.ensures c.piece_of.ensures c.advice_word-a.ensures c.piece_second-b.ensures c.new_piece.ensures
