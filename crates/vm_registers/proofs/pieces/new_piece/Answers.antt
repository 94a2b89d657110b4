use Rattle.vm_registers.proofs.OnePiece.{piece_made}
use Rattle.vm_registers.proofs.pieces.new_piece.Goals as goal

pub returns-then-has_capacity : goal.returns-then-has_capacity
returns-then-has_capacity c =
    let a = c.args in
    piece_made a.work.now _ _ a.r _ a.w a.tag a.a a.b _ _ c.quota_of-h.ensures c.has_capacity.ensures c.requires.2 _ _ _ c.if-has_capacity.true c.whole-n.ensures c.value.ensures c.charge_pieces-q.ensures c.put_piece.ensures c.given-q.ensures
