use Rattle.vm_reductions.proofs.Reduced.{parts_made}
use Rattle.vm_reductions.proofs.calls.bind_parts.Goals as goal

pub returns : goal.returns
returns c =
    parts_made _ _ _ _ _ _ _ _ c.piece_first-a.ensures c.piece_second-b.ensures c.bind.ensures c.bind-2.ensures
