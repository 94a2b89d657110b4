use Rattle.vm_memory.proofs.Stored.{and_word}
use Rattle.vm_memory.proofs.pieces.put_piece.Goals as goal

pub returns : goal.returns
returns c =
    and_word _ _ _ _ _ _ c.put_word.ensures c.put_word-2.ensures
