use Rattle.vm_memory.proofs.Stored.{match_stored}
use borrow.Author.Rules.{rules}
use Rattle.vm_memory.proofs.slots.put_match.Goals as goal

pub returns : goal.returns
returns c =
    match_stored _ _ _ _ _ _ _ (search rules) (search rules) c.put_slot.ensures c.put_beside.ensures
