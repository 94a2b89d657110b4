use Rattle.vm_memory.proofs.Stored.{return_stored}
use Rattle.vm_memory.proofs.slots.put_return.Goals as goal

pub returns : goal.returns
returns c =
    return_stored _ _ _ _ _ _ _ _ _ c.slot_at.ensures c.slot_held-held.ensures c.slot_word.ensures c.put_slot.ensures
