use Rattle.vm_memory.proofs.Stored.{digits_stored}
use borrow.Author.Rules.{rules}
use Rattle.vm_memory.proofs.slots.put_digits.Goals as goal

pub returns : goal.returns
returns c =
    digits_stored _ _ _ _ _ _ _ _ _ (search rules) (search rules) c.slot_word.ensures c.put_slot.ensures c.put_beside.ensures
