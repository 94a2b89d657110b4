use mathlib.Core.Path.{refl}
use Rattle.vm_memory.proofs.Stored.{put_as}
use Rattle.vm_memory.proofs.slots.put_advice.Goals as goal

pub returns : goal.returns
returns c = put_as _ _ _ _ _ _ refl c.slot_word.ensures c.put_slot.ensures
