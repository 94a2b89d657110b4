use mathlib.Core.Path.{refl}
use Rattle.vm_memory.proofs.Stored.{put_as}
use Rattle.vm_memory.proofs.slots.put_waiting.Goals as goal

pub returns : goal.returns
returns c = put_as _ _ _ _ _ _ refl c.above.ensures c.put_slot.ensures
