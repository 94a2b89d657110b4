use mathlib.Core.Path.{refl}
use Rattle.vm_memory.proofs.Stored.{put_as}
use Rattle.vm_memory.proofs.kept.put_kept.Goals as goal

pub returns : goal.returns
returns c = put_as _ _ _ _ _ _ refl c.above.ensures c.put_word.ensures
