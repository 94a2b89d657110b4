use native.Mathlib.Omega.{arith}
use Rattle.vm_memory.proofs.Stored.{put_as}
use Rattle.vm_memory.proofs.bindings.bind.Goals as goal

pub returns : goal.returns
returns c = put_as _ _ _ _ _ _ (omega arith) c.binding.ensures c.put_word.ensures
