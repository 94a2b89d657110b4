use native.Mathlib.Omega.{arith}
use Rattle.vm_memory.proofs.Stored.{byte_loaded}
use Rattle.vm_memory.proofs.slots.byte_beside.Goals as goal

pub returns : goal.returns
returns c = (byte_loaded c.args.work.now _ _ c.requires.0 c.requires.1 c.from.ensures, omega arith)
