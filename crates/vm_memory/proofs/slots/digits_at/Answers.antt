use native.Mathlib.Omega.{arith}
use Rattle.vm_memory.proofs.Stored.{digits_loaded}
use Rattle.vm_memory.proofs.slots.digits_at.Goals as goal

pub returns : goal.returns
returns c = digits_loaded c.args.work.now _ _ _ _ c.requires.0 c.requires.1 c.slot_held.ensures (omega (arith, c.from.ensures))
