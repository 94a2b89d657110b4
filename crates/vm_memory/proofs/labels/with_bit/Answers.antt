use Rattle.vm_memory.proofs.Found.{bit_in}
use Rattle.vm_memory.proofs.labels.with_bit.Goals as goal

pub returns : goal.returns
returns c = bit_in c.args.s c.args.l c.requires
