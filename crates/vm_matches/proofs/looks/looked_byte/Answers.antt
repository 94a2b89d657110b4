use Rattle.vm_matches.proofs.Looking.{byte_fits, byte_fits_not}
use borrow.Author.Rules.{rules}
use Rattle.vm_matches.proofs.looks.looked_byte.Goals as goal

pub returns-then-k : goal.returns-then-k
returns-then-k c = (byte_fits _ c.args.k.rest _ c.if-k.true, search rules)

pub returns-else-k : goal.returns-else-k
returns-else-k c = (byte_fits_not _ c.args.k.rest _ c.if-k.false, search rules)
