-- The space, then the number.
use Rattle.listing_lines.proofs.Puts.{then}
use Rattle.listing_lines.proofs.leaves.put_number.Goals as goal

pub returns : goal.returns
returns c =
    then c.put-o.ensures c.put_signed.ensures
