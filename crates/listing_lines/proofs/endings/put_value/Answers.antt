-- The word, the leaves, the end of the line.
use Rattle.listing_lines.proofs.Puts.{then}
use Rattle.listing_lines.proofs.endings.put_value.Goals as goal

pub returns : goal.returns
returns c =
    then (then c.put-o.ensures c.put_leaves-o.ensures) c.put.ensures
