-- The word, the domain, the leaves, the end of the line.
use Rattle.listing_lines.proofs.Puts.{then}
use Rattle.listing_lines.proofs.lines.put_plain_cell.Goals as goal

pub returns : goal.returns
returns c =
    then (then (then c.put-o.ensures c.put_decimal-o.ensures) c.put_leaves-o.ensures) c.put.ensures
