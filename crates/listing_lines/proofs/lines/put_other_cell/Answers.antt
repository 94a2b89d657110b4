-- The word, the domain, the word for what is not plain, the end of the line.
use Rattle.listing_lines.proofs.Puts.{then}
use Rattle.listing_lines.proofs.lines.put_other_cell.Goals as goal

pub returns : goal.returns
returns c =
    then (then (then c.put-o.ensures c.put_decimal-o.ensures) c.put-o-2.ensures) c.put.ensures
