-- The word, the domain, a space, the number, the end of the line.
use Rattle.listing_lines.proofs.Puts.{then}
use Rattle.listing_lines.proofs.lines.put_printed.Goals as goal

pub returns : goal.returns
returns c =
    then (then (then (then c.put-o.ensures c.put_decimal-o.ensures) c.put-o-2.ensures) c.put_signed-o.ensures) c.put.ensures
