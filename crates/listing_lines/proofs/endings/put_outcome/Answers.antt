-- The word, a space, the steps, the end of the line.
use Rattle.listing_lines.proofs.Puts.{then}
use Rattle.listing_lines.proofs.endings.put_outcome.Goals as goal

pub returns : goal.returns
returns c =
    then (then (then c.put_word-o.ensures c.put-o.ensures) c.put_decimal-o.ensures) c.put.ensures
