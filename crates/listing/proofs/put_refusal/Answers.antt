-- The word, the number, a space, the place, the end of the line.
use Prim.Native.Nat.{◌<◌}
use native.Mathlib.Omega.{arith}
use mathlib.Core.Path.{ap}
use Rattle.image.specs.Refusals.{refusal_number}
use Rattle.listing_lines.specs.Text.{decimal}
use Rattle.listing_lines.proofs.Puts.{then, as_text, within_limit}
use Rattle.listing.proofs.Bounds.{refusal_short}
use borrow.Author.Rules.{rules}
use Rattle.listing.proofs.put_refusal.Goals as goal

pub returns : goal.returns
returns c =
    let a = c.args in
    let n : refusal_number a.why < 65536 = omega (arith, c.from.ensures) in
    within_limit
    (then (then (then (then c.put-o.ensures (as_text (ap decimal c.from.ensures) c.put_decimal-o.ensures)) c.put-o-2.ensures) c.put_decimal-o-2.ensures) c.put.ensures)
    (refusal_short a.why a.place n (search rules))
