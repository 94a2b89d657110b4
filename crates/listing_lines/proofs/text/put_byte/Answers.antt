-- There is room for the byte, or there is none.
use Rattle.listing_lines.proofs.Puts.{byte_put, byte_left_out}
use Rattle.listing_lines.proofs.text.put_byte.Goals as goal

pub returns-then-at-out : goal.returns-then-at-out
returns-then-at-out c = let a = c.args in byte_put a.out.now a.at a.b c.if-at-out.true

pub returns : goal.returns
returns c = let a = c.args in byte_left_out a.out.now a.at a.b c.if-at-out.false
