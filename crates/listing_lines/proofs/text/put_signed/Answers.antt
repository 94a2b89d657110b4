-- A number below 2^31 as it is; any other below 0.
use Rattle.listing_lines.proofs.Puts.{as_text, then}
use Rattle.listing_lines.proofs.Decimal.{not_negative, negative}
use mathlib.Core.Path.{sym}
use Rattle.listing_lines.proofs.text.put_signed.Goals as goal

pub returns-then-n-lt-LOWEST : goal.returns-then-n-lt-LOWEST
returns-then-n-lt-LOWEST c =
    as_text (sym (not_negative c.args.n c.if-n-lt-LOWEST.true)) c.put_decimal.ensures

pub returns : goal.returns
returns c =
    as_text (sym (negative c.args.n c.if-n-lt-LOWEST.false)) (then c.put-o.ensures c.put_decimal-2.ensures)
