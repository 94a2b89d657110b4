use mathlib.Core.Path.{refl, sym}
use Rattle.listing_lines.proofs.Puts.{as_text, then}
use Rattle.listing_lines.proofs.Decimal.{one_digit, more_digits}
use Rattle.listing_lines.proofs.text.+put_decimal.Goals as goal

pub returns-then-n-lt10 : goal.returns-then-n-lt10
returns-then-n-lt10 t c = as_text (sym (one_digit c.args.n _ c.if-n-lt10.true refl)) c.put_byte.ensures

pub returns : goal.returns
returns t c = as_text (sym (more_digits c.args.n _ c.if-n-lt10.false refl)) (then c.put_decimal-o.ensures c.put_byte-2.ensures)
