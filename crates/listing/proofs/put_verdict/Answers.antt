-- By the verdict.
use native.Mathlib.Omega.{arith}
use mathlib.Core.Path.{sym, ap}
use Rattle.listing_lines.specs.Lines.{verdict_line}
use Rattle.listing_lines.proofs.Puts.{as_short, within_limit}
use Rattle.listing.proofs.put_verdict.Goals as goal

pub returns-in-Ok : goal.returns-in-Ok
returns-in-Ok c = as_short (ap verdict_line (sym c.in-Ok.is)) (within_limit c.put.ensures (omega arith))

pub returns-in-Err : goal.returns-in-Err
returns-in-Err c = as_short (ap verdict_line (sym c.in-Err.is)) c.put_refusal.ensures
