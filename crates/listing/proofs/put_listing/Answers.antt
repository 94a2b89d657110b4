use mathlib.Core.Path.{ap, ◌∙◌}
use lib.ListN.{length, length-take}
-- By the verdict.
use native.Mathlib.Omega.{arith}
use Rattle.listing_lines.proofs.Puts.{as_short, longer}
use Rattle.listing.proofs.Verdicts.{refusal_listed, run_listed}
use Rattle.listing.proofs.put_listing.Goals as goal

pub returns-in-Err : goal.returns-in-Err
returns-in-Err c =
    as_short (refusal_listed c.args.a c.args.log.now c.args.report.now c.in-Err.is) (longer (omega arith) c.put_refusal.ensures)

pub returns-in-Ok : goal.returns-in-Ok
returns-in-Ok c =
    let a = c.args in
    let l = ap length c.front.ensures ∙ length-take a.a.log a.log.now in
    let r = ap length c.front-in-Ok.ensures ∙ length-take a.a.report a.report.now in
    as_short (run_listed a.a a.log.now a.report.now c.in-Ok.is c.front.ensures c.front-in-Ok.ensures) (longer (omega arith) c.put_run.ensures)
