-- What was printed, how it ended, the cells.
use native.Mathlib.Omega.{arith}
use Rattle.listing_lines.proofs.Puts.{then, within_limit}
use Rattle.listing.proofs.Bounds.{run_short}
use borrow.Author.Rules.{rules}
use Rattle.listing.proofs.put_run.Goals as goal

pub returns : goal.returns
returns c =
    let a = c.args in
    within_limit
    (then (then c.put_prints-o.ensures c.put_ending-o.ensures) c.put_cells.ensures)
    (run_short a.ending a.steps a.log.now a.report.now (search rules) (λ i. omega (arith, c.shared_slice_known-1.given i)) (λ i. omega (arith, c.shared_slice_known-2-1.given i)))
