-- No outcome, or one.
use Rattle.listing_lines.proofs.Puts.{as_text, puts_nothing, then}
use Rattle.listing_lines.proofs.Said.{no_ending, ending_said}
use Rattle.listing_lines.proofs.endings.put_ending.Goals as goal

pub returns-in-NoOutcome : goal.returns-in-NoOutcome
returns-in-NoOutcome c = as_text (no_ending c.args.steps _ c.in-NoOutcome.is) (puts_nothing _ _)

pub returns-in-Ended : goal.returns-in-Ended
returns-in-Ended c =
    as_text (ending_said c.args.steps _ c.in-Ended.is) (then c.put_outcome-o.ensures c.put_result.ensures)
