-- What `run` answers, as a number, and the memory as `run` leaves it.
use Rattle.bukzarn.proofs.Answered.{numbered}
use Rattle.bukzarn.proofs.bukzarn_run.Goals as goal

pub returns : goal.returns
returns c =
    numbered _ _ _ c.run.ensures c.call_number.ensures
