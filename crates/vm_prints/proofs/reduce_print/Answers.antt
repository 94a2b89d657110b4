-- No room in the log; or the record is written.
use Rattle.vm_prints.proofs.Printed.{no_capacity, printed}
use Rattle.vm_prints.proofs.reduce_print.Goals as goal

pub returns-then-log-at-lt-LOG_RECORD_LENGTH : goal.returns-then-log-at-lt-LOG_RECORD_LENGTH
returns-then-log-at-lt-LOG_RECORD_LENGTH c = let a = c.args in no_capacity a.work.now a.work.now a.log.now a.log.now a.r _ a.w a.x c.if-log-at-lt-LOG_RECORD_LENGTH.true c.halt.ensures

pub returns : goal.returns
returns c =
    let a = c.args in
    printed a.work.now _ a.log.now _ a.r _ a.w a.x c.requires.1 _ _ c.if-log-at-lt-LOG_RECORD_LENGTH.false c.domain_of-dom.ensures c.body.ensures c.put_log.ensures c.given-q.ensures
