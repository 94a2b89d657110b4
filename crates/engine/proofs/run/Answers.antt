-- A refusal, or the run of the code of an accepted image.
use native.Mathlib.Omega.{arith}
use Rattle.validator_core.proofs.Calls.{refused_so, accepted_so, lent_enough}
use Rattle.engine_core.proofs.Accepted.{image_accepted, code_asks}
use Rattle.engine.proofs.Called.{refusal_left, run_called}
use borrow.Author.Rules.{rules}
use Rattle.engine.proofs.run.Goals as goal

pub prepare-target-requires : goal.prepare-target-requires
prepare-target-requires c =
    let a = code_asks c.args.image.now _ _ _ _ _ c.check_call-checked.ensures.0 _ c.in-Ok.is in
    (a.0, a.1, search rules, search rules)

pub run_code-answer-requires : goal.run_code-answer-requires
run_code-answer-requires c =
    let h = lent_enough c.args.image.now _ _ _ _ _ c.check_call-checked.ensures.0 _ c.in-Ok.is in
    (image_accepted c.args.image.now _ _ _ _ _ c.check_call-checked.ensures.0 _ c.in-Ok.is, c.prepare-target.ensures.0, h.0, h.1)

pub clear-requires : goal.clear-requires
clear-requires c =
    let h = lent_enough c.args.image.now _ _ _ _ _ c.check_call-checked.ensures.0 _ c.in-Ok.is in
    omega (arith, c.run_code-answer.auto.work, h.0)

pub returns-in-Err : goal.returns-in-Err
returns-in-Err c =
    refusal_left c.args.image.now c.args.frame.now c.args.budget c.args.log.now c.args.report.now c.args.work.now _ _ _ (refused_so c.args.image.now _ _ _ _ _ c.check_call-checked.ensures.0 _ c.in-Err.is) c.refused.ensures

pub returns-in-Ok : goal.returns-in-Ok
returns-in-Ok c =
    run_called c.args.image.now c.args.frame.now c.args.budget c.args.log.now c.args.report.now c.args.work.now _ _ _ _ _ (accepted_so c.args.image.now _ _ _ _ _ c.check_call-checked.ensures.0 _ c.in-Ok.is) c.run_code-answer.ensures c.clear.ensures
