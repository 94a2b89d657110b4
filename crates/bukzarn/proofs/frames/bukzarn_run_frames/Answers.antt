-- No call, calls that are all refused, or the runs of one code.
use mathlib.Core.Path.{◌≡◌, refl}
use lib.ListN.{length}
use native.Mathlib.Omega.{arith}
use Rattle.answers_as_numbers.proofs.Recordings.{first_none, all_refused}
use Rattle.validator_core.proofs.Calls.{refused_so, lent_enough}
use Rattle.engine_core.proofs.Accepted.{image_accepted, code_asks}
use borrow.Author.Rules.{rules}
use Rattle.bukzarn.proofs.frames.bukzarn_run_frames.Goals as goal

pub returns-then-count-eq0 : goal.returns-then-count-eq0
returns-then-count-eq0 c =
    let none : length c.args.numbers.now ≡ 0 = omega (arith, c.if-count-eq0.true) in
    rw none (first_none _ _ _ _ _)

pub prepare-target-requires : goal.prepare-target-requires
prepare-target-requires c =
    let a = code_asks c.args.image.now _ _ _ _ _ c.check_call-checked.ensures.0 _ c.in-Ok.is in
    (a.0, a.1, search rules, search rules)

pub run_each-requires : goal.run_each-requires
run_each-requires c =
    let h = lent_enough c.args.image.now _ _ _ _ _ c.check_call-checked.ensures.0 _ c.in-Ok.is in
    (image_accepted c.args.image.now _ _ _ _ _ c.check_call-checked.ensures.0 _ c.in-Ok.is, c.prepare-target.ensures.0, omega (arith, c.if-count-eq0.false), h.0, h.1)

pub returns-in-Err : goal.returns-in-Err
returns-in-Err c =
    all_refused c.args.image.now c.args.frames.now c.args.budget (length c.args.numbers.now) (record { answers = c.args.numbers.now; logs = c.args.logs.now; reports = c.args.reports.now; work = c.args.work.now }) (omega arith) _ _ (refused_so c.args.image.now _ _ _ _ _ c.check_call-checked.ensures.0 _ c.in-Err.is) _ refl c.refuse_each.ensures
