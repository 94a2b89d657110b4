use Prim.Native.Nat.{◌/◌, ◌≤◌, ◌<◌}
use mathlib.Core.Path.{◌≡◌, refl, ap, ◌∙◌}
use lib.ListN.{length, length-set}
use native.Mathlib.Omega.{arith}
use Rattle.answers_as_numbers.specs.Recordings.{part_length, Recording, first_calls}
use Rattle.image.specs.Limits.{work_length}
use Rattle.call_spec.proofs.Accepted.{accepted_with}
use Rattle.answers_as_numbers.proofs.Recordings.{part_inside, length_part, length_with_part, part_lent, part_back, with_clear_work, calls_unseen, first_none, run_recorded}
use borrow.Author.Rules.{rules}
use Rattle.engine_frames.proofs.run_each.Goals as goal

pub overflow_mul-f : goal.overflow_mul-f
overflow_mul-f c =
    let h = part_inside (length c.args.numbers.now) c.loop-i.i c.loop-i-test.true c.args.frames.now in
    search rules

pub overflow_add-f_end : goal.overflow_add-f_end
overflow_add-f_end c =
    let h = part_inside (length c.args.numbers.now) c.loop-i.i c.loop-i-test.true c.args.frames.now in
    search rules

pub overflow_mul-l : goal.overflow_mul-l
overflow_mul-l c =
    let h = part_inside (length c.args.numbers.now) c.loop-i.i c.loop-i-test.true c.args.logs.now in
    search rules

pub overflow_add-l_end : goal.overflow_add-l_end
overflow_add-l_end c =
    let h = part_inside (length c.args.numbers.now) c.loop-i.i c.loop-i-test.true c.args.logs.now in
    search rules

pub overflow_mul-r : goal.overflow_mul-r
overflow_mul-r c =
    let h = part_inside (length c.args.numbers.now) c.loop-i.i c.loop-i-test.true c.args.reports.now in
    search rules

pub overflow_add-r_end : goal.overflow_add-r_end
overflow_add-r_end c =
    let h = part_inside (length c.args.numbers.now) c.loop-i.i c.loop-i-test.true c.args.reports.now in
    search rules

pub slice_bounds-run_code-end : goal.slice_bounds-run_code-end
slice_bounds-run_code-end c =
    let h = part_inside (length c.args.numbers.now) c.loop-i.i c.loop-i-test.true c.args.frames.now in
    search rules

pub slice_bounds-run_code-end-in-loop-i : goal.slice_bounds-run_code-end-in-loop-i
slice_bounds-run_code-end-in-loop-i c =
    let h = part_inside (length c.args.numbers.now) c.loop-i.i c.loop-i-test.true c.args.logs.now in
    search rules

pub slice_bounds-run_code-end-in-loop-i-2 : goal.slice_bounds-run_code-end-in-loop-i-2
slice_bounds-run_code-end-in-loop-i-2 c =
    let h = part_inside (length c.args.numbers.now) c.loop-i.i c.loop-i-test.true c.args.reports.now in
    search rules

pub run_code-answer-requires : goal.run_code-answer-requires
run_code-answer-requires c =
    let l = c.loop-i in
    let n = length c.args.numbers.now in
    let same = c.loop-i.invariant.0.2 in
    let parts = part_lent n l.i c.loop-i-test.true l.reports c.args.reports.now same in
    let long = ap length parts ∙ length_part n l.i c.loop-i-test.true l.reports ∙ ap (◌/ n) same in
    (c.requires.0, c.requires.1, omega (arith, l.invariant.0.3, c.requires.3), rw long c.requires.4)

pub offset_bounds-numbers-i : goal.offset_bounds-numbers-i
offset_bounds-numbers-i c =
    let h : c.loop-i.i < length c.args.numbers.now = c.loop-i-test.true in
    search rules

pub loop-i-preserved : goal.loop-i-preserved
loop-i-preserved c =
    let l = c.loop-i in
    let a = c.args in
    let n = length a.numbers.now in
    let below = c.loop-i-test.true in
    let same = c.loop-i.invariant.0 in
    let lent-log = part_lent n l.i below l.logs a.logs.now same.1 in
    let lent-report = part_lent n l.i below l.reports a.reports.now same.2 in
    let log-kept = c.run_code-answer.auto.log ∙ ap length lent-log ∙ length_part n l.i below l.logs in
    let report-kept = c.run_code-answer.auto.report ∙ ap length lent-report ∙ length_part n l.i below l.reports in
    let logs-back = part_back n l.i below l.logs a.logs.now same.1 _ log-kept in
    let reports-back = part_back n l.i below l.reports a.reports.now same.2 _ report-kept in
    let long : work_length ≤ length l.work = omega (arith, same.3, c.requires.3) in
    let enough = accepted_with a.image.now c.requires.0 (length l.work) (part_length n l.reports) long (rw same.2 c.requires.4) in
    ((length-set l.numbers l.i _ ∙ same.0, ap length logs-back ∙ length_with_part n l.i below l.logs _ log-kept ∙ same.1, ap length reports-back ∙ length_with_part n l.i below l.reports _ report-kept ∙ same.2, c.run_code-answer.auto.work ∙ same.3), run_recorded a.image.now a.frames.now a.budget n l.i below (record { answers = l.numbers; logs = l.logs; reports = l.reports; work = l.work }) long enough _ _ _ _ _ _ _ _ _ _ _ l.invariant.1 (part_lent n l.i below a.frames.now a.frames.now refl) lent-log lent-report c.run_code-answer.ensures logs-back reports-back c.call_number.ensures)

pub clear-requires : goal.clear-requires
clear-requires c =
    omega (arith, c.loop-i.invariant.0.3, c.requires.3)

pub returns : goal.returns
returns c =
    let a = c.args in
    let l = c.loop-i in
    let n = length a.numbers.now in
    let R : Recording = record { answers = a.numbers.now; logs = a.logs.now; reports = a.reports.now; work = a.work.now } in
    let done : l.i ≡ n = omega (arith, c.loop-i-test.false, l.auto.i-end) in
    let enough = accepted_with a.image.now c.requires.0 (length a.work.now) (part_length n a.reports.now) c.requires.3 c.requires.4 in
    (λ j. record { answers = l.numbers; logs = l.logs; reports = l.reports; work = c.clear.ensures j })
    ∙ l.invariant.1
    ∙ ap (λ k. first_calls a.image.now a.frames.now a.budget n k (with_clear_work R)) done
    ∙ calls_unseen a.image.now a.frames.now a.budget n c.requires.2 R c.requires.3 enough n c.requires.2

pub loop-i-init : goal.loop-i-init
loop-i-init c = ((refl, refl, refl, refl), first_none _ _ _ _ _)
