-- The three demands, about whole calls: what a call answers and leaves is `called` (the crate call_spec), the definition that the engine's contract cites.
use Rattle.std.specs.Prelude.{Ok, Err}
use Prim.Native.Nat.{ℕ, ◌%◌, ◌≤◌}
use native.Mathlib.Omega.{arith}
use native.Mathlib.Nat.{mod-eq_of_lt}
use mathlib.Core.Path.{◌≡◌, refl, sym, ap, subst, ◌∙◌}
use mathlib.Core.Logic.{◌↔◌}
use mathlib.Core.List.{List}
use mathlib.Core.Option.{some}
use lib.ListN.{length}
use Rattle.calculus.specs.State.{Given, fresh, log_of}
use Rattle.calculus.specs.Run.{Ended}
use Rattle.calculus.specs.Report.{outcome_number, report as reported, report}
use Rattle.calculus.specs.Typing.{Policy}
use Rattle.image.specs.Refusals.{refusal_number}
use Rattle.image.specs.Limits.{work_length, report_length}
use Rattle.image.specs.Layout.{records_of}
use Rattle.image.specs.Program.{to_tm}
use Rattle.verdict.specs.Answers.{refusal_of, Verdict}
use Rattle.verdict.specs.Verdicts.{verdict}
use Rattle.verdict.specs.Domains.{policy}
use Rattle.verdict.specs.Acceptable.{Acceptable}
use Rattle.verdict.proofs.Accept.{accepted_iff}
use Rattle.report.specs.Read.{read_report}
use Rattle.report.specs.Written.{report_bytes}
use Rattle.report.specs.OfRun.{ending_of, reported_number, written_log, written_report}
use Rattle.report.specs.Fits.{short_size}
use Rattle.report.proofs.Lengths.{length_log}
use Rattle.report.proofs.Narrow.{report_read}
use Rattle.demands.proofs.AcceptedBytes.{program_cells_few, program_result_few, program_report_short, program_log_short}
use Rattle.call_spec.specs.Runs.{Accepts, program_of, given_by, run_of}
use Rattle.call_spec.specs.Calls.{left_by, called}
use Rattle.demands.specs.Calls.{Runs, RunOutput, Rejection, Demand1Refused}
use Rattle.demands.specs.Compare.{Demand3}
use Rattle.call_spec.proofs.Slots.{leaves_back}
use Rattle.call_spec.proofs.Called.{refused_leaves, accepted_leaves}
use Rattle.call_spec.proofs.Accepted.{transitive, typed}
use Rattle.calculus.specs.declared.Outcome.{Outcome}
use Rattle.calculus_safety.proofs.Runs.{reports_outcome}
use Rattle.demands.proofs.Compare.{demand3_written}
use Rattle.demands.proofs.Steps.{steps_within, spent_steps}
use Rattle.demands.proofs.Written.{outcome_fits, take_front, drop_front, length_front, cleared_zero, cleared_past, length_cleared}

-- Demand 1 for runs of the calculus: an accepted image's run is never stuck.
-- The outcome is one of document 01's ten or of card 9's three.
pub one_outcome : (b : List ℕ) → Accepts b → (frame : List ℕ) (budget : ℕ) (log : List ℕ) → (o : Outcome) × ((report (run_of b frame budget log)).outcome ≡ some o)
one_outcome b A frame budget log = reports_outcome (policy (records_of b)) (transitive b A) (given_by frame log) (typed b A).typed budget

-- The image of a call that runs is accepted.
pub accepts : (b report work : List ℕ) → Runs b report work → Accepts b
accepts b report work h = record { work = length work; report = length report; verdict_is = h }

module _ (b frame : List ℕ) (budget : ℕ) (log report work : List ℕ) where
  -- Demand 1, of a call that runs: it ends with one of document 01's outcomes, log and report hold exactly the listed records, and nothing else changes but the work area, which is cleared (specs/Calls.antt).
  pub demand1 : Runs b report work → RunOutput (run_of b frame budget log) budget log report work (called b frame budget log report work)
  demand1 h =
      let A = accepts b report work h in
      let E : Ended = run_of b frame budget log in
      let G : Given = given_by frame log in
      let D : Policy = policy (records_of b) in
      let one = one_outcome b A frame budget log in
      let ok = (accepted_iff b (length work) (length report)).0 h in
      let log-short : length (written_log E) ≤ length log = program_log_short G budget (to_tm (program_of b)) in
      let report_short : length (written_report E) ≤ report_length = program_report_short D (transitive b A) G budget (typed b A) in
      let few = program_cells_few D (transitive b A) G budget (typed b A).typed in
      let r = reported E in
      let number : reported_number r.outcome ≡ outcome_number one.0 = ap reported_number one.1 in
      let back = ap read_report (take_front (written_report E) report) ∙ report_read (reported_number r.outcome) r.steps r.result r.cells few in
      let steps : r.steps ≤ budget = omega (arith, steps_within budget G 0 fresh (to_tm (program_of b))) in
      let enough = ok.report_enough in
      subst (RunOutput E budget log report work) (sym (accepted_leaves b frame budget log report work h))
      (record {
        outcome = one.0;
        outcome_is = one.1;
        answered = ap ending_of one.1;
        steps = refl;
        within = steps;
        spent = λ e. spent_steps D (transitive b A) G budget (typed b A).typed (one.1 ∙ ap some e);
        leaves = leaves_back r.result (program_result_few D (transitive b A) G budget (typed b A));
        log_is = take_front (written_log E) log;
        log_count = length_log (log_of E.state.trace);
        report_is = take_front (written_report E) report ∙ ap (λ n. report_bytes n r.steps r.result r.cells) number;
        outcome_read = ap (λ x. x.outcome) back ∙ ap (λ n. n % short_size) number ∙ outcome_fits one.0;
        steps_read = λ l. ap (λ x. x.steps) back ∙ mod-eq_of_lt (omega arith);
        log_fits = log-short;
        log_past = drop_front (written_log E) log;
        log_kept = length_front (written_log E) log log-short;
        report_fits = report_short;
        report_past = drop_front (written_report E) report;
        report_kept = length_front (written_report E) report (omega arith);
        work_zero = cleared_zero work_length work;
        work_past = cleared_past work_length work;
        work_kept = length_cleared work_length work ok.work_enough;
      })

  -- The number and place that the answer gives are those of the verdict, by `refusal_number`.
  pub answer_number : refusal_of (called b frame budget log report work).answer.verdict ≡ refusal_of (verdict b (length work) (length report))
  answer_number = look (verdict b (length work) (length report)) refl
    where
      look : (v : Verdict) → verdict b (length work) (length report) ≡ v → refusal_of (called b frame budget log report work).answer.verdict ≡ refusal_of v
      look (Ok tt) h = ap (λ X. refusal_of X.answer.verdict) (accepted_leaves b frame budget log report work h)
      look (Err refusal) h = ap (λ X. refusal_of X.answer.verdict) (refused_leaves b frame budget log report work refusal.why refusal.place h)

  -- Demand 2, of the gate: a call runs exactly if the image follows the layouts and the typing rules and the lent memory is long enough.
  pub demand2_acceptance : Runs b report work ↔ Acceptable b (length work) (length report)
  demand2_acceptance = accepted_iff b (length work) (length report)

  -- Demand 2, of the run: the call answers and leaves what the calculus's run of the image's program says, and "the steps counted are the steps of this definition".
  pub demand2_run : Runs b report work → called b frame budget log report work ≡ left_by (run_of b frame budget log) log report work
  demand2_run = accepted_leaves b frame budget log report work

  pub demand2_steps : Runs b report work → (called b frame budget log report work).answer.steps ≡ (run_of b frame budget log).steps
  demand2_steps h = ap (λ X. X.answer.steps) (demand2_run h)

-- Demand 1, of every other call (specs/Calls.antt).
pub demand1_refused : Demand1Refused
demand1_refused b frame budget log report work refused = look (verdict b (length work) (length report)) refl
  where
    look : (v : Verdict) → verdict b (length work) (length report) ≡ v → Rejection v log report work (called b frame budget log report work)
    look (Ok tt) h = absurd (refused ((demand2_acceptance b frame budget log report work).0 h))
    look (Err refusal) h =
        subst (Rejection (Err refusal) log report work) (sym (refused_leaves b frame budget log report work refusal.why refusal.place h))
        (record {
          number = refusal_number refusal.why;
          place = refusal.place;
          refusal = refl;
          answered = refl;
          no_outcome = refl;
          no_steps = refl;
          no_log = refl;
          no_report = refl;
          log_same = refl;
          report_same = refl;
          work_same = refl;
        })

-- Demand 3: "one claim about the bytes that two whole runs leave" (specs/Compare.antt).
pub demand3 : Demand3
demand3 high b b' C frame budget budget' log log' report report' work work' h h' =
    let E : Ended = run_of b frame budget log in
    let E' : Ended = run_of b' frame budget' log' in
    rw (demand2_run b frame budget log report work h, demand2_run b' frame budget' log' report' work' h', take_front (written_log E) log, take_front (written_log E') log', take_front (written_report E) report, take_front (written_report E') report')
    (demand3_written high b b' (accepts b report work h) (accepts b' report' work' h') C frame budget budget' log log')
