-- What a whole call wrote, and what demand 1 says of a call that runs and of one that is turned back (document 01, "A run" and "Turned back at the gate").
use Rattle.std.specs.Prelude.{ℕ, ◌*◌, ◌≤◌, ◌<◌, ◌≡◌, List, length, take, drop, replicate, Ok}
use Rattle.std.proofs.Math.Option.{some}
use Rattle.calculus.specs.declared.Outcome.{Outcome}
use Rattle.calculus.specs.Limits.{word_size, log_record_length}
use Rattle.calculus.specs.State.{log_of}
use Rattle.calculus.specs.Run.{Ended}
use Rattle.calculus.specs.Report.{outcome_number, report as reported}
use Rattle.image.specs.Limits.{work_length, report_length}
use Rattle.verdict.specs.Answers.{refusal_of, Verdict}
use Rattle.verdict.specs.Verdicts.{verdict}
use Rattle.verdict.specs.Acceptable.{Acceptable}
use Rattle.report.specs.declared.Ending.{Ending}
use Rattle.report.specs.Written.{leaves_in, log_bytes, report_bytes}
use Rattle.report.specs.Read.{read_report}
use Rattle.call_spec.specs.Calls.{Left, called}

-- "A call turned back at the gate makes no run": a call with image b, this report and this work area makes one.
abbrev pub Runs : List ℕ → List ℕ → List ℕ → Type 0
Runs b report work = verdict b (length work) (length report) ≡ Ok tt

-- "A run returns how many bytes of log and of report it wrote": these bytes.
abbrev pub log_written : Left → List ℕ
log_written X = take X.answer.log X.log

abbrev pub report_written : Left → List ℕ
report_written X = take X.answer.report X.report

-- Of a call that runs: E is the calculus's run of the image's program, and X what the call answers and leaves.
pub record RunOutput (E : Ended) (budget : ℕ) (log report work : List ℕ) (X : Left) : Type 0 where
  -- one of document 01's outcomes, with card 9's: the run's, and the call's
  pub outcome : Outcome
  pub outcome_is : (reported E).outcome ≡ some outcome
  pub answered : X.answer.ending ≡ Ending.Ended outcome
  -- "the steps counted are the steps of this definition"; "spent if steps equal the budget"
  pub steps : X.answer.steps ≡ E.steps
  pub within : E.steps ≤ budget
  pub spent : outcome ≡ Outcome.Spent → E.steps ≡ budget
  -- the result's leaves, left to right, if done
  pub leaves : leaves_in X.answer.count X.answer.leaves ≡ (reported E).result
  -- "Log record: length 10, kind 64, the current domain, number": one for each print of the run, in order
  pub log_is : log_written X ≡ log_bytes (log_of E.state.trace)
  pub log_count : X.answer.log ≡ log_record_length * length (log_of E.state.trace)
  -- "Report: length 10, kind 70, outcome, steps; if done, the result's leaves; then, done or not, each cell in order of creation"
  pub report_is : report_written X ≡ report_bytes (outcome_number outcome) E.steps (reported E).result (reported E).cells
  -- what demand 3 reads back from it; "the budget and step count are 32-bit unsigned"
  pub outcome_read : (read_report (report_written X)).outcome ≡ outcome_number outcome
  pub steps_read : budget < word_size → (read_report (report_written X)).steps ≡ E.steps
  -- what is written fits, "bytes past these are unchanged"
  pub log_fits : X.answer.log ≤ length log
  pub log_past : drop X.answer.log X.log ≡ drop X.answer.log log
  pub log_kept : length X.log ≡ length log
  pub report_fits : X.answer.report ≤ report_length
  pub report_past : drop X.answer.report X.report ≡ drop X.answer.report report
  pub report_kept : length X.report ≡ length report
  -- "the work area is zero over its published length and unchanged past it"
  pub work_zero : take work_length X.work ≡ replicate work_length 0
  pub work_past : drop work_length X.work ≡ drop work_length work
  pub work_kept : length X.work ≡ length work

-- Of a call that is turned back: v is the verdict of its image and its lent memory, and X what the call answers and leaves.
pub record Rejection (v : Verdict) (log report work : List ℕ) (X : Left) : Type 0 where
  -- "Number" and "Returned" of document 01's table: the number (`refusal_number`) and place of the first refusal, in the table's order; the answer gives them
  pub number : ℕ
  pub place : ℕ
  pub refusal : refusal_of v ≡ some (number, place)
  pub answered : refusal_of X.answer.verdict ≡ some (number, place)
  -- it makes no run, so it has no outcome and wrote nothing
  pub no_outcome : X.answer.ending ≡ Ending.NoOutcome
  pub no_steps : X.answer.steps ≡ 0
  pub no_log : X.answer.log ≡ 0
  pub no_report : X.answer.report ≡ 0
  -- "Left as it was": "all lent memory"
  pub log_same : X.log ≡ log
  pub report_same : X.report ≡ report
  pub work_same : X.work ≡ work

-- Demand 1, of every call that is not acceptable.
abbrev pub Demand1Refused : Type 0
Demand1Refused =
    (b frame : List ℕ) (budget : ℕ) (log report work : List ℕ) → (Acceptable b (length work) (length report) → ⊥)
    → Rejection (verdict b (length work) (length report)) log report work (called b frame budget log report work)
