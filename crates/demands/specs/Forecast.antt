-- Card 10 of document 02 about whole calls: "No run of that image exceeds any of them. A done run without choice, mark or takedown meets each exactly. Where all are within the limits, the budget and the log, the outcome is done or aborted."
-- Steps, cells and log records are read from the bytes that a call leaves. The other numbers stand neither in log nor in report, so they are said of the run that the call makes, at its end and at every moment before it.
use Rattle.std.specs.Prelude.{ℕ, ◌+◌, ◌≤◌, ◌<◌, ◌≡◌, ◌⊎◌, ◌↔◌, true, List, Ok, Err, length, T}
use Rattle.calculus.specs.declared.Outcome.{Outcome}
use Rattle.calculus.specs.Limits.{word_size}
use Rattle.calculus.specs.Report.{outcome_number}
use Rattle.calculus_needs.specs.Numbers.{Numbers}
use Rattle.calculus_needs.specs.Class.{in_class, straight}
use Rattle.calculus_needs.specs.Needs.{need_of}
use Rattle.calculus_needs.specs.Used.{used_by}
use Rattle.calculus_needs.specs.Claims.{Under, Enough}
use Rattle.image.specs.declared.Refusal.{Refusal}
use Rattle.image.specs.Limits.{work_length, report_length}
use Rattle.image.specs.Layout.{records_of}
use Rattle.image.specs.Types.{term_place}
use Rattle.image.specs.Program.{to_tm}
use Rattle.verdict.specs.Answers.{Verdict, refused_at}
use Rattle.verdict.specs.Verdicts.{verdict}
use Rattle.image_needs.specs.declared.Needs.{Needs}
use Rattle.image_needs.specs.declared.Unforeseen.{Unforeseen}
use Rattle.image_needs.specs.Faults.{lowest_fault}
use Rattle.image_needs.specs.Forecasts.{needs_of, forecast}
use Rattle.report.specs.Read.{read_log, read_report}
use Rattle.call_spec.specs.Runs.{program_of, given_by}
use Rattle.call_spec.specs.Calls.{Left, called}
use Rattle.demands.specs.Calls.{Runs, log_written, report_written}
use Rattle.demands.specs.SameBytes.{SaysDone}

-- The eleven numbers of a forecast, as those of a run.
abbrev pub numbers_of : Needs → Numbers
numbers_of n = record {
  steps = n.steps;
  used = record {
    mainline = record { bindings = n.bindings; cells = n.cells; pieces = n.pieces };
    others = record { bindings = n.other_bindings; cells = n.other_cells; pieces = n.other_pieces };
  };
  labels = n.labels;
  advices = n.advice;
  prints = n.log;
  frames = n.frames;
}

-- What the run that a call makes used.
abbrev pub used_of : List ℕ → List ℕ → ℕ → List ℕ → Numbers
used_of b frame budget log = used_by budget (given_by frame log) (to_tm (program_of b))

-- Of the numbers that stand in the bytes which a call left, steps and cells in the report and log records in the log: R relates what is read there to the forecast. A cell's record does not say which half it was charged to (card 9); "the budget and step count are 32-bit unsigned".
pub record Told (R : ℕ → ℕ → Type 0) (n : Needs) (budget : ℕ) (X : Left) : Type 0 where
  pub steps : budget < word_size → R (read_report (report_written X)).steps n.steps
  pub cells : R (length (read_report (report_written X)).cells) (n.cells + n.other_cells)
  pub prints : R (length (read_log (log_written X))) n.log

-- "A done run without choice, mark or takedown": none of them stands outside the bodies of functions, methods and advice (`straight`). In an image of the class a body of a function or method never runs, and one of an advice runs at a mark alone; a done run comes to every term outside the bodies. So these are the images whose done runs make no choice, mark or takedown.
abbrev pub OneWay : List ℕ → Type 0
OneWay b = T (straight (to_tm (program_of b)))

abbrev pub SaysAborted : List ℕ → Type 0
SaysAborted report = (read_report report).outcome ≡ outcome_number Outcome.Aborted

-- Of an image whose forecast is n, and a call on it that runs and leaves X.
pub record Holds (b : List ℕ) (n : Needs) (frame : List ℕ) (budget : ℕ) (log : List ℕ) (X : Left) : Type 0 where
  -- "No run of that image exceeds any of them": at any smaller budget too, which is every moment of the call's run (a takedown gives room of advice back before the end)
  pub under : (k : ℕ) → k ≤ budget → Under (used_of b frame k log) (numbers_of n)
  pub told : Told ◌≤◌ n budget X
  -- "A done run without choice, mark or takedown meets each exactly."
  pub meets : OneWay b → SaysDone (report_written X) → used_of b frame budget log ≡ numbers_of n
  pub told_meets : OneWay b → SaysDone (report_written X) → Told ◌≡◌ n budget X
  -- "Where all are within the limits, the budget and the log, the outcome is done or aborted."
  pub settles : Enough budget (given_by frame log) (numbers_of n) → SaysDone (report_written X) ⊎ SaysAborted (report_written X)

abbrev pub Card10 : Type 0
Card10 =
    (b : List ℕ) (n : Needs) → forecast b ≡ Ok n
    → (frame : List ℕ) (budget : ℕ) (log report work : List ℕ) → Runs b report work → Holds b n frame budget log (called b frame budget log report work)

-- The class: "images with no apply and no call, whose installs each stand directly over an advice, and whose advice bodies contain no mark and no install".
abbrev pub InClass : List ℕ → Type 0
InClass b = T (in_class true (to_tm (program_of b)))

-- What the check says of an image alone: 17 and 18 are about a run's memory.
abbrev pub check_of : List ℕ → Verdict
check_of b = verdict b work_length report_length

-- "19 the image is outside this class, after the check's refusals; the place is the offset of the lowest apply, call, install over something else, or mark or install in an advice body."
pub record Card10Refused (b : List ℕ) : Type 0 where
  pub refused : (r : Refusal) (place : ℕ) → check_of b ≡ refused_at r place → forecast b ≡ Err (Unforeseen.Refused (record { why = r; place = place }))
  pub outside : (place : ℕ) → forecast b ≡ Err (Unforeseen.OutsideClass place) ↔ (check_of b ≡ Ok tt) × (InClass b → ⊥) × (place ≡ term_place (records_of b) (lowest_fault (records_of b)))
  pub inside : (n : Needs) → forecast b ≡ Ok n ↔ (check_of b ≡ Ok tt) × InClass b × (n ≡ needs_of (need_of (to_tm (program_of b))))
