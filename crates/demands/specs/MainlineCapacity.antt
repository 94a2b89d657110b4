-- Card 9 of document 02, beside demand 3: "Two programs with the same domains that differ only in bodies at domains neither 0 nor above it have, over the same frame, the same three counts for domain 0 just after its first print, its second and so on, as far as both runs get, and at the end if both are done."
-- Counts stand neither in the log nor in the report, so this claim is about the runs that the two calls make. What it is for, that no watch brings the mainline to outcome 4, 5 or 8, is about the bytes that they leave.
use Rattle.std.specs.Prelude.{ℕ, ◌≤◌, ◌≡◌, Bool, true, ◌||◌, List, length, eqb}
use Rattle.calculus.specs.declared.Outcome.{Outcome}
use Rattle.calculus.specs.Syntax.{Dom}
use Rattle.calculus.specs.State.{mainline_counts}
use Rattle.calculus.specs.Run.{Ended}
use Rattle.calculus.specs.Report.{outcome_number}
use Rattle.calculus_noninterference.specs.Observe.{CutEqual}
use Rattle.image.specs.Records.{Layout}
use Rattle.image.specs.Layout.{records_of}
use Rattle.image.specs.Program.{blanked}
use Rattle.verdict.specs.Domains.{masks, leq}
use Rattle.report.specs.Read.{read_report}
use Rattle.call_spec.specs.Runs.{program_of, run_of}
use Rattle.call_spec.specs.Calls.{Left, called}
use Rattle.demands.specs.Calls.{Runs, log_written, report_written}
use Rattle.demands.specs.SameBytes.{high_prints_in, SaysDone}

-- Domain 0 and the domains above it.
abbrev pub from_mainline : Layout → Dom → Bool
from_mainline L q = leq L 0 q

-- "Two programs with the same domains that differ only in bodies at domains neither 0 nor above it."
pub record DifferBelow (b b' : List ℕ) : Type 0 where
  pub domains : masks (records_of b) ≡ masks (records_of b')
  pub programs : blanked (from_mainline (records_of b)) (program_of b) ≡ blanked (from_mainline (records_of b)) (program_of b')

-- Domain 0's counts of two runs, of which the calls left X and Y.
pub record SameCounts (E E' : Ended) (X Y : Left) : Type 0 where
  -- "just after its first print, its second and so on, as far as both runs get"
  pub prints : CutEqual (mainline_counts E.state.trace) (mainline_counts E'.state.trace)
  -- "and at the end if both are done"
  pub end : SaysDone (report_written X) → SaysDone (report_written Y) → E.state.used.mainline ≡ E'.state.used.mainline

abbrev pub Card9 : Type 0
Card9 =
    (b b' : List ℕ) → DifferBelow b b'
    → (frame : List ℕ) (budget budget' : ℕ) (log log' report report' work work' : List ℕ) → Runs b report work → Runs b' report' work'
    → SameCounts (run_of b frame budget log) (run_of b' frame budget' log') (called b frame budget log report work) (called b' frame budget' log' report' work')

-- The report says that domain 0 lacks room: outcome 4, 5 or 8.
abbrev pub lacks_number : ℕ → Bool
lacks_number n = eqb n (outcome_number Outcome.Bindings) || (eqb n (outcome_number Outcome.Cells) || eqb n (outcome_number Outcome.Pieces))

abbrev pub SaysShort : List ℕ → Type 0
SaysShort report = lacks_number (read_report report).outcome ≡ true

-- The call that left Y came no further than the one that left X: it is not done, and has no more log records of domain 0 and above.
pub record NoFurther (high : Dom → Bool) (X Y : Left) : Type 0 where
  pub not_done : SaysDone (report_written Y) → ⊥
  pub no_more : length (high_prints_in high (log_written Y)) ≤ length (high_prints_in high (log_written X))

-- Where the mainline of one program runs out of its room, that of the other does not get past that point, with whatever watches: so no watch brings it there.
abbrev pub Card9Capacity : Type 0
Card9Capacity =
    (b b' : List ℕ) → DifferBelow b b'
    → (frame : List ℕ) (budget budget' : ℕ) (log log' report report' work work' : List ℕ) → Runs b report work → Runs b' report' work'
    → SaysShort (report_written (called b frame budget log report work))
    → NoFurther (from_mainline (records_of b)) (called b frame budget log report work) (called b' frame budget' log' report' work')
