-- Card 1 of document 02 about whole calls: "An image that meets none of refusals 1 to 4, and its form trimmed to known fields, get the same verdict and the same run; only places move."
use Rattle.std.specs.Prelude.{ℕ, ◌≡◌, List}
use Rattle.verdict.specs.Verdicts.{verdict}
use Rattle.image_trimmed.specs.SameRecords.{SameRecords}
use Rattle.image_trimmed.specs.Trimmed.{trimmed, trimmed_place}
use Rattle.image_trimmed.specs.Places.{map_place}
use Rattle.call_spec.specs.declared.Answer.{Answer}
use Rattle.call_spec.specs.Runs.{run_of}
use Rattle.call_spec.specs.Calls.{Left, called}
use Rattle.demands.specs.Calls.{Runs}

-- What a call answers and leaves, with the place of a refusal moved and all else as it is.
abbrev pub answer_moved : (ℕ → ℕ) → Answer → Answer
answer_moved place a =
    record { verdict = map_place place a.verdict; ending = a.ending; steps = a.steps; log = a.log; report = a.report; count = a.count; leaves = a.leaves }

abbrev pub left_moved : (ℕ → ℕ) → Left → Left
left_moved place X = record { answer = answer_moved place X.answer; log = X.log; report = X.report; work = X.work }

pub record Card1 (b : List ℕ) : Type 0 where
  -- the trimmed image has the same records by their known fields, one after another, each at its place
  pub records : SameRecords b (trimmed b) (trimmed_place b)
  -- "the same verdict", for any work area and report
  pub same_verdict : (work report : ℕ) → verdict (trimmed b) work report ≡ map_place (trimmed_place b) (verdict b work report)
  -- "and the same run", where there is one
  pub same_run : (frame : List ℕ) (budget : ℕ) (log report work : List ℕ) → Runs b report work → run_of (trimmed b) frame budget log ≡ run_of b frame budget log
  -- "only places move": answer, log, report and work area of two calls
  pub same_call : (frame : List ℕ) (budget : ℕ) (log report work : List ℕ) → called (trimmed b) frame budget log report work ≡ left_moved (trimmed_place b) (called b frame budget log report work)
