-- Card 13 of document 02 about whole calls: an image stripped of its watches, and a call that is done at a larger budget.
use Rattle.std.specs.Prelude.{ℕ, ◌≤◌, ◌<◌, ◌≡◌, Bool, false, List, length, take, drop, Ok}
use Rattle.calculus.specs.declared.Outcome.{Outcome}
use Rattle.calculus.specs.Limits.{word_size}
use Rattle.calculus.specs.Syntax.{Dom}
use Rattle.calculus_stripped.specs.Strip.{strip}
use Rattle.image.specs.Layout.{records_of}
use Rattle.image.specs.Program.{to_tm}
use Rattle.verdict.specs.Domains.{masks}
use Rattle.image_written.specs.Written.{fixed}
use Rattle.image_written.specs.Stripped.{stripped as strippedTree, without_watches}
use Rattle.write_masks.specs.Masks.{in_mask}
use Rattle.write_stripped.specs.Calls.{stripped_call}
use Rattle.report.specs.declared.Ending.{Ending}
use Rattle.report.specs.Read.{read_report}
use Rattle.call_spec.specs.Runs.{program_of}
use Rattle.call_spec.specs.Calls.{Left, called}
use Rattle.demands.specs.Calls.{Runs, log_written, report_written}
use Rattle.demands.specs.SameBytes.{high_prints_in, high_cells_in, SaysDone}
use Rattle.demands.specs.Compare.{HighSet}
use Rattle.demands.specs.LowTakedowns.{low_takes_down}

-- The program of image b' is that of image b, stripped.
abbrev pub StrippedOf : (Dom → Bool) → List ℕ → List ℕ → Type 0
StrippedOf high b b' = to_tm (program_of b') ≡ strip high (to_tm (program_of b))

-- Of the bytes of log and report that a call which is done wrote, and of those that the call of the stripped image wrote: it "is done … with the same result, the same plain high cells and high log, in no more steps".
pub record SharesBytes (high : Dom → Bool) (log log' report report' : List ℕ) : Type 0 where
  pub was_done : SaysDone report'
  pub result : (read_report report).result ≡ (read_report report').result
  pub cells : high_cells_in high report ≡ high_cells_in high report'
  pub prints : high_prints_in high log ≡ high_prints_in high log'
  pub steps : (read_report report').steps ≤ (read_report report).steps

abbrev pub SharesLeft : (Dom → Bool) → Left → Left → Type 0
SharesLeft high X Y = SharesBytes high (log_written X) (log_written Y) (report_written X) (report_written Y)

-- "If no body that runs at a low domain … contains a takedown, and the full run is done": for any high domains, any such two images, any frame and budget, and any lent memory for which both calls run, with logs of one length.
abbrev pub Card13 : Type 0
Card13 =
    (high : Dom → Bool) (b b' : List ℕ) → HighSet (records_of b) high → StrippedOf high b b' → low_takes_down high (program_of b) ≡ false
    → (frame : List ℕ) (budget : ℕ) (log log' report report' work work' : List ℕ) → budget < word_size → length log ≡ length log' → Runs b report work → Runs b' report' work'
    → SaysDone (report_written (called b frame budget log report work))
    → SharesLeft high (called b frame budget log report work) (called b' frame budget log' report' work')

-- The image that is written, of an image b that runs.
pub record WrittenStripped (high : Dom → Bool) (b report work : List ℕ) : Type 0 where
  -- "It is always accepted", and no longer than b
  pub accepted : Runs (without_watches high b) report work
  pub short : length (without_watches high b) ≤ length b
  -- it has the same domains, and the program with its types "with every low lower body and low advice body replaced by unit", also as a term of the calculus
  pub domains : masks (records_of (without_watches high b)) ≡ masks (records_of b)
  pub tree : program_of (without_watches high b) ≡ strippedTree high (program_of b)
  pub stripped : StrippedOf high b (without_watches high b)
  -- "in the fixed form of card 11"
  pub fixed_form : fixed (without_watches high b) ≡ without_watches high b

-- "And a run that is done stays the same at any larger budget": all that the call answers and leaves, whatever the image.
abbrev pub DoneStays : Type 0
DoneStays =
    (b frame : List ℕ) (budget budget' : ℕ) (log report work : List ℕ) → budget ≤ budget'
    → (called b frame budget log report work).answer.ending ≡ Ending.Ended Outcome.Done
    → called b frame budget' log report work ≡ called b frame budget log report work

-- From the call that writes the image to the two runs: of a call on b with this mask, which answers that n bytes are written and leaves out' in the output.
pub record WritesStripped (b : List ℕ) (mask n : ℕ) (out out' : List ℕ) : Type 0 where
  -- "a mask of high domains as in demand 3"
  pub highs : HighSet (records_of b) (in_mask mask)
  -- these bytes are the image without its watches; "output past it stays"
  pub bytes : take n out' ≡ without_watches (in_mask mask) b
  pub past : drop n out' ≡ drop n out
  -- they are "always accepted", wherever b is
  pub accepted : (report work : List ℕ) → Runs b report work → Runs (take n out') report work
  -- "If no body that runs at a low domain … contains a takedown, and the full run is done, the stripped run is done …"
  pub shares : low_takes_down (in_mask mask) (program_of b) ≡ false
      → (frame : List ℕ) (budget : ℕ) (log log' report report' work work' : List ℕ) → budget < word_size → length log ≡ length log' → Runs b report work → Runs b report' work'
      → SaysDone (report_written (called b frame budget log report work))
      → SharesLeft (in_mask mask) (called b frame budget log report work) (called (take n out') frame budget log' report' work')

abbrev pub Card13Call : Type 0
Card13Call =
    (b : List ℕ) (mask n : ℕ) (out : List ℕ) → (stripped_call b mask out).answer ≡ Ok n → WritesStripped b mask n out (stripped_call b mask out).out
