-- The program of an image, and its run in the calculus (document 01, "A run" and "Two runs compared").
use Rattle.std.specs.Prelude.{ℕ, ◌≡◌, List, length, Ok}
use Rattle.calculus.specs.State.{Given, fresh}
use Rattle.calculus.specs.Run.{Ended, run}
use Rattle.image.specs.Layout.{records_of}
use Rattle.image.specs.Program.{Program, program, to_tm}
use Rattle.verdict.specs.Verdicts.{verdict}

abbrev pub program_of : List ℕ → Program
program_of b = program (records_of b)

-- What a run is given besides its program and its budget: the frame's bytes and the log's length.
abbrev pub given_by : List ℕ → List ℕ → Given
given_by frame log = record { frame = frame; log_length = length log }

-- The run of image b over a frame, with a budget and a log: the calculus's run of its program, at the mainline's domain 0.
abbrev pub run_of : List ℕ → List ℕ → ℕ → List ℕ → Ended
run_of b frame budget log = run budget (given_by frame log) 0 fresh (to_tm (program_of b))

-- The verdict on image b is "accepted", for a work area and a report that are long enough.
pub record Accepts (b : List ℕ) : Type 0 where
  pub work : ℕ
  pub report : ℕ
  pub verdict_is : verdict b work report ≡ Ok tt
