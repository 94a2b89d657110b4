-- Card 11 of document 02 about whole calls: the fixed form of an accepted image.
use Rattle.std.specs.Prelude.{ℕ, ◌≤◌, ◌≡◌, List, ◌↔◌, length, Ok}
use Rattle.image.specs.Layout.{records_of}
use Rattle.image.specs.Program.{program}
use Rattle.verdict.specs.Domains.{masks}
use Rattle.base_bytes.specs.Bytes.{over}
use Rattle.image_written.specs.Written.{fixed}
use Rattle.write_fixed.specs.Calls.{fixed_call}
use Rattle.call_spec.specs.Runs.{run_of}
use Rattle.call_spec.specs.Calls.{called}
use Rattle.demands.specs.Calls.{Runs}

-- Two images have the same domains and the same program tree with types.
pub record SameProgram (b c : List ℕ) : Type 0 where
  pub domains : masks (records_of b) ≡ masks (records_of c)
  pub tree : program (records_of b) ≡ program (records_of c)

pub record Card11 (b report work : List ℕ) : Type 0 where
  -- the fixed form is accepted, says the same program, and is no longer
  pub accepted : Runs (fixed b) report work
  pub same_program : SameProgram (fixed b) b
  pub short : length (fixed b) ≤ length b
  -- a call with an output that is not shorter than the image writes it: "Output past it stays, and its length is returned."
  pub written : (out : List ℕ) → length b ≤ length out → fixed_call b out ≡ record { answer = Ok (length (fixed b)); out = over 0 (fixed b) out }
  -- "Two accepted images give equal bytes exactly when they have the same domains and the same program tree with types."
  pub equal : (c : List ℕ) → Runs c report work → (out : List ℕ) → length b ≤ length out → length c ≤ length out → fixed_call b out ≡ fixed_call c out ↔ SameProgram b c
  -- "Writing twice changes nothing"
  pub twice : fixed (fixed b) ≡ fixed b
  -- "and the run is that of the original": answer, log, report and work area of two calls
  pub same_run : (frame : List ℕ) (budget : ℕ) (log : List ℕ) → run_of (fixed b) frame budget log ≡ run_of b frame budget log
  pub same_call : (frame : List ℕ) (budget : ℕ) (log : List ℕ) → called (fixed b) frame budget log report work ≡ called b frame budget log report work
