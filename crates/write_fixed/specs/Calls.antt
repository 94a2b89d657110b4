-- What a call that writes the fixed form of an image answers, and what the output then holds, from any image and any output (document 02, card 11).
use Rattle.std.specs.Prelude.{ℕ, List, length, Result, Ok, Err}
use Rattle.calculus.specs.Combinators.{choose}
use Rattle.image.specs.Limits.{work_length, report_length}
use Rattle.image.specs.Refusals.{refusal_number}
use Rattle.verdict.specs.Answers.{Verdict}
use Rattle.verdict.specs.Verdicts.{verdict}
use Rattle.base_bytes.specs.Bytes.{over}
use Rattle.image_written.specs.Written.{fixed, too_short}
use Rattle.write_fixed.specs.declared.FixedError.{FixedError}

-- "20 the output is shorter than the image, place 0": the number of each answer, 0 where the fixed form was written, and the place.
abbrev pub short_output : ℕ
short_output = 20

abbrev pub error_number : FixedError → ℕ
error_number (FixedError.Refused refusal) = refusal_number refusal.why
error_number FixedError.ShortOutput = short_output

abbrev pub error_place : FixedError → ℕ
error_place (FixedError.Refused refusal) = refusal.place
error_place FixedError.ShortOutput = 0

abbrev pub written_number : Result ℕ FixedError → ℕ
written_number (Ok n) = 0
written_number (Err e) = error_number e

abbrev pub written_place : Result ℕ FixedError → ℕ
written_place (Ok n) = 0
written_place (Err e) = error_place e

-- How many bytes were written.
abbrev pub written_bytes : Result ℕ FixedError → ℕ
written_bytes (Ok n) = n
written_bytes (Err e) = 0

-- What a call answers, and what the output then holds.
pub record Left : Type 0 where
  pub answer : Result ℕ FixedError
  pub out : List ℕ

-- "Output past it stays, and its length is returned." An image that is refused, and an output that is too short: "nothing is written".
abbrev pub after_check : Verdict → List ℕ → List ℕ → Left
after_check (Err refusal) b out = record { answer = Err (FixedError.Refused refusal); out = out }
after_check (Ok tt) b out =
    choose (too_short out b) (record { answer = Err FixedError.ShortOutput; out = out }) (record { answer = Ok (length (fixed b)); out = over 0 (fixed b) out })

-- "After the check's refusals", 1 to 16: those of a call with a work area and a report that are long enough.
unfoldable pub fixed_call : List ℕ → List ℕ → Left
fixed_call b out = after_check (verdict b work_length report_length) b out
