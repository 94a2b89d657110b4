-- What a call that writes an image without its watches answers, and what the output then holds, from any image, mask and output (document 02, card 13).
use Rattle.std.specs.Prelude.{ℕ, Bool, List, length, Result, Ok, Err}
use Rattle.calculus.specs.Combinators.{choose}
use Rattle.image.specs.Limits.{work_length, report_length}
use Rattle.image.specs.Refusals.{refusal_number}
use Rattle.image.specs.Records.{Layout}
use Rattle.image.specs.Layout.{records_of}
use Rattle.verdict.specs.Answers.{Verdict}
use Rattle.verdict.specs.Domains.{leq}
use Rattle.verdict.specs.Verdicts.{verdict}
use Rattle.base_bytes.specs.Bytes.{over}
use Rattle.image_written.specs.Written.{too_short}
use Rattle.image_written.specs.Stripped.{without_watches}
use Rattle.write_masks.specs.Masks.{in_mask, wrong_by}
use Rattle.write_stripped.specs.declared.StripError.{StripError}

-- Refusal 23 of a mask, by the domains of an image.
abbrev pub wrong_set : Layout → ℕ → Bool
wrong_set L mask = wrong_by (leq L) (length L.domains) mask

-- The number of each answer, 0 where the image was written, and the place. Refusal 24 is decided by `too_short`.
abbrev pub wrong_set_number : ℕ
wrong_set_number = 23

abbrev pub short_output : ℕ
short_output = 24

abbrev pub error_number : StripError → ℕ
error_number (StripError.Refused refusal) = refusal_number refusal.why
error_number StripError.WrongSet = wrong_set_number
error_number StripError.ShortOutput = short_output

abbrev pub error_place : StripError → ℕ
error_place (StripError.Refused refusal) = refusal.place
error_place StripError.WrongSet = 0
error_place StripError.ShortOutput = 0

abbrev pub stripped_number : Result ℕ StripError → ℕ
stripped_number (Ok n) = 0
stripped_number (Err e) = error_number e

abbrev pub stripped_place : Result ℕ StripError → ℕ
stripped_place (Ok n) = 0
stripped_place (Err e) = error_place e

-- How many bytes were written.
abbrev pub stripped_bytes : Result ℕ StripError → ℕ
stripped_bytes (Ok n) = n
stripped_bytes (Err e) = 0

-- What a call answers, and what the output then holds.
pub record Left : Type 0 where
  pub answer : Result ℕ StripError
  pub out : List ℕ

-- "In this order, place 0, after the check's refusals, nothing written." Output past the image stays, and its length is returned.
abbrev pub after_check : Verdict → List ℕ → ℕ → List ℕ → Left
after_check (Err refusal) b mask out = record { answer = Err (StripError.Refused refusal); out = out }
after_check (Ok tt) b mask out =
    choose (wrong_set (records_of b) mask) (record { answer = Err StripError.WrongSet; out = out })
    (choose (too_short out b) (record { answer = Err StripError.ShortOutput; out = out })
    (record { answer = Ok (length (without_watches (in_mask mask) b)); out = over 0 (without_watches (in_mask mask) b) out }))

-- The check's refusals are 1 to 16: those of a call with a work area and a report that are long enough.
unfoldable pub stripped_call : List ℕ → ℕ → List ℕ → Left
stripped_call b mask out = after_check (verdict b work_length report_length) b mask out
