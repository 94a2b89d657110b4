-- Answers as one number, for callers in other languages.
use Rattle.std.specs.Prelude.{ℕ, ◌+◌, ◌*◌, ◌%◌, ◌^◌, Ok, Err}
use Rattle.image.specs.Refusals.{refusal_number}
use Rattle.verdict.specs.Answers.{Verdict}
use Rattle.call_spec.specs.declared.Answer.{Answer}

-- The bytes that were written, of an image or a report, always fewer than 2^16; or, of a refusal, 2^16 times its number (documents 01 and 02) plus 2^24 times its place, which is cut so that the sum has 64 bits. The part that an answer does not have is 0.
abbrev pub as_number : ℕ → ℕ → ℕ → ℕ
as_number bytes number place = bytes % 2 ^ 16 + (2 ^ 16 * number + 2 ^ 24 * (place % 2 ^ 39))

abbrev pub refused_as_number : ℕ → ℕ → ℕ
refused_as_number number place = as_number 0 number place

-- Of a run of the engine: the bytes of report, which are never 0, and 2^16 times the bytes of log.
abbrev pub call_number_by : Verdict → ℕ → ℕ → ℕ
call_number_by (Ok tt) log report = report % 2 ^ 16 + 2 ^ 16 * (log % 2 ^ 48)
call_number_by (Err refusal) log report = refused_as_number (refusal_number refusal.why) refusal.place

abbrev pub call_number : Answer → ℕ
call_number a = call_number_by a.verdict a.log a.report
