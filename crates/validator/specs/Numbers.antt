-- A verdict in numbers: document 01's number of the refusal, 0 for an accepted image; and the place, 0 likewise.
use Rattle.std.specs.Prelude.{ℕ, Ok, Err}
use Rattle.image.specs.Refusals.{refusal_number}
use Rattle.verdict.specs.Answers.{Verdict}

abbrev pub verdict_number : Verdict → ℕ
verdict_number (Ok tt) = 0
verdict_number (Err refusal) = refusal_number refusal.why

abbrev pub verdict_place : Verdict → ℕ
verdict_place (Ok tt) = 0
verdict_place (Err refusal) = refusal.place
