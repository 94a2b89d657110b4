-- A verdict with its place moved (document 02, card 1: "the same verdict and the same run; only places move").
use Rattle.std.specs.Prelude.{ℕ, Ok, Err}
use Rattle.verdict.specs.Answers.{Verdict, refused_at}

abbrev pub map_place : (ℕ → ℕ) → Verdict → Verdict
map_place place (Ok tt) = Ok tt
map_place place (Err refusal) = refused_at refusal.why (place refusal.place)
