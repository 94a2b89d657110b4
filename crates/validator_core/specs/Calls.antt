-- The check of a call, and the tables that its run then uses (document 01, "Turned back at the gate").
use Rattle.std.specs.Prelude.{ℕ, ◌≡◌, List, Ok}
use Rattle.read_records.specs.declared.numbers.Counts.{Counts}
use Rattle.verdict.specs.Verdicts.{verdict}
use Rattle.validator_core.specs.Examined.{Checked, verdict_of, Filled}
use Rattle.validator_core.specs.declared.call.Lent.{Lent}

-- The tables hold the types and the terms of image b, which has so many of each.
abbrev pub Read : List ℕ → Counts → List ℕ → List ℕ → List ℕ → Type 0
Read b n types descriptors terms = (domains : List ℕ) × Filled b n domains types descriptors terms

-- The verdict on image b with so much lent memory; and the tables of an image that is accepted.
pub record Answered (b : List ℕ) (lent : Lent) (r : Checked) (types descriptors terms : List ℕ) : Type 0 where
  pub answer : verdict_of r ≡ verdict b lent.work lent.report
  pub filled : (n : Counts) → r ≡ Ok n → Read b n types descriptors terms
