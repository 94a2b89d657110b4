-- Refusals 2 to 16 in their order (document 01, "Turned back at the gate"), and what the tables then hold.
use Rattle.std.specs.Prelude.{ℕ, ◌≡◌, List, [], ◌∷◌, length, take, Result, Ok, Err}
use Rattle.image.specs.declared.Refused.{Refused}
use Rattle.image.specs.Layout.{layout, records_of}
use Rattle.read_records.specs.declared.numbers.Counts.{Counts}
use Rattle.read_records.specs.Tables.{Tables, Counted}
use Rattle.verdict.specs.Answers.{in_turn, Verdict}
use Rattle.verdict.specs.Shape.{shape}
use Rattle.verdict.specs.Check.{typing}
use Rattle.verdict.specs.Verdicts.{laid_out_of}
use Rattle.check_layout.specs.Tables.{end_of, Holds}

-- 9 to 16.
unfoldable pub checked_records : List ℕ → Verdict
checked_records b = in_turn ((λ u. shape (records_of b) (length b)) ∷ (λ u. typing (records_of b)) ∷ [])

-- 2 to 16.
unfoldable pub examined : List ℕ → Verdict
examined b = in_turn ((λ u. laid_out_of (layout b)) ∷ (λ u. checked_records b) ∷ [])

-- A verdict that says of an accepted image how many records each section has.
abbrev pub Checked : Type 0
Checked = Result Counts Refused

-- The verdict in an answer, and an answer from a verdict and the counts.
abbrev pub verdict_of : Checked → Verdict
verdict_of (Err refusal) = Err refusal
verdict_of (Ok n) = Ok tt

abbrev pub with_counts : Verdict → Counts → Checked
with_counts (Err refusal) n = Err refusal
with_counts (Ok tt) n = Ok n

-- The tables of an image that is laid out, with so many records of each section.
pub record Filled (b : List ℕ) (n : Counts) (domain-table type-table descriptor_table term-table : List ℕ) : Type 0 where
  pub tables : Tables b domain-table term-table descriptor_table
  pub types : take n.types type-table ≡ (records_of b).types
  pub counts : Counted b n

-- The answer r, and the tables: they hold all records of an accepted image, and of any image those before the first that 2 to 8 refuse.
pub record Answered (r : Checked) (b domain-table type-table descriptor_table term-table : List ℕ) : Type 0 where
  pub answer : verdict_of r ≡ examined b
  pub filled : (n : Counts) → r ≡ Ok n → Filled b n domain-table type-table descriptor_table term-table
  pub entered : Counts
  pub holds : Holds b (end_of (layout b) b) entered domain-table type-table descriptor_table term-table
