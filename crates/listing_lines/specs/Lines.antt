-- The lines of a listing (document 01, "Bench sheet"). Every line ends with a newline.
use Rattle.std.specs.Prelude.{ℕ, true, false, List, [], ◌++◌, eqb, Ok, Err}
use Prim.Native.String.{String}
use Rattle.std.proofs.Math.Option.{Option, none, some}
use Rattle.calculus.specs.declared.Outcome.{Outcome}
use Rattle.calculus.specs.declared.Leaf.{Leaf}
use Rattle.calculus.specs.Combinators.{choose}
use Rattle.calculus.specs.State.{Print}
use Rattle.calculus.specs.Report.{outcome_number, CellReport}
use Rattle.image.specs.declared.Refusal.{Refusal}
use Rattle.image.specs.Refusals.{refusal_number}
use Rattle.verdict.specs.Answers.{Verdict}
use Rattle.report.specs.declared.Ending.{Ending}
use Rattle.listing_lines.specs.Text.{ascii, decimal, signed_decimal, texts}

-- "It prints `log D N` lines (domain, number)".
abbrev pub print_line : Print → List ℕ
print_line p = ascii "log " ++ decimal p.dom ++ ascii " " ++ signed_decimal p.shown ++ ascii "\n"

-- "Leaves are separated by spaces: unit, true, false or a decimal number": each with the space before it.
abbrev pub leaf_text : Leaf → List ℕ
leaf_text Leaf.Unit = ascii " unit"
leaf_text (Leaf.Truth true) = ascii " true"
leaf_text (Leaf.Truth false) = ascii " false"
leaf_text (Leaf.Number n) = ascii " " ++ signed_decimal n

abbrev pub leaves_text : List Leaf → List ℕ
leaves_text ls = texts leaf_text ls

-- "then the outcome word (done, spent, aborted, frames, bindings, cells, labels, advice, pieces, log) with the steps".
abbrev pub outcome_word : Outcome → String
outcome_word Outcome.Done = "done"
outcome_word Outcome.Spent = "spent"
outcome_word Outcome.Aborted = "aborted"
outcome_word Outcome.Frames = "frames"
outcome_word Outcome.Bindings = "bindings"
outcome_word Outcome.Cells = "cells"
outcome_word Outcome.Labels = "labels"
outcome_word Outcome.Advice = "advice"
outcome_word Outcome.Pieces = "pieces"
outcome_word Outcome.Log = "log"
-- card 9
outcome_word Outcome.OtherBindings = "other-bindings"
outcome_word Outcome.OtherCells = "other-cells"
outcome_word Outcome.OtherPieces = "other-pieces"

abbrev pub outcome_line : Outcome → ℕ → List ℕ
outcome_line o steps = ascii (outcome_word o) ++ ascii " " ++ decimal steps ++ ascii "\n"

-- "then if done `value` and leaves".
abbrev pub value_line : List Leaf → List ℕ
value_line ls = ascii "value" ++ leaves_text ls ++ ascii "\n"

abbrev pub result_line : Outcome → List Leaf → List ℕ
result_line o ls = choose (eqb (outcome_number o) (outcome_number Outcome.Done)) (value_line ls) []

-- The lines of how a run ended; of a run without an outcome there are none.
abbrev pub ending_lines : Ending → ℕ → List Leaf → List ℕ
ending_lines Ending.NoOutcome steps ls = []
ending_lines (Ending.Ended o) steps ls = outcome_line o steps ++ result_line o ls

-- "then, done or not, for each cell `cell D` and leaves, or `cell D other`, a line each".
abbrev pub held_text : Option (List Leaf) → List ℕ
held_text none = ascii " other"
held_text (some ls) = leaves_text ls

abbrev pub cell_line : CellReport → List ℕ
cell_line c = ascii "cell " ++ decimal c.dom ++ held_text c.held ++ ascii "\n"

-- "A refusal prints `refused N PLACE`."
abbrev pub refusal_line : Refusal → ℕ → List ℕ
refusal_line r place = ascii "refused " ++ decimal (refusal_number r) ++ ascii " " ++ decimal place ++ ascii "\n"

-- What `validate` prints.
abbrev pub verdict_line : Verdict → List ℕ
verdict_line (Ok tt) = ascii "accepted\n"
verdict_line (Err refusal) = refusal_line refusal.why refusal.place
