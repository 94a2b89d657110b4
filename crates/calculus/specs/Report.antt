-- What a report says of an ended run (document 01, "A run"): the outcome's number, the steps, the result's leaves if the run is done, and each cell.
use Rattle.std.specs.Prelude.{ℕ, List, [], ◌∷◌, ◌++◌, map}
use Rattle.std.proofs.Math.Option.{Option, none, some}
use Rattle.calculus.specs.declared.Outcome.{Outcome}
use Rattle.calculus.specs.declared.Leaf.{Leaf}
use Rattle.calculus.specs.Combinators.{choose}
use Rattle.calculus.specs.Syntax.{Dom, Val}
use Rattle.calculus.specs.State.{Cell}
use Rattle.calculus.specs.Run.{EndOf, done, stopped, stuck, Ended}

-- Document 01's number of each outcome.
abbrev pub outcome_number : Outcome → ℕ
outcome_number Outcome.Done = 0
outcome_number Outcome.Spent = 1
outcome_number Outcome.Aborted = 2
outcome_number Outcome.Frames = 3
outcome_number Outcome.Bindings = 4
outcome_number Outcome.Cells = 5
outcome_number Outcome.Labels = 6
outcome_number Outcome.Advice = 7
outcome_number Outcome.Pieces = 8
outcome_number Outcome.Log = 9
-- card 9
outcome_number Outcome.OtherBindings = 10
outcome_number Outcome.OtherCells = 11
outcome_number Outcome.OtherPieces = 12

-- Document 01's kind of each leaf, and its value as bits.
abbrev pub leaf_kind : Leaf → ℕ
leaf_kind Leaf.Unit = 65
leaf_kind (Leaf.Truth b) = 66
leaf_kind (Leaf.Number n) = 67

abbrev pub leaf_value : Leaf → ℕ
leaf_value Leaf.Unit = 0
leaf_value (Leaf.Truth b) = choose b 1 0
leaf_value (Leaf.Number n) = n

-- "Leaves, left to right."
unfoldable pub leaves : Val → List Leaf
leaves Val.unit = Leaf.Unit ∷ []
leaves (Val.truth b) = Leaf.Truth b ∷ []
leaves (Val.number n) = Leaf.Number n ∷ []
leaves (Val.pair v w) = leaves v ++ leaves w
leaves (Val.fun t e) = []
leaves (Val.label l) = []
leaves (Val.cell r) = []
leaves (Val.pointcut ls) = []
leaves (Val.advice p ls e) = []
leaves (Val.object t bs) = []
leaves Val.bottom = []
leaves (Val.kept l v k) = []

-- A plain cell with its leaves; of another cell its domain alone.
pub record CellReport : Type 0 where
  pub dom : Dom
  pub held : Option (List Leaf)

pub record Report : Type 0 where
  -- none where the run is stuck
  pub outcome : Option Outcome
  pub steps : ℕ
  pub result : List Leaf
  pub cells : List CellReport

abbrev pub outcome_of : {H : Type 0} → EndOf H → Option Outcome
outcome_of (done v) = some Outcome.Done
outcome_of (stopped o) = some o
outcome_of stuck = none

-- A report, given the leaves of what cells and results hold.
abbrev pub result_of : {H : Type 0} → (H → List Leaf) → EndOf H → List Leaf
result_of f (done v) = f v
result_of f (stopped o) = []
result_of f stuck = []

abbrev pub cell_report : {H : Type 0} → (H → List Leaf) → Cell H → CellReport
cell_report f c = record { dom = c.dom; held = choose c.plain (some (f c.held)) none }

abbrev pub report_of : {H : Type 0} → (H → List Leaf) → EndOf H → ℕ → List (Cell H) → Report
report_of f o k cs = record { outcome = outcome_of o; steps = k; result = result_of f o; cells = map (cell_report f) cs }

abbrev pub report : Ended → Report
report r = report_of leaves r.end r.steps r.state.cells
