-- Demand 3 about bytes (document 01, "Two runs compared": "one claim about the bytes that two whole runs leave").
use Rattle.std.specs.Prelude.{ℕ, ◌≡◌, Bool, List}
use Rattle.calculus.specs.Syntax.{Dom}
use Rattle.calculus.specs.State.{Print}
use Rattle.calculus.specs.Report.{CellReport}
use Rattle.calculus_noninterference.specs.Observe.{high_of, CutEqual}
use Rattle.report.specs.Read.{read_log, read_report}

-- "The log records it wrote whose domain is high, in order, domain and number together."
abbrev pub high_prints_in : (Dom → Bool) → List ℕ → List Print
high_prints_in high log = high_of high (λ a. a.dom) (read_log log)

-- "The reported cell records whose domain is high, in order of creation": kinds, domains and leaves.
abbrev pub high_cells_in : (Dom → Bool) → List ℕ → List CellReport
high_cells_in high report = high_of high (λ a. a.dom) (read_report report).cells

-- "A run is done if its report says outcome 0."
abbrev pub SaysDone : List ℕ → Type 0
SaysDone report = (read_report report).outcome ≡ 0

-- Of the bytes of log and report that two runs wrote.
pub record SameBytes (high : Dom → Bool) (log log' report report' : List ℕ) : Type 0 where
  -- "Of two such lists the longer, cut to the length of the shorter, equals the shorter."
  pub prints : CutEqual (high_prints_in high log) (high_prints_in high log')
  -- "Where both runs are done, the two results are equal, and so are the two lists of high cells."
  pub result : SaysDone report → SaysDone report' → (read_report report).result ≡ (read_report report').result
  pub cells : SaysDone report → SaysDone report' → high_cells_in high report ≡ high_cells_in high report'
