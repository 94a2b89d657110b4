-- Log and report read back from their bytes: what demand 3 compares (document 01, "Two runs compared"). Total on any bytes.
use Rattle.std.specs.Prelude.{ℕ, true, List, drop, eqb}
use Rattle.std.proofs.Math.Option.{Option, none, some}
use Rattle.calculus.specs.declared.Leaf.{Leaf}
use Rattle.calculus.specs.Combinators.{choose}
use Rattle.calculus.specs.State.{Print, picked}
use Rattle.calculus.specs.Report.{leaf_kind, CellReport}
use Rattle.base_bytes.specs.Bytes.{number_at}
use Rattle.base_bytes.specs.Records.{Record, log_kind}
use Rattle.report.specs.Records.{records_in}
use Rattle.report.specs.Written.{plain_cell_kind, other_cell_kind}

-- The printed number, leaf or cell that a record says, if it is one.
abbrev pub print_in : Record → Option Print
print_in r = choose (eqb r.kind log_kind) (some (record { dom = number_at 2 0 r.fields; shown = number_at 4 2 r.fields })) none

abbrev pub leaf_in : Record → Option Leaf
leaf_in r =
    choose (eqb r.kind (leaf_kind Leaf.Unit)) (some Leaf.Unit)
    (choose (eqb r.kind (leaf_kind (Leaf.Truth true))) (some (Leaf.Truth (eqb (number_at 2 0 r.fields) 1)))
    (choose (eqb r.kind (leaf_kind (Leaf.Number 0))) (some (Leaf.Number (number_at 4 0 r.fields))) none))

abbrev pub cell_in_of : Record → Option CellReport
cell_in_of r =
    choose (eqb r.kind plain_cell_kind) (some (record { dom = number_at 2 0 r.fields; held = some (picked leaf_in (records_in (drop 2 r.fields))) }))
    (choose (eqb r.kind other_cell_kind) (some (record { dom = number_at 2 0 r.fields; held = none })) none)

abbrev pub read_log : List ℕ → List Print
read_log b = picked print_in (records_in b)

pub record ReadReport : Type 0 where
  -- the outcome's number
  pub outcome : ℕ
  pub steps : ℕ
  pub result : List Leaf
  pub cells : List CellReport

abbrev pub read_report : List ℕ → ReadReport
read_report b = record { outcome = number_at 2 4 b; steps = number_at 4 6 b; result = picked leaf_in (records_in b); cells = picked cell_in_of (records_in b) }
