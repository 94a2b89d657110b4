-- The bytes of log and report (document 01, "A run").
use Rattle.std.specs.Prelude.{ℕ, List, [], ◌++◌, map, take}
use Rattle.std.proofs.Math.Option.{Option, none, some}
use Rattle.calculus.specs.declared.Leaf.{Leaf}
use Rattle.calculus.specs.Syntax.{Dom}
use Rattle.calculus.specs.State.{Print}
use Rattle.calculus.specs.Report.{leaf_kind, leaf_value, CellReport}
use Rattle.base_bytes.specs.Records.{bytes16, bytes32, Record, record_bytes, print_record}
use Rattle.report.specs.declared.Slot.{Slot}
use Rattle.report.specs.Records.{records_bytes}

abbrev pub plain_cell_kind : ℕ
plain_cell_kind = 68

abbrev pub other_cell_kind : ℕ
other_cell_kind = 69

abbrev pub report_kind : ℕ
report_kind = 70

-- "Log record: length 10, kind 64, the current domain, number."
abbrev pub record_of : Print → Record
record_of p = print_record p.dom p.shown

abbrev pub log_bytes : List Print → List ℕ
log_bytes x = records_bytes (map record_of x)

-- "Kind 65 unit, 66 truth (2 bytes), 67 number (4 bytes)."
abbrev pub leaf_fields : Leaf → List ℕ
leaf_fields Leaf.Unit = []
leaf_fields (Leaf.Truth b) = bytes16 (leaf_value (Leaf.Truth b))
leaf_fields (Leaf.Number n) = bytes32 (leaf_value (Leaf.Number n))

abbrev pub leaf_record : Leaf → Record
leaf_record l = record { kind = leaf_kind l; fields = leaf_fields l }

abbrev pub leaf_bytes : Leaf → List ℕ
leaf_bytes l = record_bytes (leaf_record l)

abbrev pub leaves_bytes : List Leaf → List ℕ
leaves_bytes ls = records_bytes (map leaf_record ls)

-- The first n of a result's eight slots.
abbrev pub leaves_in : ℕ → List Slot → List Leaf
leaves_in n slots = map (λ s. s.leaf) (take n slots)

-- "A plain cell is kind 68, its domain, then its leaves inside its length; another cell is kind 69 and its domain."
abbrev pub held_record : Dom → Option (List Leaf) → Record
held_record d none = record { kind = other_cell_kind; fields = bytes16 d }
held_record d (some ls) = record { kind = plain_cell_kind; fields = bytes16 d ++ leaves_bytes ls }

abbrev pub cell_record : CellReport → Record
cell_record c = held_record c.dom c.held

abbrev pub cell_bytes : CellReport → List ℕ
cell_bytes c = record_bytes (cell_record c)

abbrev pub cells_bytes : List CellReport → List ℕ
cells_bytes cs = records_bytes (map cell_record cs)

-- "Report: length 10, kind 70, outcome, steps (4 bytes); if done, the result's leaves; then, done or not, each cell in order of creation." o is the outcome's number, k the steps.
abbrev pub head_record : ℕ → ℕ → Record
head_record o k = record { kind = report_kind; fields = bytes16 o ++ bytes32 k }

abbrev pub head_bytes : ℕ → ℕ → List ℕ
head_bytes o k = record_bytes (head_record o k)

abbrev pub report_bytes : ℕ → ℕ → List Leaf → List CellReport → List ℕ
report_bytes o k ls cs = head_bytes o k ++ leaves_bytes ls ++ cells_bytes cs
