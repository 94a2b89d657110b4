-- Log and report byte by byte (document 01, "A run").
use mathlib.Core.Path.{◌≡◌, refl}
use mathlib.Core.Bool.{true}
use mathlib.Core.List.{[], ◌∷◌}
use mathlib.Core.Option.{none, some}
use Rattle.calculus.specs.declared.Leaf.{Leaf}
use Rattle.calculus.specs.State.{picked}
use Rattle.base_bytes.specs.Bytes.{bytes_of, number_of, number_at}
use Rattle.report.specs.Records.{records_bytes, records_after}
use Rattle.report.specs.Written.{log_bytes, report_bytes}
use Rattle.report.specs.Read.{read_log}

-- Spent after 258 steps, with a plain cell of domain 1 that holds unit and truth, and another cell of domain 2.
pub cells_report : report_bytes 1 258 [] (record { dom = 1; held = some (Leaf.Unit ∷ Leaf.Truth true ∷ []) } ∷ record { dom = 2; held = none } ∷ [])
    ≡ 10 ∷ 0 ∷ 70 ∷ 0 ∷ 1 ∷ 0 ∷ 2 ∷ 1 ∷ 0 ∷ 0 ∷ 16 ∷ 0 ∷ 68 ∷ 0 ∷ 1 ∷ 0 ∷ 4 ∷ 0 ∷ 65 ∷ 0 ∷ 6 ∷ 0 ∷ 66 ∷ 0 ∷ 1 ∷ 0 ∷ 6 ∷ 0 ∷ 69 ∷ 0 ∷ 2 ∷ 0 ∷ []
unfolding bytes_of records_bytes
cells_report = refl

-- The number -1, printed at domain 3.
pub one_print : log_bytes (record { dom = 3; shown = 4294967295 } ∷ []) ≡ 10 ∷ 0 ∷ 64 ∷ 0 ∷ 3 ∷ 0 ∷ 255 ∷ 255 ∷ 255 ∷ 255 ∷ []
unfolding bytes_of records_bytes
one_print = refl

-- Bytes that are no whole record say nothing.
pub broken_log : read_log (10 ∷ 0 ∷ 64 ∷ 0 ∷ 3 ∷ []) ≡ []
unfolding records_after number_at number_of picked
broken_log = refl
