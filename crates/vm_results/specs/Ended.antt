-- What the machine's registers and tables say of a run that ended (document 01, "A run"): outcome, steps, the result's leaves, and each cell.
use Rattle.std.specs.Prelude.{ℕ, zero, suc, ◌-◌, ◌%◌, Bool, List, [], ◌∷◌, length, take, eqb, leb, Ok}
use Rattle.std.proofs.Math.Option.{none, some}
use Rattle.calculus.specs.declared.Outcome.{Outcome}
use Rattle.calculus.specs.declared.Leaf.{Leaf}
use Rattle.calculus.specs.Combinators.{choose}
use Rattle.calculus.specs.Limits.{leaf_limit}
use Rattle.calculus.specs.Report.{outcome_number, CellReport}
use Rattle.image.specs.Limits.{domain_limit}
use Rattle.report.specs.declared.Ending.{Ending}
use Rattle.report.specs.Written.{report_bytes}
use Rattle.vm_machine.specs.declared.Regs.{Regs}
use Rattle.vm_pools.specs.Pools.{whole}
use Rattle.vm_machine.specs.Memory.{Memory, cell_at, cell_note}
use Rattle.vm_machine.specs.Leaves.{leaves_of}
use Rattle.call_spec.specs.declared.Answer.{Answer}
use Rattle.call_spec.specs.Calls.{slots_of}

-- The outcome with a number; 12 and more is the last.
abbrev pub outcome_with : ℕ → Outcome
outcome_with n =
    choose (eqb n 0) Outcome.Done
    (choose (eqb n 1) Outcome.Spent
    (choose (eqb n 2) Outcome.Aborted
    (choose (eqb n 3) Outcome.Frames
    (choose (eqb n 4) Outcome.Bindings
    (choose (eqb n 5) Outcome.Cells
    (choose (eqb n 6) Outcome.Labels
    (choose (eqb n 7) Outcome.Advice
    (choose (eqb n 8) Outcome.Pieces
    (choose (eqb n 9) Outcome.Log
    (choose (eqb n 10) Outcome.OtherBindings
    (choose (eqb n 11) Outcome.OtherCells Outcome.OtherPieces)))))))))))

-- How a machine halted, and whether it is done.
abbrev pub halted_with : Regs → Outcome
halted_with r = outcome_with r.outcome

abbrev pub is_done : ℕ → Bool
is_done n = eqb n (outcome_number Outcome.Done)

-- The leaves of a value: at most eight, of pairs at most eight deep.
abbrev pub plain_leaves_in : Memory → ℕ → List Leaf
plain_leaves_in M w = take leaf_limit (leaves_of M leaf_limit w)

-- The result's leaves, if the run is done.
abbrev pub result_in : Memory → Regs → List Leaf
result_in M r = choose (is_done r.outcome) (plain_leaves_in M r.acc) []

-- Cell i. Its note is its domain, and as many more as there are domains where it is plain.
abbrev pub cell_in_of : Memory → ℕ → CellReport
cell_in_of M i =
    let w : ℕ = cell_at M i in
    record { dom = cell_note w % domain_limit; held = choose (leb domain_limit (cell_note w)) (some (plain_leaves_in M w)) none }

-- n cells from i on.
unfoldable pub cells_from : Memory → ℕ → ℕ → List CellReport
cells_from M zero i = []
cells_from M (suc n) i = cell_in_of M i ∷ cells_from M n (suc i)

abbrev pub cells_in : Memory → Regs → List CellReport
cells_in M r = cells_from M (whole r.pools.cells) 0

-- The report of a run with a budget.
abbrev pub report_in : Memory → Regs → ℕ → List ℕ
report_in M r budget = report_bytes (outcome_number (halted_with r)) (budget - r.rest) (result_in M r) (cells_in M r)

abbrev pub answer_in : Memory → Regs → ℕ → Answer
answer_in M r budget =
    record {
      verdict = Ok tt;
      ending = Ending.Ended (halted_with r);
      steps = budget - r.rest;
      log = r.logged;
      report = length (report_in M r budget);
      count = length (result_in M r);
      leaves = slots_of (result_in M r);
    }
