-- The whole report and the answer.
use Rattle.std.specs.Prelude.{Ok}
use Prim.Native.Nat.{ℕ, ◌+◌, ◌-◌, ◌*◌, ◌≤◌}
use native.Mathlib.Omega.{arith}
use mathlib.Core.Path.{◌≡◌, refl, ap, ◌∙◌}
use mathlib.Core.Bool.{Bool, true, false}
use mathlib.Core.List.{List, [], ◌++◌}
use lib.ListN.{length, length-append}
use Rattle.calculus.specs.declared.Outcome.{Outcome}
use Rattle.calculus.specs.declared.Leaf.{Leaf}
use Rattle.calculus.specs.Combinators.{choose}
use Rattle.calculus.specs.Report.{outcome_number, CellReport}
use Rattle.image.specs.Limits.{report_length}
use Rattle.base_bytes.specs.Bytes.{bytes_of, over}
use Rattle.base_bytes.proofs.Over.{onward}
use Rattle.report.specs.declared.Ending.{Ending}
use Rattle.report.specs.Written.{leaves_in, leaves_bytes, cells_bytes, head_bytes, report_bytes}
use Rattle.report.proofs.Lengths.{leaves_short, length_parts}
use Rattle.vm_machine.specs.declared.Regs.{Regs}
use Rattle.vm_pools.specs.Pools.{whole}
use Rattle.vm_machine.specs.Memory.{Memory, cell_places}
use Rattle.call_spec.specs.declared.Answer.{Answer}
use Rattle.vm_results.specs.declared.Gathered.{Gathered}
use Rattle.vm_results.specs.Gathered.{gathered}
use Rattle.vm_results.specs.Ended.{halted_with, is_done, plain_leaves_in, result_in, cells_in, report_in, answer_in}
use Rattle.vm_results.proofs.Gathering.{gathered_leaves, plain_few}

few_of : (M : Memory) (w : ℕ) (b : Bool) → length (choose b (plain_leaves_in M w) []) ≤ 8
few_of M w true = plain_few M w
few_of M w false = omega arith

pub result_few : (M : Memory) (r : Regs) → length (result_in M r) ≤ 8
result_few M r = few_of M r.acc (is_done r.outcome)

-- Head, leaves and cells end to end.
report_written_lem : (xs : List ℕ) (o k : ℕ) (ls : List Leaf) (cs : List CellReport) (j end : ℕ) {ys zs ws : List ℕ}
    → ys ≡ over 0 (head_bytes o k) xs → zs ≡ over 10 (leaves_bytes ls) ys → j ≡ 10 + length (leaves_bytes ls) → ws ≡ over j (cells_bytes cs) zs → end ≡ j + length (cells_bytes cs)
    → end ≤ length xs → (end ≡ length (report_bytes o k ls cs)) × (ws ≡ over 0 (report_bytes o k ls cs) xs)
unfolding bytes_of
report_written_lem xs o k ls cs j end {ys} {zs} {ws} a b i d m h =
    let n = length_parts o k ls cs in
    let p = length-append (head_bytes o k) (leaves_bytes ls) in
    let q : zs ≡ over 0 (head_bytes o k ++ leaves_bytes ls) xs = onward (head_bytes o k) (leaves_bytes ls) xs 0 10 a b refl (omega arith) in
    (omega arith, onward (head_bytes o k ++ leaves_bytes ls) (cells_bytes cs) xs 0 j q d (omega arith) (omega arith))

module _ (M : Memory) (r : Regs) (g : Gathered) (e : g ≡ gathered (result_in M r)) where
  -- The report that the parts make, and its answer.
  pub reported : (budget : ℕ) (xs : List ℕ) (o : Outcome) (j end : ℕ) {ys zs ws : List ℕ} → o ≡ halted_with r → ys ≡ over 0 (head_bytes (outcome_number o) (budget - r.rest)) xs
      → (j ≡ 10 + length (leaves_bytes (leaves_in g.count g.slots))) × (zs ≡ over 10 (leaves_bytes (leaves_in g.count g.slots)) ys)
      → (end ≡ j + length (cells_bytes (cells_in M r))) × (ws ≡ over j (cells_bytes (cells_in M r)) zs) × (end ≤ j + 70 * whole r.pools.cells) → whole r.pools.cells ≤ cell_places → report_length ≤ length xs
      → ◌≡◌ {A = Answer} (record { verdict = Ok tt; ending = Ending.Ended o; steps = budget - r.rest; log = r.logged; report = end; count = g.count; leaves = g.slots }) (answer_in M r budget)
      × (ws ≡ over 0 (report_in M r budget) xs)
  reported budget xs o j end {ys} h a b d n k =
      let l = gathered_leaves (result_in M r) e (result_few M r) in
      let f = result_few M r in
      let m = leaves_short (result_in M r) in
      let i : j ≡ 10 + length (leaves_bytes (result_in M r)) = b.0 ∙ ap (λ x. 10 + length (leaves_bytes x)) l in
      let w = report_written_lem xs (outcome_number (halted_with r)) (budget - r.rest) (result_in M r) (cells_in M r) j end (a ∙ ap (λ x. over 0 (head_bytes (outcome_number x) (budget - r.rest)) xs) h) (b.1 ∙ ap (λ x. over 10 (leaves_bytes x) ys) l) i d.1 d.0 (omega (arith, d.2)) in
      (rw (h, w.0, e), w.1)
