-- The cells' records: each, and end to end.
use Prim.Native.Nat.{ℕ, zero, suc, ◌+◌, ◌%◌, ◌≤◌}
use native.Mathlib.Omega.{arith}
use native.Mathlib.Nat.{add-zero}
use native.Mathlib.Numerals.{add-one}
use mathlib.Core.Path.{◌≡◌, sym, ap, ap₂, ◌∙◌}
use mathlib.Core.Bool.{Bool, true, false}
use mathlib.Core.List.{List, [], ◌∷◌, ◌++◌}
use mathlib.Core.Option.{none, some}
use lib.ListN.{length, length-append}
use lib.Dec.{leb}
use borrow.Author.Tests.{le-leb}
use Rattle.calculus.specs.Combinators.{choose}
use Rattle.calculus.specs.Report.{CellReport}
use Rattle.image.specs.Limits.{domain_limit}
use Rattle.base_bytes.specs.Bytes.{over}
use Rattle.base_bytes.proofs.Over.{onward, over_nothing}
use Rattle.report.specs.Records.{records_bytes}
use Rattle.report.specs.Written.{leaves_in, cell_record, cell_bytes, cells_bytes}
use Rattle.report.specs.Fits.{FewLeaves}
use Rattle.report.proofs.Lengths.{records_last, held_short}
use Rattle.vm_machine.specs.Memory.{Memory, cell_at, cell_note}
use Rattle.vm_results.specs.declared.Gathered.{Gathered}
use Rattle.vm_results.specs.Gathered.{gathered}
use Rattle.vm_results.specs.Ended.{plain_leaves_in, cell_in_of, cells_from}
use Rattle.vm_results.proofs.Gathering.{gathered_leaves, plain_few}

-- What is written, and the offset past it, of equal cells.
pub cell_written : (xs : List ℕ) (o : ℕ) {c d : CellReport} {r : ℕ} {ys : List ℕ} → c ≡ d → (r ≡ o + length (cell_bytes c)) × (ys ≡ over o (cell_bytes c) xs)
    → (r ≡ o + length (cell_bytes d)) × (ys ≡ over o (cell_bytes d) xs)
cell_written xs o e p = (p.0 ∙ ap (λ c. o + length (cell_bytes c)) e, p.1 ∙ ap (λ c. over o (cell_bytes c) xs) e)

module _ (M : Memory) (i w note d : ℕ) (a : w ≡ cell_at M i) (b : note ≡ cell_note w) (e : d ≡ note % domain_limit) where
  is_note : note ≡ cell_note (cell_at M i)
  is_note = b ∙ ap cell_note a

  is_domain : d ≡ cell_note (cell_at M i) % domain_limit
  is_domain = e ∙ ap (λ n. n % domain_limit) is_note

  abbrev held_if : Bool → CellReport
  held_if q = record { dom = cell_note (cell_at M i) % domain_limit; held = choose q (some (plain_leaves_in M (cell_at M i))) none }

  pub plain_cell : (g : Gathered) → domain_limit ≤ note → g ≡ gathered (plain_leaves_in M w)
      → record { dom = d; held = some (leaves_in g.count g.slots) } ≡ cell_in_of M i
  plain_cell g h f =
      let l = gathered_leaves (plain_leaves_in M w) f (plain_few M w) ∙ ap (plain_leaves_in M) a in
      ap₂ {C = CellReport} (λ n x. record { dom = n; held = some x }) is_domain l ∙ ap held_if (sym (ap (leb domain_limit) (sym is_note) ∙ le-leb domain_limit note h))

module _ (M : Memory) where
  few_held : (i : ℕ) (b : Bool) → FewLeaves (choose b (some (plain_leaves_in M (cell_at M i))) none)
  few_held i true = plain_few M (cell_at M i)
  few_held i false = tt

  cell_short : (i : ℕ) → length (cell_bytes (cell_in_of M i)) ≤ 70
  cell_short i = held_short (cell_in_of M i).dom (cell_in_of M i).held (few_held i (leb domain_limit (cell_note (cell_at M i))))

  cells_last : (n i : ℕ) → cells_from M (suc n) i ≡ cells_from M n i ++ (cell_in_of M (n + i) ∷ [])
  unfolding cells_from
  cells_last zero i = let e : 0 + i ≡ i = omega arith in rw e
  cells_last (suc n) i = let e : suc n + i ≡ n + suc i = omega arith in rw e (ap (cell_in_of M i ∷◌) (cells_last n (suc i)))

  cells_more : (n : ℕ) → cells_bytes (cells_from M (n + 1) 0) ≡ cells_bytes (cells_from M n 0) ++ cell_bytes (cell_in_of M n)
  cells_more n =
      ap (λ k. cells_bytes (cells_from M k 0)) (add-one n)
      ∙ ap cells_bytes (cells_last n 0 ∙ ap (λ k. cells_from M n 0 ++ (cell_in_of M k ∷ [])) (add-zero n))
      ∙ records_last cell_record (cells_from M n 0) (cell_in_of M n)

  -- No cell is written yet.
  pub no_cells : (xs : List ℕ) (o : ℕ) → (o ≡ o + length (cells_bytes (cells_from M 0 0))) × (xs ≡ over o (cells_bytes (cells_from M 0 0)) xs)
  unfolding cells_from records_bytes
  no_cells xs o = (omega arith, sym (over_nothing xs o))

  -- One more cell right after those written.
  pub cells_step : (xs : List ℕ) (o i j : ℕ) {r : ℕ} {ys zs : List ℕ} → j ≡ o + length (cells_bytes (cells_from M i 0)) → ys ≡ over o (cells_bytes (cells_from M i 0)) xs
      → r ≡ j + length (cell_bytes (cell_in_of M i)) → zs ≡ over j (cell_bytes (cell_in_of M i)) ys → j + 70 ≤ length xs
      → (r ≡ o + length (cells_bytes (cells_from M (i + 1) 0))) × (zs ≡ over o (cells_bytes (cells_from M (i + 1) 0)) xs) × (r ≤ j + 70)
  cells_step xs o i j e a k b l =
      let s = cell_short i in
      let n = length-append (cells_bytes (cells_from M i 0)) (cell_bytes (cell_in_of M i)) in
      rw (cells_more i) (omega arith, onward (cells_bytes (cells_from M i 0)) (cell_bytes (cell_in_of M i)) xs o j a b e (omega arith), omega arith)
