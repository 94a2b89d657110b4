-- Laws of what a whole call answers and leaves: its outcome's number, bytes written at the front of lent memory, and a work area with its first bytes cleared.
use Prim.Native.Nat.{ℕ, ◌%◌, ◌≤◌}
use native.Mathlib.Omega.{arith}
use mathlib.Core.Path.{◌≡◌, refl, sym, ap, ◌∙◌}
use mathlib.Core.List.{List, ◌++◌}
use lib.ListN.{length, take, drop, replicate, length-append, length-drop, length-replicate}
use lib.Seq.{take_at, take-append_seam, drop-append_seam}
use Rattle.calculus.proofs.EveryOutcome.{at_outcome}
use Rattle.calculus.specs.declared.Outcome.{Outcome}
use Rattle.calculus.specs.Report.{outcome_number}
use Rattle.base_bytes.specs.Bytes.{over, cleared}
use Rattle.base_bytes.proofs.Over.{over_front, length_over}
use Rattle.report.specs.Fits.{short_size}

-- An outcome's number fits its field of the report.
pub outcome_fits : (o : Outcome) → outcome_number o % short_size ≡ outcome_number o
outcome_fits = at_outcome (λ o. outcome_number o % short_size) outcome_number refl

-- Bytes written at the front.
pub take_front : (bs xs : List ℕ) → take (length bs) (over 0 bs xs) ≡ bs
take_front bs xs = ap (take (length bs)) (over_front bs xs) ∙ take-append_seam bs (drop (length bs) xs)

pub drop_front : (bs xs : List ℕ) → drop (length bs) (over 0 bs xs) ≡ drop (length bs) xs
drop_front bs xs = ap (drop (length bs)) (over_front bs xs) ∙ drop-append_seam bs (drop (length bs) xs)

pub length_front : (bs xs : List ℕ) → length bs ≤ length xs → length (over 0 bs xs) ≡ length xs
length_front bs xs h = length_over bs xs 0 (omega arith)

-- The first n bytes cleared.
pub cleared_zero : (n : ℕ) (xs : List ℕ) → take n (cleared n xs) ≡ replicate n 0
unfolding cleared
cleared_zero n xs = take_at (replicate n 0) (drop n xs) n (length-replicate n 0)

pub cleared_past : (n : ℕ) (xs : List ℕ) → drop n (cleared n xs) ≡ drop n xs
unfolding cleared
cleared_past n xs = ap (λ m. drop m (replicate n 0 ++ drop n xs)) (sym (length-replicate n 0)) ∙ drop-append_seam (replicate n 0) (drop n xs)

pub length_cleared : (n : ℕ) (xs : List ℕ) → n ≤ length xs → length (cleared n xs) ≡ length xs
unfolding cleared
length_cleared n xs h =
    let a = length-append (replicate n 0) (drop n xs) in
    let r = length-replicate {A = ℕ} n 0 in
    let d = length-drop n xs in
    omega arith
