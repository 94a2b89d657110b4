-- Whether a test holds of some number below a bound, as it is found by going over the numbers in order.
use Rattle.std.proofs.Common.{◌≡◌, ℕ, zero, suc, ◌≤◌, ◌<◌, Bool, refl, sym, ap, ◌∙◌, arith, add-one, zero-add, length, take}
use Rattle.std.specs.List.{list_any, range_with_len}
use Rattle.std.proofs.lemmas.List.Folds.{list_any_more}
use Rattle.std.proofs.lemmas.List.FromFn.{length-range_with_len, get_or-range_with_len}
use Rattle.std.proofs.Math.Seq.{take-length}
use Rattle.laws.specs.Tests.{any_below}

any_first : (n : ℕ) (p : ℕ → Bool) (i : ℕ) → i ≤ n → list_any p (take i (range_with_len 0 n)) ≡ any_below i p
unfolding any_below
any_first n p zero h = refl
any_first n p (suc i) h =
    let l : i < length (range_with_len 0 n) = rw length-range_with_len (omega arith) in
    rw (← add-one, list_any_more p (range_with_len 0 n) i 0 l, any_first n p i (omega arith), get_or-range_with_len 0 n i 0 (omega arith), zero-add) refl

pub any_in_range : (n : ℕ) (p : ℕ → Bool) → list_any p (range_with_len 0 n) ≡ any_below n p
any_in_range n p = ap (λ xs. list_any p xs) (sym (take-length (range_with_len 0 n))) ∙ ap (λ m. list_any p (take m (range_with_len 0 n))) (length-range_with_len 0 n) ∙ any_first n p n (omega arith)
