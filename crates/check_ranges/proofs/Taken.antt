-- What the answers to the tests of a term's fields tell, and 4 to 7 of a term.
use Prim.Native.Nat.{ℕ, ◌<◌}
use native.Mathlib.Omega.{arith}
use mathlib.Core.Path.{◌≡◌, sym, ap, ◌∙◌}
use mathlib.Core.Bool.{Bool, true, ◌&&◌}
use lib.Dec.{ltb}
use Rattle.image.specs.Limits.{term_limit}
use Rattle.laws.proofs.Booleans.{and_l, and_r, lt_of}
use Rattle.read_records.specs.declared.numbers.Counts.{Counts}
use Rattle.read_records.specs.Codes.{section_of}
use Rattle.check_ranges.specs.Numbers.{order_fits, capacity_fits}

-- An answer is yes: both of its parts are; the child is there.
pub both_told : (a b : Bool) {r : Bool} → r ≡ (a && b) → r ≡ true → (a ≡ true) × (b ≡ true)
both_told a b e h = (and_l a b (sym e ∙ h), and_r a b (sym e ∙ h))

pub child_told : {r : Bool} {e v n m : ℕ} → r ≡ ltb v n → r ≡ true → e ≡ v → n < m → e < m
child_told {v = v} {n = n} q h i l = let z : v < n = lt_of (sym q ∙ h) in omega arith

-- 5 refuses no term; 6 leaves room for it.
module _ (x : ℕ) (n : Counts) (e : section_of x ≡ 3) where
  pub term_ordered : order_fits (section_of x) n ≡ true
  term_ordered = ap (λ s. order_fits s n) e

  pub term_capacity : capacity_fits (section_of x) n ≡ true → n.terms < term_limit
  term_capacity h = lt_of (ap (λ s. capacity_fits s n) (sym e) ∙ h)
