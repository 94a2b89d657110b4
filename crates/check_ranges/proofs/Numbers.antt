-- Laws of the tests on numbers: what a length that fits tells, and the first test that fails.
use Prim.Native.Nat.{ℕ, ◌+◌, ◌-◌, ◌*◌, ◌≤◌}
use native.Mathlib.Omega.{arith}
use mathlib.Core.Path.{◌≡◌, sym, ap, ◌∙◌}
use mathlib.Core.Bool.{Bool, true, false}
use mathlib.Core.List.{List, [], ◌∷◌}
use mathlib.Core.Option.{none, some}
use lib.Dec.{eqb, leb}
use Rattle.image.specs.declared.Refusal.{Refusal}
use Rattle.laws.specs.Tests.{first_fault}
use Rattle.laws.proofs.Booleans.{le_of, eq_of}
use Rattle.laws.proofs.Tests.{each}
use Rattle.calculus.specs.Combinators.{choose}
use Rattle.read_records.specs.Codes.{group_of, last_of, first_of, times_in}
use Rattle.check_ranges.specs.Numbers.{length_fits, Held}

-- A record of the right length holds its kind's known fields.
fits_one : (t : Bool) (m n : ℕ) → choose t (leb m n) (eqb n m) ≡ true → m ≤ n
fits_one true m n h = le_of h
fits_one false m n h = let e : n ≡ m = eq_of h in omega arith

pub fits_size : (x n : ℕ) → length_fits x n ≡ true → 4 + 2 * (first_of x + (times_in x (n - 4) * group_of x + last_of x)) ≤ n
fits_size x n h = fits_one (eqb (group_of x) 0) _ n (each _ h).1.1.0

-- Where there is a group, it has nothing else.
pub fits_exact : (x n : ℕ) → eqb (group_of x) 0 ≡ false → length_fits x n ≡ true → n ≡ 4 + 2 * (first_of x + (times_in x (n - 4) * group_of x + last_of x))
fits_exact x n e h =
    let m : ℕ = 4 + 2 * (first_of x + (times_in x (n - 4) * group_of x + last_of x)) in
    eq_of (ap (λ t. choose t (leb m n) (eqb n m)) (sym e) ∙ (each _ h).1.1.0)

pub fits_held : (x n : ℕ) → length_fits x (n + 4) ≡ true → Held x n
fits_held x n h =
    let e : n + 4 - 4 ≡ n = omega arith in
    let z = rw e at (fits_size x (n + 4) h) in
    omega arith

pub first_held : (x y n : ℕ) → x ≡ y → Held x n → 2 * first_of y ≤ n
first_held x y n e h = rw (← e) (omega arith)

-- A test that a function answers, and whose answer a branch goes by.
pub yes_of : (r t : Bool) → r ≡ t → r ≡ true → t ≡ true
yes_of r t e h = sym e ∙ h

pub no_of : (r t : Bool) → r ≡ t → r ≡ false → t ≡ false
no_of r t e h = sym e ∙ h

-- 4 to 7: the first that fails.
module _ (a b c d : Bool) where
  abbrev pub four : List (Refusal × Bool)
  four = (Refusal.WrongLength, a) ∷ (Refusal.SectionOrder, b) ∷ (Refusal.TooManyRecords, c) ∷ (Refusal.FieldRange, d) ∷ []

  pub fault4 : a ≡ false → some Refusal.WrongLength ≡ first_fault four
  unfolding first_fault
  fault4 h = rw h

  pub fault5 : a ≡ true → b ≡ false → some Refusal.SectionOrder ≡ first_fault four
  unfolding first_fault
  fault5 h i = rw (h, i)

  pub fault6 : a ≡ true → b ≡ true → c ≡ false → some Refusal.TooManyRecords ≡ first_fault four
  unfolding first_fault
  fault6 h i j = rw (h, i, j)

  pub fault7 : a ≡ true → b ≡ true → c ≡ true → d ≡ false → some Refusal.FieldRange ≡ first_fault four
  unfolding first_fault
  fault7 h i j k = rw (h, i, j, k)

  pub no_fault : a ≡ true → b ≡ true → c ≡ true → d ≡ true → none ≡ first_fault four
  unfolding first_fault
  no_fault h i j k = rw (h, i, j, k)
