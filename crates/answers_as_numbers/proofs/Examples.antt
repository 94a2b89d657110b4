-- A recording of two frames, worked: five bytes, of which each call has two, and the last belongs to none.
use Prim.Native.Nat.{ℕ}
use mathlib.Core.Path.{◌≡◌, refl}
use mathlib.Core.List.{List, [], ◌∷◌}
use Rattle.call_spec.specs.Calls.{called}
use Rattle.answers_as_numbers.specs.Recordings.{part, Recording, call_over}

abbrev frames : List ℕ
frames = 1 ∷ 2 ∷ 3 ∷ 4 ∷ 5 ∷ []

-- Every call runs over its own frame.
module _ (b : List ℕ) (budget : ℕ) (R : Recording) where
  pub first_frame : call_over b frames budget 2 0 R ≡ called b (1 ∷ 2 ∷ []) budget (part 2 0 R.logs) (part 2 0 R.reports) R.work
  first_frame = refl

  pub second_frame_lem : call_over b frames budget 2 1 R ≡ called b (3 ∷ 4 ∷ []) budget (part 2 1 R.logs) (part 2 1 R.reports) R.work
  second_frame_lem = refl
