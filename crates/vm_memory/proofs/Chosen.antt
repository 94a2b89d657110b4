-- A choice whose test is known.
use mathlib.Core.Path.{◌≡◌, ap}
use mathlib.Core.Bool.{Bool, true, false}
use Rattle.calculus.specs.Combinators.{choose}

pub chosen_yes : {A : Type 0} (b : Bool) (x y : A) → b ≡ true → choose b x y ≡ x
chosen_yes b x y e = ap (λ (t : Bool). choose t x y) e

pub chosen_no : {A : Type 0} (b : Bool) (x y : A) → b ≡ false → choose b x y ≡ y
chosen_no b x y e = ap (λ (t : Bool). choose t x y) e
