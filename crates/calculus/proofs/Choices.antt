-- What holds of both sides of a choice holds of what is chosen.
use mathlib.Core.Path.{◌≡◌, refl}
use mathlib.Core.Bool.{Bool, true, false}
use Rattle.calculus.specs.Combinators.{choose}

pub either : {A : Type 0} (P : A → Type 0) (c : Bool) {x y : A} → P x → P y → P (choose c x y)
either P true h k = h
either P false h k = k

-- Each side where the test comes to it.
pub by_choice : {A : Type 0} (P : A → Type 0) (c : Bool) {x y : A} → (c ≡ true → P x) → (c ≡ false → P y) → P (choose c x y)
by_choice P true f g = f refl
by_choice P false f g = g refl
