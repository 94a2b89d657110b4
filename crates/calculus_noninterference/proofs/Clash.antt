-- Contradictions.
use mathlib.Core.Path.{◌≡◌, refl, sym, ◌∙◌}
use mathlib.Core.Bool.{Bool, true, false, true≢false}
use mathlib.Core.Option.{none, some}
use Rattle.laws.proofs.Lists.{none_some}

-- A truth is not both.
pub clash : {b : Bool} {X : Type 0} → b ≡ true → b ≡ false → X
clash p q = absurd (true≢false (sym p ∙ q))

-- What is not true is false.
pub not_so : (b : Bool) → (b ≡ true → ⊥) → b ≡ false
not_so true f = absurd (f refl)
not_so false f = refl

-- Nothing is not something.
pub no_some : {A X : Type 0} {a : A} → none ≡ some a → X
no_some p = absurd (none_some p)
