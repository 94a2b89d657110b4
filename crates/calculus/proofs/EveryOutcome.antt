-- A fact of every outcome is one computation, over the list of them.
use mathlib.Core.Path.{◌≡◌, refl, ap}
use mathlib.Core.List.{List, [], ◌∷◌, map}
use lib.ListN.{get_or}
use Rattle.calculus.specs.declared.Outcome.{Outcome}
use Rattle.calculus.specs.Report.{outcome_number}

-- In the order of their numbers.
abbrev pub outcomes : List Outcome
outcomes =
    Outcome.Done ∷ Outcome.Spent ∷ Outcome.Aborted ∷ Outcome.Frames ∷ Outcome.Bindings ∷ Outcome.Cells ∷ Outcome.Labels ∷ Outcome.Advice ∷ Outcome.Pieces ∷ Outcome.Log
    ∷ Outcome.OtherBindings ∷ Outcome.OtherCells ∷ Outcome.OtherPieces ∷ []

-- Two functions that agree on all outcomes agree on each.
pub at_outcome : {A : Type 0} (f g : Outcome → A) → map f outcomes ≡ map g outcomes → (o : Outcome) → f o ≡ g o
at_outcome f g h Outcome.Done = ap (λ x. get_or x 0 (f Outcome.Done)) h
at_outcome f g h Outcome.Spent = ap (λ x. get_or x 1 (f Outcome.Done)) h
at_outcome f g h Outcome.Aborted = ap (λ x. get_or x 2 (f Outcome.Done)) h
at_outcome f g h Outcome.Frames = ap (λ x. get_or x 3 (f Outcome.Done)) h
at_outcome f g h Outcome.Bindings = ap (λ x. get_or x 4 (f Outcome.Done)) h
at_outcome f g h Outcome.Cells = ap (λ x. get_or x 5 (f Outcome.Done)) h
at_outcome f g h Outcome.Labels = ap (λ x. get_or x 6 (f Outcome.Done)) h
at_outcome f g h Outcome.Advice = ap (λ x. get_or x 7 (f Outcome.Done)) h
at_outcome f g h Outcome.Pieces = ap (λ x. get_or x 8 (f Outcome.Done)) h
at_outcome f g h Outcome.Log = ap (λ x. get_or x 9 (f Outcome.Done)) h
at_outcome f g h Outcome.OtherBindings = ap (λ x. get_or x 10 (f Outcome.Done)) h
at_outcome f g h Outcome.OtherCells = ap (λ x. get_or x 11 (f Outcome.Done)) h
at_outcome f g h Outcome.OtherPieces = ap (λ x. get_or x 12 (f Outcome.Done)) h

-- The outcome with a number.
pub outcome_at : (o : Outcome) → get_or outcomes (outcome_number o) Outcome.Done ≡ o
outcome_at = at_outcome (λ o. get_or outcomes (outcome_number o) Outcome.Done) (λ o. o) refl
