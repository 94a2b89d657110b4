-- What a mark picks (card 8).
use Prim.Native.Nat.{ℕ}
use mathlib.Core.Path.{◌≡◌}
use mathlib.Core.List.{List, reverse}
use mathlib.Core.Option.{some}
use lib.ListN.{get_elem?}
use Rattle.calculus.specs.Syntax.{Dom, Ty, Val, Tm, mark}
use Rattle.calculus.specs.State.{Advice, State, Given, advice_bindings}
use Rattle.calculus.specs.Place.{Place}
use Rattle.calculus.specs.Answer.{reduct, with, spend}
use Rattle.calculus.specs.Compose.{member, matching, triggered_by, composed}
use Rattle.calculus.specs.Reduce.{reduce2}
use Rattle.calculus.proofs.Filtered.{filtered_reverse}
use Rattle.calculus_noninterference.proofs.Newest.{high_order, low_between}
use Rattle.demands.specs.NewestFirst.{Card8}

newest : (l : ℕ) (x : List (Advice Tm)) → triggered_by l x ≡ reverse (matching l x)
newest l x = filtered_reverse (λ a. member l a.labels) x

figure5 : (G : Given) (P : Place) (s : State) (t : Ty) (l : ℕ) (v : Val) (p : Dom) → get_elem? s.labels l ≡ some p
    → reduce2 G P s mark t (Val.label l) v ≡ spend (advice_bindings (matching l (reverse s.advices))) s (λ s'. reduct s' (composed v (matching l (reverse s.advices))))
unfolding with
figure5 G P s t l v p there = rw there

pub card8 : Card8
card8 = record { figure5 = figure5; newest = newest; order = λ high l x. high_order high l x; between = λ high l x y w f. low_between high l x y w f }
