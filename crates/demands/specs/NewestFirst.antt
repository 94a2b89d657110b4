-- Card 8 of document 02, of what a mark picks: "Matching advice at one mark runs newest first. … Figure 5 is compared over the reversed advice list. A low watch between two high advices leaves these two in their order."
-- The last holds of what a mark picks from any installed advice. Of whole calls it is demand 3, where a low body installs the low watch; the crate demands_examples, proofs/NewestFirstExample.antt, has two such calls.
use Rattle.std.specs.Prelude.{ℕ, ◌≡◌, Bool, false, List, ◌∷◌, ◌++◌, reverse}
use Rattle.std.proofs.Math.Option.{some}
use Rattle.std.proofs.Math.ListN.{get_elem?}
use Rattle.calculus.specs.Syntax.{Dom, Ty, Val, Tm, mark}
use Rattle.calculus.specs.State.{Advice, State, Given, advice_bindings}
use Rattle.calculus.specs.Place.{Place}
use Rattle.calculus.specs.Answer.{reduct, spend}
use Rattle.calculus.specs.Compose.{matching, triggered_by, composed}
use Rattle.calculus.specs.Reduce.{reduce2}
use Rattle.calculus_noninterference.specs.Observe.{high_of}

-- The high ones of some advice, in order.
abbrev pub high_advice : (Dom → Bool) → List (Advice Tm) → List (Advice Tm)
high_advice high x = high_of high (λ a. a.dom) x

pub record Card8 : Type 0 where
  -- the step of a mark with a label that is there: figure 5, which takes the matching advice in the order of its list, over the installed advice reversed
  pub figure5 :
      (G : Given) (P : Place) (s : State) (t : Ty) (l : ℕ) (v : Val) (p : Dom) → get_elem? s.labels l ≡ some p
      → reduce2 G P s mark t (Val.label l) v ≡ spend (advice_bindings (matching l (reverse s.advices))) s (λ s'. reduct s' (composed v (matching l (reverse s.advices))))
  -- what is picked is what matches, in the order of installation reversed
  pub newest : (l : ℕ) (x : List (Advice Tm)) → triggered_by l x ≡ reverse (matching l x)
  -- of what is picked, the high ones are those picked from the high ones alone
  pub order : (high : Dom → Bool) (l : ℕ) (x : List (Advice Tm)) → high_advice high (triggered_by l x) ≡ triggered_by l (high_advice high x)
  -- a low watch w, installed after x and before y, changes nothing of them
  pub between : (high : Dom → Bool) (l : ℕ) (x y : List (Advice Tm)) (w : Advice Tm) → high w.dom ≡ false → high_advice high (triggered_by l (x ++ (w ∷ y))) ≡ high_advice high (triggered_by l (x ++ y))
