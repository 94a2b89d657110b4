-- Card 8: of the advice that a mark triggers, the high ones and their order do not depend on the low ones between them.
use Prim.Native.Nat.{ℕ}
use mathlib.Core.Path.{◌≡◌, refl, sym, ap, ◌∙◌}
use mathlib.Core.Bool.{Bool, false}
use mathlib.Core.List.{List, [], ◌∷◌, ◌++◌, reverse}
use Rattle.calculus.specs.Combinators.{choose, filtered}
use Rattle.calculus.specs.Syntax.{Dom}
use Rattle.calculus.specs.State.{Advice}
use Rattle.calculus.specs.Compose.{member, matching, triggered_by}
use Rattle.calculus.proofs.Filtered.{filtered_swap, filtered_reverse}
use Rattle.calculus_noninterference.specs.Observe.{high_of}

module _ (hi : Dom → Bool) {B : Type 0} where
  -- The high ones of some advice.
  abbrev high : List (Advice B) → List (Advice B)
  high x = high_of hi (λ a. a.dom) x

  high_filtered : (x : List (Advice B)) → high x ≡ filtered (λ a. hi a.dom) x
  unfolding high_of
  high_filtered [] = refl
  high_filtered (a ∷ x) = ap (λ y. choose (hi a.dom) (a ∷ y) y) (high_filtered x)

  -- The high ones that are triggered are those that would be if only they were installed, in the same order.
  pub high_order : (l : ℕ) (x : List (Advice B)) → high (triggered_by l x) ≡ triggered_by l (high x)
  high_order l x =
      high_filtered (triggered_by l x)
      ∙ filtered_swap (λ a. hi a.dom) (λ a. member l a.labels) (reverse x)
      ∙ ap (matching l) (filtered_reverse (λ a. hi a.dom) x ∙ ap reverse (sym (high_filtered x)))

  without_low : (x y : List (Advice B)) (w : Advice B) → hi w.dom ≡ false → high (x ++ (w ∷ y)) ≡ high (x ++ y)
  unfolding high_of
  without_low [] y w f = rw f
  without_low (a ∷ x) y w f = ap (λ z. choose (hi a.dom) (a ∷ z) z) (without_low x y w f)

  -- "A low watch between two high advices leaves these two in their order": installed after x and before y, it changes nothing of the high ones that are triggered.
  pub low_between : (l : ℕ) (x y : List (Advice B)) (w : Advice B) → hi w.dom ≡ false → high (triggered_by l (x ++ (w ∷ y))) ≡ high (triggered_by l (x ++ y))
  low_between l x y w f = high_order l (x ++ (w ∷ y)) ∙ ap (triggered_by l) (without_low x y w f) ∙ sym (high_order l (x ++ y))
