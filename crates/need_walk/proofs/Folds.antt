-- What the children of a term take, put together child by child: a sum, and the dearest of some.
use Prim.Native.Nat.{ℕ, suc, ◌+◌}
use native.Mathlib.Omega.{arith}
use mathlib.Core.Path.{◌≡◌, refl, sym, ap, ◌∙◌}
use mathlib.Core.List.{List, [], ◌∷◌, ◌++◌}
use lib.ListN.{length}
use Rattle.calculus.specs.Syntax.{Val, Tm, Tms, val, end, more}
use Rattle.calculus_needs.specs.Numbers.{Numbers, none, ◌⊕◌, dearer}
use Rattle.calculus_needs.proofs.Sums.{same, none_left, none_right, plus_assoc}
use Rattle.image.specs.Program.{Program, nth, behind, subtrees, to_tm, to_tms}

-- The dearer of a number and none.
pub dearer_left_none : (m : Numbers) → dearer none m ≡ m
unfolding dearer
dearer_left_none m = same (omega arith) (omega arith) (omega arith) (omega arith) (omega arith) (omega arith) (omega arith) (omega arith) (omega arith) (omega arith) (omega arith)

pub dearer_right_none : (m : Numbers) → dearer m none ≡ m
unfolding dearer
dearer_right_none m = same (omega arith) (omega arith) (omega arith) (omega arith) (omega arith) (omega arith) (omega arith) (omega arith) (omega arith) (omega arith) (omega arith)

pub dearer_assoc : (l m n : Numbers) → dearer (dearer l m) n ≡ dearer l (dearer m n)
unfolding dearer
dearer_assoc l m n = same (omega arith) (omega arith) (omega arith) (omega arith) (omega arith) (omega arith) (omega arith) (omega arith) (omega arith) (omega arith) (omega arith)

-- Two ways to put numbers together, each associative, with none as its unit.
pub record Joins : Type 0 where
  pub join : Numbers → Numbers → Numbers
  pub unit_left : (m : Numbers) → join none m ≡ m
  pub unit_right : (m : Numbers) → join m none ≡ m
  pub assoc : (l m n : Numbers) → join (join l m) n ≡ join l (join m n)

abbrev pub sums : Joins
sums = record { join = ◌⊕◌; unit_left = none_left; unit_right = none_right; assoc = plus_assoc }

abbrev pub choices : Joins
choices = record { join = dearer; unit_left = dearer_left_none; unit_right = dearer_right_none; assoc = dearer_assoc }

module _ (J : Joins) where
  -- Of terms, the first being child i.
  unfoldable pub joined : (ℕ → Tm → Numbers) → ℕ → Tms → Numbers
  joined f i end = none
  joined f i (more e es) = J.join (f i e) (joined f (suc i) es)

  pub joined_cong : (f g : ℕ → Tm → Numbers) → ((i : ℕ) (e : Tm) → f i e ≡ g i e) → (i : ℕ) (es : Tms) → joined f i es ≡ joined g i es
  unfolding joined
  joined_cong f g h i end = refl
  joined_cong f g h i (more e es) = ap (λ x. J.join x (joined f (suc i) es)) (h i e) ∙ ap (λ x. J.join (g i e) x) (joined_cong f g h (suc i) es)

  -- Where the children behind the third take nothing.
  pub joined_none : (f : ℕ → Tm → Numbers) → ((i : ℕ) (e : Tm) → f (suc (suc (suc i))) e ≡ none) → (i : ℕ) (es : Tms) → joined f (suc (suc (suc i))) es ≡ none
  unfolding joined
  joined_none f h i end = refl
  joined_none f h i (more e es) = ap (λ x. J.join (f (suc (suc (suc i))) e) x) (joined_none f h (suc i) es) ∙ (J.unit_right (f (suc (suc (suc i))) e) ∙ h i e)

  pub joined_nothing : (f : ℕ → Tm → Numbers) → ((i : ℕ) (e : Tm) → f i e ≡ none) → (i : ℕ) (es : Tms) → joined f i es ≡ none
  unfolding joined
  joined_nothing f h i end = refl
  joined_nothing f h i (more e es) = ap (λ x. J.join (f i e) x) (joined_nothing f h (suc i) es) ∙ (J.unit_right (f i e) ∙ h i e)

  -- The first three, and the rest.
  pub joined_split : (f : ℕ → Tm → Numbers) → ((i : ℕ) → f i (val Val.unit) ≡ none) → (es : Tms)
      → joined f 0 es ≡ J.join (f 0 (nth es 0)) (J.join (f 1 (nth es 1)) (J.join (f 2 (nth es 2)) (joined f 3 (behind 3 es))))
  unfolding joined
  joined_split f u end = rw (u 0, u 1, u 2, J.unit_left none, J.unit_left none, J.unit_left none) refl
  joined_split f u (more e end) = rw (u 1, u 2, J.unit_left none, J.unit_left none) refl
  joined_split f u (more e (more e' end)) = rw (u 2, J.unit_left none) refl
  joined_split f u (more e (more e' (more e'' es))) = refl

  -- Of numbers of terms.
  unfoldable pub joined_at_of : (ℕ → ℕ → Numbers) → ℕ → List ℕ → Numbers
  joined_at_of f i [] = none
  joined_at_of f i (e ∷ es) = J.join (f i e) (joined_at_of f (suc i) es)

  pub joined_at : (f : ℕ → Tm → Numbers) (g : ℕ → Program) (i : ℕ) (es : List ℕ) → joined f i (to_tms (subtrees g es)) ≡ joined_at_of (λ j e. f j (to_tm (g e))) i es
  unfolding joined joined_at_of to_tms
  joined_at f g i [] = refl
  joined_at f g i (e ∷ es) = ap (λ x. J.join (f i (to_tm (g e))) x) (joined_at f g (suc i) es)

  pub joined_snoc : (f : ℕ → ℕ → Numbers) (i : ℕ) (es : List ℕ) (e m : ℕ) → m ≡ i + length es → joined_at_of f i (es ++ (e ∷ [])) ≡ J.join (joined_at_of f i es) (f m e)
  unfolding joined_at_of
  joined_snoc f i [] e m q = let z : i ≡ m = omega arith in J.unit_right (f i e) ∙ (ap (λ j. f j e) z ∙ sym (J.unit_left (f m e)))
  joined_snoc f i (a ∷ es) e m q = ap (λ x. J.join (f i a) x) (joined_snoc f (suc i) es e m (omega arith)) ∙ sym (J.assoc (f i a) (joined_at_of f (suc i) es) (f m e))
