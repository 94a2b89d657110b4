-- The next steps of two related terms, side by side, and the same seen from the terms around them.
use Prim.Native.Nat.{ℕ, ◌-◌, ◌≤◌}
use native.Mathlib.Omega.{arith}
use borrow.Author.Tests.{leb-true, le-leb}
use mathlib.Core.Path.{◌≡◌, refl, ap, ap₂, subst as transp}
use mathlib.Core.Bool.{Bool, true, false}
use mathlib.Core.Option.{Option, none, some}
use lib.Dec.{leb}
use Rattle.calculus.specs.declared.Outcome.{Outcome}
use Rattle.calculus.specs.Limits.{frame_limit, binding_limit, cell_limit, piece_limit}
use Rattle.calculus.specs.Combinators.{cases}
use Rattle.calculus.specs.Syntax.{Dom, Val, Tm, as_value}
use Rattle.calculus.specs.State.{Uses, add_counts, add_uses, State, with_uses}
use Rattle.calculus.specs.Answer.{Answer, reduct, at_capacity, halt, wrong, carry, within, by_capacity, with, spend}
use Rattle.calculus.specs.Place.{Place, framed}
use Rattle.calculus_noninterference.specs.Observe.{lacks_mainline}
use Rattle.calculus_noninterference.proofs.Clash.{clash, not_so}
use Rattle.calculus_noninterference.proofs.Quotas.{no_more_add}
use Rattle.calculus_noninterference.proofs.Related.{World, Grows, RelV, RelT, RelS, SameUse, RelPlace}

-- No step was made.
pub data NoStep : Answer State Tm → Type 0 where
  n_full : {o : Outcome} → NoStep (at_capacity o)
  n_halt : NoStep halt
  n_wrong : NoStep wrong

-- The answer is that domain 0 lacks room (card 9).
abbrev pub Short : Answer State Tm → Type 0
Short (reduct s e) = ⊥
Short (at_capacity o) = lacks_mainline o ≡ true
Short halt = ⊥
Short wrong = ⊥

short_within : (a : Answer State Tm) (k : Tm → Tm) → Short (within k a) → Short a
unfolding carry
short_within (reduct s e) k x = x
short_within (at_capacity o) k x = x
short_within halt k x = x
short_within wrong k x = x

no_step_within : {a : Answer State Tm} (k : Tm → Tm) → NoStep a → NoStep (within k a)
unfolding carry
no_step_within k n_full = n_full
no_step_within k n_halt = n_halt
no_step_within k n_wrong = n_wrong

pub no_step_capacity : {a : Answer State Tm} (b : Bool) (o : Outcome) → NoStep a → NoStep (by_capacity b o a)
unfolding by_capacity
no_step_capacity true o h = h
no_step_capacity false o h = n_full

pub not_short_capacity : (a : Answer State Tm) (b : Bool) (o : Outcome) → lacks_mainline o ≡ false → (Short a → ⊥) → Short (by_capacity b o a) → ⊥
unfolding by_capacity
not_short_capacity a true o n h x = h x
not_short_capacity a false o n h x = clash x n

pub cases_none : {A : Type 0} {x : Option A} (f : A → Answer State Tm) (a : Unit {0} → Answer State Tm) → x ≡ none → cases x f a ≡ a tt
unfolding cases
cases_none f a p = ap (λ x. cases x f a) p

pub cases_some : {A : Type 0} {x : Option A} {v : A} (f : A → Answer State Tm) (a : Unit {0} → Answer State Tm) → x ≡ some v → cases x f a ≡ f v
unfolding cases
cases_some f a p = ap (λ x. cases x f a) p

within_go : {a : Answer State Tm} {s : State} {e : Tm} (k : Tm → Tm) → a ≡ reduct s e → within k a ≡ reduct s (k e)
unfolding carry
within_go k p = ap (λ x. within k x) p

-- Where no more is needed, and no more was used, what was enough is enough.
enough : (L n u n' u' : ℕ) → n' ≤ n → u' ≤ u → leb n (L - u) ≡ true → leb n' (L - u') ≡ true
enough L n u n' u' x y e = let h = leb-true n (L - u) e in le-leb n' (L - u') (omega arith)

add_same : {b : Bool} {m m' n n' : Uses} → SameUse b m m' → SameUse b n n' → SameUse b (add_uses m n) (add_uses m' n')
add_same x y = record { mainline = ap₂ add_counts x.mainline y.mainline; others = λ z. no_more_add (x.others z) (y.others z) }

module _ (hi : Dom → Bool) where
  module _ (W : World) where
    -- The answers to a step of each: if both were made, what they made is related; where domain 0 lacks room in the left, the right makes no step either; a stripped right lacks nothing that the left has (card 13).
    pub data Two : Answer State Tm → Answer State Tm → Type 0 where
      two_go : {X : World} {s s' : State} {e e' : Tm} → Grows W X → RelS hi X s s' → RelT hi X e e' → Two (reduct s e) (reduct s' e')
      none_left : {a a' : Answer State Tm} → NoStep a → (Short a → NoStep a') → Two a a'
      none_right : {a a' : Answer State Tm} → W.stripped ≡ false → NoStep a' → Two a a'

    -- What comes next of e over s and of e' over s', whose next steps are a and a'.
    pub data Sim (s s' : State) (e e' : Tm) (a a' : Answer State Tm) : Type 0 where
      -- both are values
      s_values : {v v' : Val} → as_value e ≡ some v → as_value e' ≡ some v' → RelV hi W v v' → Sim s s' e e' a a'
      -- both make a step
      s_both : as_value e ≡ none → as_value e' ≡ none → Two a a' → Sim s s' e e' a a'
      -- one makes a step that the other does not see; a stripped right makes none alone
      s_left : {X : World} {t : State} {f : Tm} → as_value e ≡ none → a ≡ reduct t f → Grows W X → RelS hi X t s' → RelT hi X f e' → Sim s s' e e' a a'
      s_right : {X : World} {t : State} {f : Tm} → W.stripped ≡ false → as_value e' ≡ none → a' ≡ reduct t f → Grows W X → RelS hi X s t → RelT hi X e f → Sim s s' e e' a a'
      -- one ends here
      s_none_left : as_value e ≡ none → NoStep a → (Short a → ⊥) → Sim s s' e e' a a'
      s_none_right : W.stripped ≡ false → as_value e' ≡ none → NoStep a' → Sim s s' e e' a a'

  module _ {W : World} where
    -- Room that is not domain 0's, which a stripped right has where the left has it; and room that is, of which both have as much.
    pub two_capacity : {a a' : Answer State Tm} (b b' : Bool) (o : Outcome) → lacks_mainline o ≡ false → (W.stripped ≡ true → b ≡ true → b' ≡ true) → Two W a a' → Two W (by_capacity b o a) (by_capacity b' o a')
    unfolding by_capacity
    two_capacity true true o n i t = t
    two_capacity true false o n i t = none_right (not_so W.stripped (λ z. clash (i z refl) refl)) n_full
    two_capacity false b o n i t = none_left n_full (λ x. clash x n)

    pub two_framed : {P P' : Place} {a a' : Answer State Tm} → RelPlace hi W P P' → Two W a a' → Two W (framed P a) (framed P' a')
    two_framed {P} {P'} Q t = two_capacity _ _ _ refl (λ z e. (let l = Q.depth z in let h = leb-true P.depth frame_limit e in le-leb P'.depth frame_limit (omega arith))) t

    two_mainline : {a a' : Answer State Tm} {b b' : Bool} (o : Outcome) → b ≡ b' → Two W a a' → Two W (by_capacity b o a) (by_capacity b' o a')
    unfolding by_capacity
    two_mainline {a} {a'} {b} o e t = transp (λ c. Two W (by_capacity b o a) (by_capacity c o a')) e (pick b)
      where
        pick : (c : Bool) → Two W (by_capacity c o a) (by_capacity c o a')
        pick true = t
        pick false = none_left n_full (λ x. n_full)

    pub two_spend : (s s' : State) (n n' : Uses) (k k' : State → Answer State Tm) → SameUse W.stripped s.used s'.used → SameUse W.stripped n n' → ((u u' : Uses) → SameUse W.stripped u u' → Two W (k (with_uses u s)) (k' (with_uses u' s'))) → Two W (spend n s k) (spend n' s' k')
    unfolding spend
    two_spend s s' n n' k k' o e t =
        two_mainline Outcome.Bindings (ap₂ (λ x y. leb x.bindings (binding_limit - y.bindings)) e.mainline o.mainline)
        (two_mainline Outcome.Cells (ap₂ (λ x y. leb x.cells (cell_limit - y.cells)) e.mainline o.mainline)
        (two_mainline Outcome.Pieces (ap₂ (λ x y. leb x.pieces (piece_limit - y.pieces)) e.mainline o.mainline)
        (two_capacity _ _ _ refl (λ z. enough binding_limit _ _ _ _ (e.others z).bindings (o.others z).bindings)
        (two_capacity _ _ _ refl (λ z. enough cell_limit _ _ _ _ (e.others z).cells (o.others z).cells)
        (two_capacity _ _ _ refl (λ z. enough piece_limit _ _ _ _ (e.others z).pieces (o.others z).pieces) (t _ _ (add_same o e)))))))

    -- Where domain 0 lacks room in the left, the right makes no step.
    pub two_short : {a a' : Answer State Tm} → Two W a a' → Short a → NoStep a'
    two_short (two_go x r t) y = absurd y
    two_short (none_left n x) y = x y
    two_short (none_right z n) y = n

    pub two_some : {A B : Type 0} {a : A} {b : B} (k : A → Answer State Tm) (k' : B → Answer State Tm) → Two W (k a) (k' b) → Two W (with (some a) k) (with (some b) k')
    unfolding with
    two_some k k' t = t

    pub two_found : {A B : Type 0} {o : Option A} {o' : Option B} {a : A} {b : B} (k : A → Answer State Tm) (k' : B → Answer State Tm) → o ≡ some a → o' ≡ some b → Two W (k a) (k' b) → Two W (with o k) (with o' k')
    unfolding with
    two_found k k' e e' t = rw (e, e') t

    pub two_none : {A B : Type 0} (k : A → Answer State Tm) (k' : B → Answer State Tm) → Two W (with none k) (with none k')
    unfolding with
    two_none k k' = none_left n_wrong (λ x. absurd x)

    two_within : {a a' : Answer State Tm} {k k' : Tm → Tm} → ((X : World) (x x' : Tm) → Grows W X → RelT hi X x x' → RelT hi X (k x) (k' x')) → Two W a a' → Two W (within k a) (within k' a')
    unfolding carry
    two_within f (two_go x r t) = two_go x r (f _ _ _ x t)
    two_within {a} {k} {k'} f (none_left n x) = none_left (no_step_within k n) (λ y. no_step_within k' (x (short_within a k y)))
    two_within {k'} f (none_right z n) = none_right z (no_step_within k' n)

    -- An operand's next step, seen from the whole term w: k puts the operand back, among operands that are values; a term that makes no step stays as it is.
    pub lift_in : {s s' : State} {e e' w w' : Tm} {a a' : Answer State Tm} (k k' : Tm → Tm) {f f' : Val → Answer State Tm} → as_value w ≡ none → as_value w' ≡ none
        → ((X : World) (x x' : Tm) → Grows W X → RelT hi X x x' → RelT hi X (k x) (k' x'))
        → ((X : World) (x : Tm) → Grows W X → RelT hi X x e' → RelT hi X (k x) w')
        → ((X : World) (x' : Tm) → Grows W X → RelT hi X e x' → RelT hi X w (k' x'))
        → ((v v' : Val) → as_value e ≡ some v → as_value e' ≡ some v' → RelV hi W v v' → Sim W s s' w w' (f v) (f' v'))
        → Sim W s s' e e' a a'
        → Sim W s s' w w' (cases (as_value e) f (λ n. within k a)) (cases (as_value e') f' (λ n. within k' a'))
    lift_in k k' p p' g gl gr h (s_values q q' r) = rw (cases_some _ _ q, cases_some _ _ q') (h _ _ q q' r)
    lift_in k k' p p' g gl gr h (s_both q q' t) = rw (cases_none _ _ q, cases_none _ _ q') (s_both p p' (two_within g t))
    lift_in k k' p p' g gl gr h (s_left q y x r t) = rw (cases_none _ _ q) (s_left p (within_go k y) x r (gl _ _ x t))
    lift_in k k' p p' g gl gr h (s_right z q y x r t) = rw (cases_none _ _ q) (s_right z p' (within_go k' y) x r (gr _ _ x t))
    lift_in {a} k k' p p' g gl gr h (s_none_left q n x) = rw (cases_none _ _ q) (s_none_left p (no_step_within k n) (λ y. x (short_within a k y)))
    lift_in k k' p p' g gl gr h (s_none_right z q n) = rw (cases_none _ _ q) (s_none_right z p' (no_step_within k' n))

    -- The same where no operand stands before it, so that the whole terms are k e and k' e'; then the reductions of the whole are looked at.
    pub lift : {s s' : State} {e e' : Tm} {a a' : Answer State Tm} (k k' : Tm → Tm) {f f' : Val → Answer State Tm} → as_value (k e) ≡ none → as_value (k' e') ≡ none
        → ((X : World) (x x' : Tm) → Grows W X → RelT hi X x x' → RelT hi X (k x) (k' x'))
        → ((v v' : Val) → as_value e ≡ some v → as_value e' ≡ some v' → RelV hi W v v' → Sim W s s' (k e) (k' e') (f v) (f' v'))
        → Sim W s s' e e' a a'
        → Sim W s s' (k e) (k' e') (cases (as_value e) f (λ n. within k a)) (cases (as_value e') f' (λ n. within k' a'))
    lift k k' p p' g h r = lift_in k k' p p' g (λ X x w y. g X x _ w y) (λ X x w y. g X _ x w y) h r
