-- An answer that is safe, and the ways in which a step passes an answer on.
use mathlib.Core.Path.{◌≡◌, refl}
use mathlib.Core.Bool.{Bool, true, false}
use mathlib.Core.List.{[]}
use mathlib.Core.Option.{Option, none, some}
use lib.Dec.{T, ltb}
use Rattle.calculus.specs.declared.Outcome.{Outcome}
use Rattle.calculus.specs.Combinators.{cases}
use Rattle.calculus.specs.Syntax.{Dom, Ty, Tm}
use Rattle.calculus.specs.State.{State, Uses, add_uses, with_uses}
use Rattle.calculus.specs.Answer.{Answer, reduct, at_capacity, halt, carry, within, by_capacity, spend}
use Rattle.calculus.specs.Report.{outcome_number}
use Rattle.calculus.specs.Typing.{StoreTyping, Policy, ◌⨾◌⊢◌⦂◌ as TmTy}
use Rattle.calculus_safety.proofs.Extend.{Extends, extends_refl}
use Rattle.calculus_safety.proofs.StoreFits.{StateFits}

-- The outcome of a missing room: not done, spent or aborted (document 01, "A run", numbers 0 to 2).
abbrev pub IsCapacity : Outcome → Type 0
IsCapacity o = T (ltb 2 (outcome_number o))

-- What an option holds, if anything, has a property.
pub data Found {A : Type 0} (R : A → Type 0) : Option A → Type 0 where
  found : {x : A} → R x → Found R (some x)
  nothing : Found R none

module _ (D : Policy) where
  -- The answer to a step from Σ, of a term of type t at c: it is not wrong, and what it made fits a store typing that extends Σ.
  pub data Safe (Σ : StoreTyping) (c : Dom) (t : Ty) : Answer State Tm → Type 0 where
    safe_go : {Σ' : StoreTyping} {s : State} {e : Tm} → Extends Σ Σ' → StateFits D Σ' s → TmTy D Σ' [] c e t → Safe Σ c t (reduct s e)
    safe_full : {o : Outcome} → IsCapacity o → Safe Σ c t (at_capacity o)
    safe_halt : Safe Σ c t halt

  module _ {Σ : StoreTyping} {c : Dom} {t : Ty} where
    -- The store typing stays.
    pub safe_here : (s : State) {e : Tm} → StateFits D Σ s → TmTy D Σ [] c e t → Safe Σ c t (reduct s e)
    safe_here s f h = safe_go (extends_refl Σ) f h

    pub safe_capacity : (b : Bool) (o : Outcome) {r : Answer State Tm} → IsCapacity o → Safe Σ c t r → Safe Σ c t (by_capacity b o r)
    unfolding by_capacity
    safe_capacity true o m h = h
    safe_capacity false o m h = safe_full m

    pub safe_spend : (n : Uses) (s : State) (k : State → Answer State Tm) → Safe Σ c t (k (with_uses (add_uses s.used n) s)) → Safe Σ c t (spend n s k)
    unfolding spend
    safe_spend n s k h = safe_capacity _ _ tt (safe_capacity _ _ tt (safe_capacity _ _ tt (safe_capacity _ _ tt (safe_capacity _ _ tt (safe_capacity _ _ tt h)))))

    pub safe_within : {c' : Dom} {t' : Ty} (k : Tm → Tm) {r : Answer State Tm} → ((Σ' : StoreTyping) → Extends Σ Σ' → (e : Tm) → TmTy D Σ' [] c e t → TmTy D Σ' [] c' (k e) t') → Safe Σ c t r → Safe Σ c' t' (within k r)
    unfolding carry
    safe_within k f (safe_go {Σ'} {e} x s h) = safe_go x s (f Σ' x e h)
    safe_within k f (safe_full m) = safe_full m
    safe_within k f safe_halt = safe_halt

    pub safe_cases : {A : Type 0} {R : A → Type 0} {o : Option A} (k : A → Answer State Tm) (r : Unit {0} → Answer State Tm) → Found R o
        → ((x : A) → R x → Safe Σ c t (k x)) → (o ≡ none → Safe Σ c t (r tt)) → Safe Σ c t (cases o k r)
    unfolding cases
    safe_cases k r (found {x} h) f g = f x h
    safe_cases k r nothing f g = g refl
