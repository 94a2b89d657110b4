-- One run goes on alone: advice of a low domain that only one run has, and the body of a lower to a low domain.
use mathlib.Core.Path.{◌≡◌, refl, sym, ap, ◌∙◌}
use mathlib.Core.Bool.{Bool, true, false}
use mathlib.Core.List.{[]}
use mathlib.Core.Option.{Option, none, some}
use Rattle.calculus.specs.declared.Outcome.{Outcome}
use Rattle.calculus.specs.Combinators.{cases}
use Rattle.calculus.specs.Syntax.{Dom, Ty, Val, Tm, as_value, val, seq, lower}
use Rattle.calculus.specs.State.{State, Given}
use Rattle.calculus.specs.Answer.{Answer, reduct, carry, within, by_capacity, with}
use Rattle.calculus.specs.Place.{Place, at, deeper, framed}
use Rattle.calculus.specs.Reduce.{reduce_seq, reduce_lower}
use Rattle.calculus.specs.Step.{step}
use Rattle.calculus.specs.Typing.{Policy, StoreTyping, ⊢◌⦂◌ as ValTy, ◌⨾◌⊢◌⦂◌ as TmTy, is_lower}
use Rattle.calculus_safety.proofs.StoreFits.{StateFits}
use Rattle.calculus_safety.proofs.Values.{val_ty}
use Rattle.calculus_noninterference.specs.Observe.{Highs, lacks_mainline}
use Rattle.calculus_noninterference.specs.NoLowTakedown.{NoLowTakedown}
use Rattle.calculus_noninterference.proofs.Clash.{clash, no_some}
use Rattle.calculus_noninterference.proofs.Related.{World, grows_refl, Inert, inert_lower, inert_unit, Mute, RelT, l_low, v_unit, r_val, r_lower, r_skip_left, r_skip_right, rel_t_mono, RelPlace, RelS}
use Rattle.calculus_noninterference.proofs.Confined.{Effect, e_stay, Confined, c_go, c_full, c_halt, c_wrong, confined}
use Rattle.calculus_noninterference.proofs.NoLowTakedown.{NoLowTakedownState, NoLowTakedownKept}
use Rattle.calculus_noninterference.proofs.NoLowTakedownStep.{Steady, steady_same, NoLowTakedownAnswer, made_no_low_takedown, no_low_takedown_step}
use Rattle.calculus_noninterference.proofs.States.{Later, effect_left, effect_right}
use Rattle.calculus_noninterference.proofs.Paired.{NoStep, Short, n_full, n_halt, n_wrong, cases_none, cases_some, Two, two_some, two_framed, Sim, s_both, s_left, s_right, s_none_left, s_none_right}
use Rattle.calculus_noninterference.proofs.Reductions.{two_stay}

-- A body that is no value is not that of a stripped program.
not_mute : (b : Bool) {e : Tm} → Mute b e → as_value e ≡ none → b ≡ false
not_mute true u q = no_some (sym q ∙ ap as_value (u refl))
not_mute false u q = refl

module _ (hi : Dom → Bool) where
  -- What is known of the left's code where the right is stripped, said by Z (card 13): the step of a term at p over s is that of calm code.
  abbrev StepsWithoutLowTakedown : Type 0 → Dom → State → Answer State Tm → Type 0
  StepsWithoutLowTakedown Z p s a = Z → NoLowTakedownAnswer hi p s a

  made_steady : {Z : Type 0} {p : Dom} {s t : State} {e : Tm} → StepsWithoutLowTakedown Z p s (reduct t e) → Z → Steady hi p s t
  made_steady k z = (made_no_low_takedown hi (k z)).1

  module _ (Z : Type 0) where
    -- A step over s of an inert term before the rest e: none, or one at a low domain that leaves an inert term there, or the one past it.
    pub data Skips (s : State) (e : Tm) : Answer State Tm → Type 0 where
      k_none : {a : Answer State Tm} → NoStep a → (Short a → ⊥) → Skips s e a
      k_step : {p : Dom} {t : State} {h : Tm} → hi p ≡ false → Effect hi p s t → (Z → Steady hi p s t) → Inert hi h → Skips s e (reduct t (seq h e))
      k_past : Skips s e (reduct s e)

    skips_body : {p : Dom} {s : State} {e : Tm} {a : Answer State Tm} → hi p ≡ false → Confined hi p s a → StepsWithoutLowTakedown Z p s a → Skips s e (within (λ x. seq x e) (within (lower p) a))
    unfolding carry
    skips_body f (c_go m) k = k_step f m (made_steady k) (inert_lower f)
    skips_body f (c_full x) k = k_none n_full (λ y. clash y (x f))
    skips_body f c_halt k = k_none n_halt (λ y. y)
    skips_body f c_wrong k = k_none n_wrong (λ y. y)

    skips_done : {D : Policy} {Σ : StoreTyping} {p : Dom} (s : State) (e : Tm) {v : Val} (b : Bool) (o : Outcome) → lacks_mainline o ≡ false → hi p ≡ false → ValTy D Σ v Ty.unit → Skips s e (within (λ x. seq x e) (by_capacity b o (reduce_lower s v)))
    unfolding carry by_capacity with
    skips_done s e true o n f ValTy.v_unit = k_step f (e_stay hi) (λ z. steady_same hi s) inert_unit
    skips_done s e false o n f ValTy.v_unit = k_none n_full (λ y. clash y n)

    skips_unit : (s : State) (e : Tm) (b : Bool) (o : Outcome) → lacks_mainline o ≡ false → Skips s e (by_capacity b o (reduce_seq s e Val.unit))
    unfolding by_capacity with
    skips_unit s e true o n = k_past
    skips_unit s e false o n = k_none n_full (λ y. clash y n)

  lower_body : {D : Policy} {Σ : StoreTyping} {c p : Dom} {e : Tm} {u : Ty} → TmTy D Σ [] c (lower p e) u → TmTy D Σ [] p e Ty.unit
  lower_body (is_lower l h) = h

  lower_no_low_takedown : (c p : Dom) (e : Tm) → NoLowTakedown hi c (lower p e) → NoLowTakedown hi p e
  unfolding NoLowTakedown
  lower_no_low_takedown c p e x = x

  module _ (Z : Type 0) {D : Policy} (H : Highs D hi) {Σ : StoreTyping} (s : State) (K : StateFits D Σ s) (S : Z → NoLowTakedownState hi s) (G : Given) where
    pub skips : {h : Tm} {c : Dom} → Inert hi h → TmTy D Σ [] c h Ty.unit → (Z → NoLowTakedown hi c h) → (P : Place) → (Z → NoLowTakedownKept hi P.kept) → (e : Tm) → Skips Z s e (step (seq h e) G (at c P) s)
    unfolding step
    skips {c} (inert_lower {p} {e = b} f) T C P k e = rw (cases_none (λ v. framed (at c P) (reduce_seq s e v)) (λ n. within (λ x. seq x e) (step (lower p b) G (at c (deeper P)) s)) refl) (pick (as_value b) refl)
      where
        done : Val → Answer State Tm
        done v = framed (at c (deeper P)) (reduce_lower s v)

        onward : Unit {0} → Answer State Tm
        onward n = within (lower p) (step b G (at p (deeper (deeper P))) s)

        pick : (x : Option Val) → as_value b ≡ x → Skips Z s e (within (λ x. seq x e) (cases (as_value b) done onward))
        pick none q = rw (cases_none done onward q) (skips_body Z f (confined hi H s K G (lower_body T) (deeper (deeper P))) (λ z. no_low_takedown_step hi H s (S z) G (lower_body T) (lower_no_low_takedown c p b (C z)) (deeper (deeper P)) (k z)))
        pick (some v) q = rw (cases_some done onward q) (skips_done Z s e _ _ refl f (val_ty (lower_body T) q))
    skips {c} inert_unit T C P k e = rw (cases_some {x = some Val.unit} {v = Val.unit} (λ v. framed (at c P) (reduce_seq s e v)) (λ n. within (λ x. seq x e) (step (val Val.unit) G (at c (deeper P)) s)) refl) (skips_unit Z s e _ _ refl)

  module _ {W : World} {s s' : State} (R : RelS hi W s s') where
    pub skip_left : {h e e' : Tm} {a : Answer State Tm} (a' : Answer State Tm) → Skips (W.stripped ≡ true) s e a → RelT hi W e e' → Sim hi W s s' (seq h e) e' a a'
    skip_left a' (k_none n x) r = s_none_left refl n x
    skip_left a' (k_step f m k i) r = let l : Later hi W _ s' = effect_left hi R f m k in s_left refl refl l.grows l.rel (r_skip_left i (rel_t_mono hi r l.grows))
    skip_left a' k_past r = s_left refl refl (grows_refl W) R r

    pub skip_right : W.stripped ≡ false → {h e e' : Tm} (a : Answer State Tm) {a' : Answer State Tm} → Skips (W.stripped ≡ true) s' e' a' → RelT hi W e e' → Sim hi W s s' e (seq h e') a a'
    skip_right z a (k_none n x) r = s_none_right z refl n
    skip_right z a (k_step f m k i) r = let l : Later hi W s _ = effect_right hi R z f m in s_right z refl refl l.grows l.rel (r_skip_right (sym l.grows.same ∙ z) i (rel_t_mono hi r l.grows))
    skip_right z a k_past r = s_right z refl refl (grows_refl W) R r

    body_left : {p : Dom} {e e' : Tm} {a : Answer State Tm} (a' : Answer State Tm) → Mute W.stripped e' → hi p ≡ false → Confined hi p s a → StepsWithoutLowTakedown (W.stripped ≡ true) p s a → Sim hi W s s' (lower p e) (lower p e') (within (lower p) a) a'
    unfolding carry
    body_left a' u f (c_go m) k = let l : Later hi W _ s' = effect_left hi R f m (made_steady k) in s_left refl refl l.grows l.rel (r_lower (l_low f (λ z. u (l.grows.same ∙ z))))
    body_left a' u f (c_full x) k = s_none_left refl n_full (λ y. clash y (x f))
    body_left a' u f c_halt k = s_none_left refl n_halt (λ y. y)
    body_left a' u f c_wrong k = s_none_left refl n_wrong (λ y. y)

    body_right : W.stripped ≡ false → {p : Dom} {e e' : Tm} (a : Answer State Tm) {a' : Answer State Tm} → hi p ≡ false → Confined hi p s' a' → Sim hi W s s' (lower p e) (lower p e') a (within (lower p) a')
    unfolding carry
    body_right z a f (c_go m) = let l : Later hi W s _ = effect_right hi R z f m in s_right z refl refl l.grows l.rel (r_lower (l_low f (λ t. clash (l.grows.same ∙ t) z)))
    body_right z a f (c_full x) = s_none_right z refl n_full
    body_right z a f c_halt = s_none_right z refl n_halt
    body_right z a f c_wrong = s_none_right z refl n_wrong

    both_done : {D : Policy} {Σ Σ' : StoreTyping} {v v' : Val} → ValTy D Σ v Ty.unit → ValTy D Σ' v' Ty.unit → Two hi W (reduce_lower s v) (reduce_lower s' v')
    both_done ValTy.v_unit ValTy.v_unit = two_some hi _ _ (two_stay hi R (r_val v_unit))

    module _ {D : Policy} (H : Highs D hi) {Σ Σ' : StoreTyping} (K : StateFits D Σ s) (K' : StateFits D Σ' s') (S : W.stripped ≡ true → NoLowTakedownState hi s) (G G' : Given) where
      -- A lower to a low domain: first the left's body goes on to its end, then the right's, then both leave it.
      pub sim_low : {p : Dom} (c : Dom) {e e' : Tm} → hi p ≡ false → Mute W.stripped e' → TmTy D Σ [] p e Ty.unit → TmTy D Σ' [] p e' Ty.unit → (W.stripped ≡ true → NoLowTakedown hi p e) → (P P' : Place) → RelPlace hi W P P' → Sim hi W s s' (lower p e) (lower p e') (step (lower p e) G (at c P) s) (step (lower p e') G' (at c P') s')
      unfolding step
      sim_low {p} c {e} {e'} f u T T' C P P' Q = pick (as_value e) refl (as_value e') refl
        where
          done : Place → State → Val → Answer State Tm
          done Q t v = framed (at c Q) (reduce_lower t v)

          onward : Tm → Given → Place → State → Unit {0} → Answer State Tm
          onward b J Q t n = within (lower p) (step b J (at p (deeper Q)) t)

          pick : (x : Option Val) → as_value e ≡ x → (x' : Option Val) → as_value e' ≡ x' → Sim hi W s s' (lower p e) (lower p e') (cases (as_value e) (done P s) (onward e G P s)) (cases (as_value e') (done P' s') (onward e' G' P' s'))
          pick none q x' q' = rw (cases_none (done P s) (onward e G P s) q) (body_left _ u f (confined hi H s K G T (deeper P)) (λ z. no_low_takedown_step hi H s (S z) G T (C z) (deeper P) (Q.no_low_takedown z)))
          pick (some v) q none q' = rw (cases_none (done P' s') (onward e' G' P' s') q') (body_right (not_mute W.stripped u q') _ f (confined hi H s' K' G' T' (deeper P')))
          pick (some v) q (some v') q' = rw (cases_some (done P s) (onward e G P s) q, cases_some (done P' s') (onward e' G' P' s') q') (s_both refl refl (two_framed hi Q (both_done (val_ty T q) (val_ty T' q'))))
