-- Two runs of related programs agree on what is seen from the high domains.
use Prim.Native.Nat.{ℕ, zero, suc, ◌+◌, ◌<◌, ◌≤◌}
use native.Mathlib.Omega.{arith}
use mathlib.Core.Path.{◌≡◌, refl, sym, ◌∙◌, ap, ap₂}
use mathlib.Core.Logic.{◌⊎◌, inl, inr}
use mathlib.Core.Bool.{Bool, true, false}
use mathlib.Core.List.{[], List, ◌∷◌, map}
use mathlib.Core.Option.{Option, none, some}
use Rattle.calculus.specs.Syntax.{Dom, Ty, Val, Tm, as_value}
use Rattle.calculus.specs.State.{State, Given, fresh, Cell}
use Rattle.calculus.specs.Answer.{Answer, reduct, halt}
use Rattle.calculus.specs.Place.{top}
use Rattle.calculus.specs.Step.{step}
use Rattle.calculus.specs.Plain.{is_plain, leaf_count}
use Rattle.calculus.specs.Run.{done, Ended, ended, run}
use Rattle.calculus.specs.Typing.{Policy, StoreTyping, no_store, ⊢◌⦂◌ as ValTy, ◌⨾◌⊢◌⦂◌ as TmTy}
use Rattle.laws.proofs.Lists.{Prefix, prefix_refl, prefix_trans, All.all_nil, All2.all2_nil, All, All.all_cons}
use Rattle.calculus.specs.Accepted.{Transitive}
use Rattle.calculus_safety.proofs.StoreFits.{StateFits, fits_fresh}
use Rattle.calculus_safety.proofs.Values.{val_ty}
use Rattle.calculus_safety.proofs.Safety.{preservation}
use Rattle.calculus.specs.Combinators.{choose}
use Rattle.calculus_noninterference.specs.Observe.{Highs, high_cells, ends_short, shown, high_of}
use Rattle.calculus_noninterference.specs.NoLowTakedown.{NoLowTakedown}
use Rattle.calculus_noninterference.proofs.Clash.{clash, no_some}
use Rattle.calculus_noninterference.proofs.Quotas.{no_more_refl}
use Rattle.calculus_noninterference.proofs.NoLowTakedown.{NoLowTakedownState, no_low_takedown_fresh}
use Rattle.calculus_noninterference.proofs.NoLowTakedownStep.{made_no_low_takedown, no_low_takedown_step}
use Rattle.calculus_noninterference.proofs.Interleave.{i_nil, Side, i_both, i_left, i_right}
use Rattle.calculus_noninterference.proofs.Related.{World, no_world, Grows, RelV, RelT, RelS, v_unit, v_truth, v_number, v_pair, RelCell, Cells}
use Rattle.calculus_noninterference.proofs.Confined.{Confined, c_go, c_full, c_halt, c_wrong, confined}
use Rattle.calculus_noninterference.proofs.Paired.{n_full, n_halt, n_wrong, Short, two_short, Two, two_go, none_left, none_right, Sim, s_values, s_both, s_left, s_right, s_none_left, s_none_right}
use Rattle.calculus_noninterference.proofs.Simulation.{sim}
use Rattle.calculus_noninterference.proofs.Traces.{high_events, events_same, effect_events}
use Rattle.calculus_noninterference.proofs.FirstStep.{run_value, run_go, Valueless, run_spent, run_none}
use Rattle.calculus_noninterference.proofs.Store.{PlainCell, plain_cells}

-- Related values of a plain type are equal, so what is shown of the high cells of related states is equal.
-- The parts of a plain pair are plain.
pair_leaves : (a b : Ty) {k : ℕ} → leaf_count (Ty.pair a b) ≡ some k → ((m : ℕ) × (leaf_count a ≡ some m)) × ((n : ℕ) × (leaf_count b ≡ some n))
pair_leaves a b {k} p = pick (leaf_count a) refl (leaf_count b) refl
  where
    pick : (x : Option ℕ) → leaf_count a ≡ x → (y : Option ℕ) → leaf_count b ≡ y → ((m : ℕ) × (leaf_count a ≡ some m)) × ((n : ℕ) × (leaf_count b ≡ some n))
    pick none q y q' = no_some (rw q at p)
    pick (some m) q none q' = no_some (rw (q, q') at p)
    pick (some m) q (some n) q' = ((m, q), (n, q'))

plain_leaves_lem : (a : Ty) → is_plain a ≡ true → (n : ℕ) × (leaf_count a ≡ some n)
plain_leaves_lem a p = pick (leaf_count a) refl
  where
    pick : (x : Option ℕ) → leaf_count a ≡ x → (n : ℕ) × (leaf_count a ≡ some n)
    pick none q = clash refl (sym (rw q at p))
    pick (some n) q = (n, q)

module _ {D : Policy} {hi : Dom → Bool} {Σ : StoreTyping} {W : World} where
  leaves_same : {v v' : Val} {a : Ty} {n : ℕ} → ValTy D Σ v a → leaf_count a ≡ some n → RelV hi W v v' → v ≡ v'
  leaves_same ValTy.v_unit p v_unit = refl
  leaves_same ValTy.v_truth p v_truth = refl
  leaves_same ValTy.v_number p v_number = refl
  leaves_same (ValTy.v_pair {a} {b} x y) p (v_pair r q) = let u = leaves_same x (pair_leaves a b p).0.1 r in let w = leaves_same y (pair_leaves a b p).1.1 q in cc
  leaves_same (ValTy.v_fun x) p r = no_some p
  leaves_same (ValTy.v_label x) p r = no_some p
  leaves_same (ValTy.v_cell x) p r = no_some p
  leaves_same (ValTy.v_pointcut x) p r = no_some p
  leaves_same (ValTy.v_advice x y z) p r = no_some p
  leaves_same (ValTy.v_object x) p r = no_some p
  leaves_same ValTy.v_bottom p r = no_some p
  leaves_same (ValTy.v_kept x y z) p r = no_some p

  pub plain_same : {v v' : Val} {a : Ty} → is_plain a ≡ true → ValTy D Σ v a → RelV hi W v v' → v ≡ v'
  plain_same {a} p h r = leaves_same h (plain_leaves_lem a p).1 r

  held_same : {v v' : Val} (b : Bool) → (b ≡ true → (a : Ty) × (is_plain a ≡ true) × ValTy D Σ v a) → RelV hi W v v' → choose b (some v) none ≡ choose b (some v') none
  held_same true f r = ap some (plain_same (f refl).1 (f refl).2 r)
  held_same false f r = refl

  shown_same : {a b : Cell Val} → PlainCell D Σ a → RelCell hi W a b → hi a.dom ≡ true → shown a ≡ shown b
  shown_same {a} {b} f h o =
      let v : choose a.plain (some a.held) none ≡ choose b.plain (some b.held) none = held_same a.plain f (h.held o) ∙ ap (λ z. choose z (some b.held) none) h.same_plain in
      λ i. record { dom = h.same_dom i; value = v i }

module _ (D : Policy) (hi : Dom → Bool) (Σ : StoreTyping) where
  cells_same : {W : World} {w : List Side} {x y : List (Cell Val)} → Cells hi W w x y → All (PlainCell D Σ) x → map shown (high_of hi (λ a. a.dom) x) ≡ map shown (high_of hi (λ a. a.dom) y)
  unfolding high_of
  cells_same i_nil f = refl
  cells_same (i_both {a} {b} {x} {y} h k) (all_cons q f) = pick (hi a.dom) refl (cells_same k f)
    where
      pick : (o : Bool) → hi a.dom ≡ o → map shown (high_of hi (λ a. a.dom) x) ≡ map shown (high_of hi (λ a. a.dom) y) → map shown (high_of hi (λ a. a.dom) (a ∷ x)) ≡ map shown (high_of hi (λ a. a.dom) (b ∷ y))
      pick true e ih = let l : hi b.dom ≡ true = rw h.same_dom at e in rw (e, l) (ap₂ ◌∷◌ (shown_same {Σ = Σ} q h e) ih)
      pick false e ih = let l : hi b.dom ≡ false = rw h.same_dom at e in rw (e, l) ih
  cells_same (i_left l k) (all_cons q f) = rw (l, cells_same k f)
  cells_same (i_right l k) f = rw (l.0, cells_same k f)

  -- What is shown of the high cells of related states is equal.
  pub shown_cells : {W : World} {s s' : State} → RelS hi W s s' → StateFits D Σ s → map shown (high_of hi (λ a. a.dom) s.cells) ≡ map shown (high_of hi (λ a. a.dom) s'.cells)
  shown_cells R K = cells_same R.cells (plain_cells D K.cells)

-- The high events of one run begin those of the other; where the first ends because domain 0 lacks room, the second has no value and no more high events; where both are done, equal results, if the left's type u is plain, equal high cells, and equal counts of domain 0.
pub record Agree (hi : Dom → Bool) (u : Ty) (E E' : Ended) : Type 0 where
  pub events : Prefix (high_events hi E.state.trace) (high_events hi E'.state.trace) ⊎ Prefix (high_events hi E'.state.trace) (high_events hi E.state.trace)
  pub capacity : ends_short E.end ≡ true → ((v : Val) → E'.end ≡ done v → ⊥) × Prefix (high_events hi E'.state.trace) (high_events hi E.state.trace)
  pub result : (v v' : Val) → E.end ≡ done v → E'.end ≡ done v' → is_plain u ≡ true → v ≡ v'
  pub cells : (v v' : Val) → E.end ≡ done v → E'.end ≡ done v' → high_cells hi E ≡ high_cells hi E'
  pub mainline : (v v' : Val) → E.end ≡ done v → E'.end ≡ done v' → E.state.used.mainline ≡ E'.state.used.mainline

module _ {D : Policy} {hi : Dom → Bool} (H : Highs D hi) (trans : Transitive D) where
  -- A program in the middle of its run: typed, over a state that fits.
  pub record Typed (t : Ty) (s : State) (e : Tm) : Type 0 where
    pub Σ : StoreTyping
    pub fits : StateFits D Σ s
    pub typed : TmTy D Σ [] 0 e t

  typed_step : (G : Given) {t : Ty} {s s' : State} {e e' : Tm} → Typed t s e → step e G top s ≡ reduct s' e' → Typed t s' e'
  typed_step G {s} {s'} {e'} T q = let x = preservation D T.Σ trans G T.typed top all_nil s T.fits s' e' q in record { Σ = x.0; fits = x.2; typed = x.3 }

  valueless_events : {s : State} {a : Answer State Tm} {E : Ended} → Valueless s a E → Prefix (high_events hi s.trace) (high_events hi E.state.trace)
  valueless_events S = rw S.over (prefix_refl _)

  -- The high events of a run only become more.
  abbrev More : ℕ → Given → Ty → Type 0
  More n G t = (k : ℕ) (s : State) (e : Tm) → Typed t s e → Prefix (high_events hi s.trace) (high_events hi (run n G k s e).state.trace)

  more_step : (n : ℕ) (G : Given) (t : Ty) → More n G t → (k : ℕ) (s : State) (e : Tm) → Typed t s e → as_value e ≡ none → {a : Answer State Tm} → step e G top s ≡ a → Confined hi 0 s a → Prefix (high_events hi s.trace) (high_events hi (run (suc n) G k s e).state.trace)
  more_step n G t ih k s e T p q (c_go m) = rw (run_go n G k s e p q) (prefix_trans (effect_events hi m) (ih (suc k) _ _ (typed_step G T q)))
  more_step n G t ih k s e T p q (c_full x) = valueless_events (run_none (suc n) G k s e _ p q n_full)
  more_step n G t ih k s e T p q c_halt = valueless_events (run_none (suc n) G k s e _ p q n_halt)
  more_step n G t ih k s e T p q c_wrong = valueless_events (run_none (suc n) G k s e _ p q n_wrong)

  more : (n : ℕ) (G : Given) (t : Ty) → More n G t
  more zero G t k s e T = pick (as_value e) refl
    where
      pick : (x : Option Val) → as_value e ≡ x → Prefix (high_events hi s.trace) (high_events hi (run zero G k s e).state.trace)
      pick none p = valueless_events (run_spent G k s e p)
      pick (some v) p = rw (run_value zero G k s e p) (prefix_refl _)
  more (suc n) G t k s e T = pick (more n G t) (as_value e) refl
    where
      pick : More n G t → (x : Option Val) → as_value e ≡ x → Prefix (high_events hi s.trace) (high_events hi (run (suc n) G k s e).state.trace)
      pick ih none p = more_step n G t ih k s e T p refl (confined hi H s T.fits G T.typed top)
      pick ih (some v) p = rw (run_value (suc n) G k s e p) (prefix_refl _)

  -- The same without takedowns at low domains (card 13).
  pub record NoLowTakedownRun (s : State) (e : Tm) : Type 0 where
    pub state : NoLowTakedownState hi s
    pub term : NoLowTakedown hi 0 e

  no_low_takedown_next : (G : Given) {t : Ty} {s s' : State} {e e' : Tm} → Typed t s e → NoLowTakedownRun s e → step e G top s ≡ reduct s' e' → NoLowTakedownRun s' e'
  no_low_takedown_next G {s} T C q = let x = made_no_low_takedown hi (rw q at (no_low_takedown_step hi H s C.state G T.typed C.term top all_nil)) in record { state = x.0; term = x.2 }

  -- b: the right's program is the left's, stripped (card 13); then its log is no shorter, and the left's code is calm.
  module _ (b : Bool) (t t' : Ty) (G G' : Given) (frame : G.frame ≡ G'.frame) (log : b ≡ true → G.log_length ≤ G'.log_length) where
    -- Two programs in the middle of their runs, related.
    pub record Pair (s s' : State) (e e' : Tm) : Type 0 where
      pub world : World
      pub mode : world.stripped ≡ b
      pub states : RelS hi world s s'
      pub terms : RelT hi world e e'
      pub left : Typed t s e
      pub right : Typed t' s' e'
      pub no_low_takedown : b ≡ true → NoLowTakedownRun s e

    -- What comes next of the two.
    pub next : {s s' : State} {e e' : Tm} (P : Pair s s' e e') → Sim hi P.world s s' e e' (step e G top s) (step e' G' top s')
    next P =
        let stripped : P.world.stripped ≡ true → b ≡ true = λ z. sym P.mode ∙ z in
        sim hi H G G' frame (λ z. log (stripped z)) P.states P.left.fits P.right.fits (λ z. (P.no_low_takedown (stripped z)).state)
        P.terms 0 H.mainline P.left.typed P.right.typed (λ z. (P.no_low_takedown (stripped z)).term) top top (record { kept = all2_nil; depth = λ z. omega arith; no_low_takedown = λ z. all_nil })

    -- The pair after a step of both, of the left alone, of the right alone.
    pub after_both : {s s' u u' : State} {e e' f f' : Tm} (P : Pair s s' e e') {X : World} → Grows P.world X → step e G top s ≡ reduct u f → step e' G' top s' ≡ reduct u' f' → RelS hi X u u' → RelT hi X f f' → Pair u u' f f'
    after_both P x q q' R T = record { world = _; mode = sym x.same ∙ P.mode; states = R; terms = T; left = typed_step G P.left q; right = typed_step G' P.right q'; no_low_takedown = λ z. no_low_takedown_next G P.left (P.no_low_takedown z) q }

    pub after_left : {s s' u : State} {e e' f : Tm} (P : Pair s s' e e') {X : World} → Grows P.world X → step e G top s ≡ reduct u f → RelS hi X u s' → RelT hi X f e' → Pair u s' f e'
    after_left P x q R T = record { world = _; mode = sym x.same ∙ P.mode; states = R; terms = T; left = typed_step G P.left q; right = P.right; no_low_takedown = λ z. no_low_takedown_next G P.left (P.no_low_takedown z) q }

    after_right : {s s' u : State} {e e' f : Tm} (P : Pair s s' e e') {X : World} → Grows P.world X → step e' G' top s' ≡ reduct u f → RelS hi X s u → RelT hi X e f → Pair s u e f
    after_right P x q R T = record { world = _; mode = sym x.same ∙ P.mode; states = R; terms = T; left = P.left; right = typed_step G' P.right q; no_low_takedown = P.no_low_takedown }

    abbrev Goal : ℕ → ℕ → Type 0
    Goal n n' = (k k' : ℕ) (s s' : State) (e e' : Tm) → Pair s s' e e' → Agree hi t (run n G k s e) (run n' G' k' s' e')

    -- One run ends without a value where the other still runs.
    left_ends : {a a' : Answer State Tm} {E : Ended} (n' k' : ℕ) {s s' : State} {e e' : Tm} → Pair s s' e e' → Valueless s a E → (Short a → Valueless s' a' (run n' G' k' s' e')) → Agree hi t E (run n' G' k' s' e')
    left_ends n' k' {s'} {e'} P S f = record {
      capacity = λ x. let S' = f (S.short x) in (S'.no_value, rw (S.over, S'.over, events_same hi P.states.trace) (prefix_refl _));
      events = inl (rw (S.over, events_same hi P.states.trace) (more n' G' t' k' s' e' P.right));
      result = λ v v' p q. absurd (S.no_value v p);
      cells = λ v v' p q. absurd (S.no_value v p);
      mainline = λ v v' p q. absurd (S.no_value v p);
    }

    right_ends : {a' : Answer State Tm} {E' : Ended} (n k : ℕ) {s s' : State} {e e' : Tm} → Pair s s' e e' → Valueless s' a' E' → Agree hi t (run n G k s e) E'
    right_ends n k {s} {e} P S = record {
      capacity = λ x. (S.no_value, rw (S.over, sym (events_same hi P.states.trace)) (more n G t k s e P.left));
      events = inr (rw (S.over, sym (events_same hi P.states.trace)) (more n G t k s e P.left));
      result = λ v v' p q. absurd (S.no_value v' q);
      cells = λ v v' p q. absurd (S.no_value v' q);
      mainline = λ v v' p q. absurd (S.no_value v' q);
    }

    pub both_end : {v v' : Val} (k k' : ℕ) {s s' : State} {e e' : Tm} → (P : Pair s s' e e') → RelV hi P.world v v' → ValTy D P.left.Σ v t → Agree hi t (ended (done v) k s) (ended (done v') k' s')
    both_end k k' P r h = record {
      capacity = λ x. clash x refl;
      events = inl (rw (events_same hi P.states.trace) (prefix_refl _));
      result = λ w w' p q l. (let z = plain_same l h r in cc);
      cells = λ w w' p q. shown_cells D hi P.left.Σ P.states P.left.fits;
      mainline = λ w w' p q. P.states.used.mainline;
    }

    abbrev Before : ℕ → ℕ → Type 0
    Before n n' = (j j' : ℕ) → j + j' < n + n' → Goal j j'

    step_both : (n n' : ℕ) → Before n n' → (k k' : ℕ) {s s' : State} {e e' : Tm} (P : Pair s s' e e') {a a' : Answer State Tm} → as_value e ≡ none → as_value e' ≡ none → step e G top s ≡ a → step e' G' top s' ≡ a' → Two hi P.world a a' → Agree hi t (run n G k s e) (run n' G' k' s' e')
    step_both zero n' ih k k' {s} {s'} {e} {e'} P p p' q q' w = left_ends n' k' P (run_spent G k s e p) (λ x. run_none n' G' k' s' e' _ p' q' (two_short hi w (rw q at x)))
    step_both (suc n) zero ih k k' {s'} {e'} P p p' q q' w = right_ends (suc n) k P (run_spent G' k' s' e' p')
    step_both (suc n) (suc n') ih k k' {s} {s'} {e} {e'} P p p' q q' (two_go x R T) = rw (run_go n G k s e p q, run_go n' G' k' s' e' p' q') (ih n n' (omega arith) (suc k) (suc k') _ _ _ _ (after_both P x q q' R T))
    step_both (suc n) (suc n') ih k k' {s} {s'} {e} {e'} P p p' q q' (none_left f x) = left_ends (suc n') k' P (run_none (suc n) G k s e _ p q f) (λ y. run_none (suc n') G' k' s' e' _ p' q' (x y))
    step_both (suc n) (suc n') ih k k' {s'} {e'} P p p' q q' (none_right z f) = right_ends (suc n) k P (run_none (suc n') G' k' s' e' _ p' q' f)

    step_left : (n n' : ℕ) → Before n n' → (k k' : ℕ) {s s' : State} {e e' : Tm} (P : Pair s s' e e') {X : World} {u : State} {f : Tm} → Grows P.world X → as_value e ≡ none → step e G top s ≡ reduct u f → RelS hi X u s' → RelT hi X f e' → Agree hi t (run n G k s e) (run n' G' k' s' e')
    step_left zero n' ih k k' {s} {e} P x p q R T = left_ends {a' = halt} n' k' P (run_spent G k s e p) (λ y. absurd (rw q at y))
    step_left (suc n) n' ih k k' {s} {e} P x p q R T = rw (run_go n G k s e p q) (ih n n' (omega arith) (suc k) k' _ _ _ _ (after_left P x q R T))

    step_right : (n n' : ℕ) → Before n n' → (k k' : ℕ) {s s' : State} {e e' : Tm} (P : Pair s s' e e') {X : World} {u : State} {f : Tm} → Grows P.world X → as_value e' ≡ none → step e' G' top s' ≡ reduct u f → RelS hi X s u → RelT hi X e f → Agree hi t (run n G k s e) (run n' G' k' s' e')
    step_right n zero ih k k' {s'} {e'} P x p q R T = right_ends n k P (run_spent G' k' s' e' p)
    step_right n (suc n') ih k k' {s'} {e'} P x p q R T = rw (run_go n' G' k' s' e' p q) (ih n n' (omega arith) k (suc k') _ _ _ _ (after_right P x q R T))

    by_step : (n n' : ℕ) → Before n n' → (k k' : ℕ) {s s' : State} {e e' : Tm} (P : Pair s s' e e') {a a' : Answer State Tm} → step e G top s ≡ a → step e' G' top s' ≡ a' → Sim hi P.world s s' e e' a a' → Agree hi t (run n G k s e) (run n' G' k' s' e')
    by_step n n' ih k k' {s} {s'} {e} {e'} P q q' (s_values p p' r) = rw (run_value n G k s e p, run_value n' G' k' s' e' p') (both_end k k' P r (val_ty P.left.typed p))
    by_step n n' ih k k' P q q' (s_both p p' w) = step_both n n' ih k k' P p p' q q' w
    by_step n n' ih k k' P q q' (s_left p y x R T) = step_left n n' ih k k' P x p (q ∙ y) R T
    by_step n n' ih k k' P q q' (s_right z p y x R T) = step_right n n' ih k k' P x p (q' ∙ y) R T
    by_step n n' ih k k' {s} {e} P q q' (s_none_left p f x) = left_ends {a' = halt} n' k' P (run_none n G k s e _ p q f) (λ y. absurd (x y))
    by_step n n' ih k k' {s'} {e'} P q q' (s_none_right z p f) = right_ends n k P (run_none n' G' k' s' e' _ p q' f)

    -- By induction on the two budgets together.
    agree_below : (m n n' : ℕ) → n + n' < m → Goal n n'
    agree_below zero n n' h k k' s s' e e' P = absurd (omega arith)
    agree_below (suc m) n n' h k k' s s' e e' P = by_step n n' (λ j j' l. agree_below m j j' (omega arith)) k k' P refl refl (next P)

    -- Two related programs, from the start.
    pub start : (e e' : Tm) → TmTy D no_store [] 0 e t → TmTy D no_store [] 0 e' t' → RelT hi (no_world b) e e' → (b ≡ true → NoLowTakedown hi 0 e) → Pair fresh fresh e e'
    start e e' T T' r C = record {
      world = no_world b;
      mode = refl;
      states = record { cells = i_nil; labels = i_nil; advice_order = []; advices = i_nil; event_order = []; trace = i_nil; used = record { mainline = refl; others = λ z. no_more_refl _ } };
      terms = r;
      left = record { Σ = no_store; fits = fits_fresh D; typed = T };
      right = record { Σ = no_store; fits = fits_fresh D; typed = T' };
      no_low_takedown = λ z. record { state = no_low_takedown_fresh hi; term = C z };
    }

    pub agree : {s s' : State} {e e' : Tm} → Pair s s' e e' → (n n' : ℕ) → Agree hi t (run n G 0 s e) (run n' G' 0 s' e')
    agree {s} {s'} {e} {e'} P n n' = agree_below (suc (n + n')) n n' (omega arith) 0 0 s s' e e' P
