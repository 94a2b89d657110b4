-- Card 13 for runs of the calculus.
use Prim.Native.Nat.{ℕ, zero, suc, ◌≤◌}
use native.Mathlib.Omega.{arith}
use mathlib.Core.Path.{◌≡◌, refl, ◌∙◌}
use mathlib.Core.Bool.{Bool, true}
use mathlib.Core.Option.{none}
use Rattle.calculus.specs.Syntax.{Dom, Val, Tm, Ty, as_value}
use Rattle.calculus.specs.State.{Given, fresh, State}
use Rattle.calculus.specs.Run.{done, run, Ended, ended}
use Rattle.calculus.specs.Typing.{Policy, ⊢◌⦂◌ as ValTy}
use Rattle.calculus.specs.Accepted.{Transitive, Accepted}
use Rattle.calculus_noninterference.specs.Observe.{Highs, high_cells, NoMore}
use Rattle.calculus_noninterference.specs.NoLowTakedown.{NoLowTakedown}
use Rattle.calculus_noninterference.proofs.Traces.{same_prints, high_events, events_same}
use Rattle.calculus_noninterference.proofs.Runs.{start, Pair, next, after_both, after_left, both_end}
use Rattle.calculus.specs.Answer.{Answer}
use Rattle.calculus.specs.Place.{top}
use Rattle.calculus.specs.Plain.{is_plain}
use Rattle.calculus.specs.Step.{step}
use Rattle.calculus_safety.proofs.Values.{val_ty}
use Rattle.calculus_noninterference.proofs.Clash.{clash}
use Rattle.calculus_noninterference.proofs.Related.{RelV}
use Rattle.calculus_noninterference.proofs.Paired.{Two, two_go, none_left, none_right, Sim, s_values, s_both, s_left, s_right, s_none_left, s_none_right}
use Rattle.calculus_noninterference.proofs.FirstStep.{run_value, run_go, Valueless, run_spent, run_none}
use Rattle.calculus_stripped.specs.Strip.{strip}
use Rattle.calculus_stripped.specs.Shared.{SharesDone}
use Rattle.calculus_stripped.proofs.Typed.{strip_typed}
use Rattle.calculus_stripped.proofs.Related.{strip_rel}

-- Card 13: a full run that is done, and the run of the same program stripped, step by step.
-- What the stripped run E' has of the full run E; t is the full program's type.
pub record Shares (hi : Dom → Bool) (t : Ty) (E E' : Ended) : Type 0 where
  pub value : Val
  pub was_done : E'.end ≡ done value
  pub steps : E'.steps ≤ E.steps
  pub result : (v : Val) → E.end ≡ done v → is_plain t ≡ true → v ≡ value
  pub cells : high_cells hi E ≡ high_cells hi E'
  pub events : high_events hi E.state.trace ≡ high_events hi E'.state.trace
  pub mainline : E.state.used.mainline ≡ E'.state.used.mainline
  pub others : NoMore E.state.used.others E'.state.used.others

-- A run that is done did not end without a value.
no_end : {X : Type 0} {s : State} {a : Answer State Tm} {E : Ended} {v : Val} → Valueless s a E → E.end ≡ done v → X
no_end {v} S p = absurd (S.no_value v p)

module _ {D : Policy} {hi : Dom → Bool} (H : Highs D hi) (trans : Transitive D) (t t' : Ty) (G G' : Given) (frame : G.frame ≡ G'.frame) (log : G.log_length ≤ G'.log_length) where
  -- The full program on the left, the stripped one on the right.
  abbrev Both : State → State → Tm → Tm → Type 0
  Both = Pair H trans true t t' G G' frame (λ z. log)

  both_done : {v v' : Val} (k k' : ℕ) → k' ≤ k → {s s' : State} {e e' : Tm} (P : Both s s' e e') → RelV hi P.world v v' → ValTy D P.left.Σ v t → Shares hi t (ended (done v) k s) (ended (done v') k' s')
  both_done {v} {v'} k k' l P r h =
      let B = both_end H trans true t t' G G' frame (λ z. log) k k' P r h in
      record { value = v'; was_done = refl; steps = l; result = λ w p q. B.result w v' p refl q; cells = B.cells v v' refl refl; events = events_same hi P.states.trace; mainline = P.states.used.mainline; others = P.states.used.others P.mode }

  abbrev Claim : ℕ → Type 0
  Claim n = (n' k k' : ℕ) → n ≤ n' → k' ≤ k → (s s' : State) (e e' : Tm) → Both s s' e e' → (v : Val) → (run n G k s e).end ≡ done v → Shares hi t (run n G k s e) (run n' G' k' s' e')

  step_two : (n n' k k' : ℕ) → suc n ≤ n' → k' ≤ k → Claim n → {s s' : State} {e e' : Tm} (P : Both s s' e e') (v : Val) {a a' : Answer State Tm} → as_value e ≡ none → as_value e' ≡ none → step e G top s ≡ a → step e' G' top s' ≡ a' → Two hi P.world a a' → (run (suc n) G k s e).end ≡ done v → Shares hi t (run (suc n) G k s e) (run n' G' k' s' e')
  step_two n zero k k' l m ih P v p p' q q' w h = absurd (omega arith)
  step_two n (suc n') k k' l m ih {s} {s'} {e} {e'} P v p p' q q' (two_go x R T) h = rw (run_go n G k s e p q, run_go n' G' k' s' e' p' q') (ih n' (suc k) (suc k') (omega arith) (omega arith) _ _ _ _ (after_both H trans true t t' G G' frame (λ z. log) P x q q' R T) v (rw (run_go n G k s e p q) at h))
  step_two n (suc n') k k' l m ih {s} {e} P v p p' q q' (none_left f x) h = no_end (run_none (suc n) G k s e _ p q f) h
  step_two n (suc n') k k' l m ih P v p p' q q' (none_right z f) h = clash P.mode z

  by_step : (n n' k k' : ℕ) → suc n ≤ n' → k' ≤ k → Claim n → {s s' : State} {e e' : Tm} (P : Both s s' e e') (v : Val) {a a' : Answer State Tm} → step e G top s ≡ a → step e' G' top s' ≡ a' → Sim hi P.world s s' e e' a a' → (run (suc n) G k s e).end ≡ done v → Shares hi t (run (suc n) G k s e) (run n' G' k' s' e')
  by_step n n' k k' l m ih {s} {s'} {e} {e'} P v q q' (s_values p p' r) h = rw (run_value (suc n) G k s e p, run_value n' G' k' s' e' p') (both_done k k' m P r (val_ty P.left.typed p))
  by_step n n' k k' l m ih P v q q' (s_both p p' w) h = step_two n n' k k' l m ih P v p p' q q' w h
  by_step n n' k k' l m ih {s} {e} P v q q' (s_left p y x R T) h = rw (run_go n G k s e p (q ∙ y)) (ih n' (suc k) k' (omega arith) (omega arith) _ _ _ _ (after_left H trans true t t' G G' frame (λ z. log) P x (q ∙ y) R T) v (rw (run_go n G k s e p (q ∙ y)) at h))
  by_step n n' k k' l m ih P v q q' (s_right z p y x R T) h = clash P.mode z
  by_step n n' k k' l m ih {s} {e} P v q q' (s_none_left p f x) h = no_end (run_none (suc n) G k s e _ p q f) h
  by_step n n' k k' l m ih P v q q' (s_none_right z p f) h = clash P.mode z

  -- Where nothing is left of the budget, a run that is done has its value.
  at_end_lem : (n' k k' : ℕ) → k' ≤ k → {s s' : State} {e e' : Tm} (P : Both s s' e e') (v : Val) {a a' : Answer State Tm} → Sim hi P.world s s' e e' a a' → (run zero G k s e).end ≡ done v → Shares hi t (run zero G k s e) (run n' G' k' s' e')
  at_end_lem n' k k' m {s} {s'} {e} {e'} P v (s_values p p' r) h = rw (run_value zero G k s e p, run_value n' G' k' s' e' p') (both_done k k' m P r (val_ty P.left.typed p))
  at_end_lem n' k k' m {s} {e} P v (s_both p p' w) h = no_end (run_spent G k s e p) h
  at_end_lem n' k k' m {s} {e} P v (s_left p y x R T) h = no_end (run_spent G k s e p) h
  at_end_lem n' k k' m P v (s_right z p y x R T) h = clash P.mode z
  at_end_lem n' k k' m {s} {e} P v (s_none_left p f x) h = no_end (run_spent G k s e p) h
  at_end_lem n' k k' m P v (s_none_right z p f) h = clash P.mode z

  pub shares : (n : ℕ) → Claim n
  shares zero n' k k' l m s s' e e' P v h = at_end_lem n' k k' m P v (next H trans true t t' G G' frame (λ z. log) P) h
  shares (suc n) n' k k' l m s s' e e' P v h = by_step n n' k k' l m (shares n) P v refl refl (next H trans true t t' G G' frame (λ z. log) P) h

-- If every takedown of an accepted program runs at a high domain, and its run is done, so is the run of the stripped one with the same frame, budget and log length, and it shares what the card says.
pub stripped_run : (D : Policy) (hi : Dom → Bool) → Transitive D → Highs D hi → (e : Tm) → Accepted D e → NoLowTakedown hi 0 e
    → (G : Given) (n : ℕ) (v : Val) → (run n G 0 fresh e).end ≡ done v
    → SharesDone hi v (run n G 0 fresh e) (run n G 0 fresh (strip hi e))
stripped_run D hi trans H e A C G n v h =
    let P = start H trans true A.type A.type G G refl (λ z. omega arith) e (strip hi e) A.typed (strip_typed hi A.typed) (strip_rel hi A.typed) (λ z. C) in
    let S : Shares hi A.type (run n G 0 fresh e) (run n G 0 fresh (strip hi e)) = shares H trans A.type A.type G G refl (omega arith) n n 0 0 (omega arith) (omega arith) fresh fresh e (strip hi e) P v h in
    let w : v ≡ S.value = S.result v h A.plain in
    record { result = rw w S.was_done; cells = S.cells; prints = same_prints hi _ _ S.events; steps = S.steps; mainline = S.mainline; others = S.others }
