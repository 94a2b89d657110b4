-- Card 10 of a program of the class: no run exceeds a number, a done run without choice and mark meets each, and where all are within the limits, the budget and the log, the outcome is done or aborted.
use Prim.Native.Nat.{ℕ, zero, suc, ◌+◌, ◌≤◌, max}
use native.Mathlib.Omega.{arith}
use mathlib.Core.Path.{◌≡◌, refl, sym, ◌∙◌}
use mathlib.Core.Bool.{Bool, true}
use mathlib.Core.List.{[]}
use mathlib.Core.Option.{Option, none, some}
use lib.Dec.{T}
use Rattle.calculus.specs.declared.Outcome.{Outcome}
use Rattle.calculus.specs.Combinators.{cases}
use Rattle.calculus.specs.Syntax.{Ty, Val, Tm, as_value}
use Rattle.calculus.specs.State.{State, Given, fresh, picked}
use Rattle.calculus.specs.Answer.{Answer, reduct, wrong}
use Rattle.calculus.specs.Place.{top}
use Rattle.calculus_needs.specs.Here.{Here, here}
use Rattle.calculus.specs.Step.{step}
use Rattle.calculus.specs.Run.{End, done, stopped, Ended, ended, after, run}
use Rattle.calculus.specs.Typing.{StoreTyping, Policy, ◌⨾◌⊢◌⦂◌ as TmTy, no_store}
use Rattle.calculus.specs.Accepted.{Transitive}
use Rattle.laws.proofs.Lists.{All, All.all_nil}
use Rattle.calculus_safety.proofs.StoreFits.{StateFits, fits_fresh}
use Rattle.calculus_safety.proofs.Safety.{preservation, progress}
use Rattle.calculus_needs.specs.Numbers.{Numbers, ◌⊕◌}
use Rattle.calculus_needs.specs.Class.{in_class, straight}
use Rattle.calculus_needs.specs.Needs.{need, rounds, need_of}
use Rattle.calculus_needs.specs.Used.{reach, peak, used_up, used_by}
use Rattle.calculus_needs.specs.Claims.{Under, Enough, DoneOrAborted, was_done, is_aborted}
use Rattle.calculus_needs.proofs.Sums.{under_refl, under_same, under_trans, under_plus, under_left, none_left, none_right, plus_assoc}
use Rattle.calculus_needs.proofs.Admitted.{Admitted, admitted}
use Rattle.calculus_needs.proofs.Takes.{standing, AdmittedAdvice, Meets, Gained, One, Lacks, Takes, Takes.takes_go, Takes.takes_full, Takes.takes_halt, Takes.takes_wrong}
use Rattle.calculus_needs.proofs.Steps.{Keeps, needs_nothing, steps}

never_full : {n : ℕ} {G : Given} {N : Numbers} (k f : ℕ) (s : State) (g : Numbers) → Enough n G N → Under (used_up k f s ⊕ g) N → (o : Outcome) → Lacks G s g o → ⊥
unfolding ◌⊕◌
never_full k f s g E u Outcome.Done l = l
never_full k f s g E u Outcome.Spent l = l
never_full k f s g E u Outcome.Aborted l = l
never_full k f s g E u Outcome.Frames l = let a = E.frames in let b = u.frames in omega arith
never_full k f s g E u Outcome.Bindings l = let a = E.bindings in let b = u.bindings in omega arith
never_full k f s g E u Outcome.OtherBindings l = let a = E.other_bindings in let b = u.other_bindings in omega arith
never_full k f s g E u Outcome.Cells l = let a = E.cells in let b = u.cells in omega arith
never_full k f s g E u Outcome.OtherCells l = let a = E.other_cells in let b = u.other_cells in omega arith
never_full k f s g E u Outcome.Labels l = let a = E.labels in let b = u.labels in omega arith
never_full k f s g E u Outcome.Advice l = let a = E.advices in let b = u.advices in omega arith
never_full k f s g E u Outcome.Pieces l = let a = E.pieces in let b = u.pieces in omega arith
never_full k f s g E u Outcome.OtherPieces l = let a = E.other_pieces in let b = u.other_pieces in omega arith
never_full k f s g E u Outcome.Log l = let a = E.prints in let b = u.prints in omega arith

-- What is said of how a run ends, from k steps and at most f frames on, with b where it was straight and n left of the budget.
pub record Ends (N : Numbers) (G : Given) (n : ℕ) (b : Bool) (k f : ℕ) (x : Ended) (p : ℕ) : Type 0 where
  pub under : Under (used_up x.steps (max f p) x.state) N
  pub exact : T b → (v : Val) → x.end ≡ done v → used_up x.steps (max f p) x.state ≡ N
  pub settles : Enough (k + n) G N → DoneOrAborted x.end

one_step : (k f d : ℕ) (s : State) (g : Numbers) → One d g → Under (used_up (k + 1) (max f d) s) (used_up k f s ⊕ g)
unfolding ◌⊕◌
one_step k f d s g o =
    let a = o.0 in
    let b = o.1 in
    record { steps = omega arith; bindings = omega arith; other_bindings = omega arith; cells = omega arith; other_cells = omega arith; pieces = omega arith; other_pieces = omega arith; labels = omega arith; advices = omega arith; prints = omega arith; frames = omega arith }

one_less : (k f : ℕ) (s : State) → Under (used_up k f s) (used_up (k + 1) f s)
one_less k f s = record { steps = omega arith; bindings = omega arith; other_bindings = omega arith; cells = omega arith; other_cells = omega arith; pieces = omega arith; other_pieces = omega arith; labels = omega arith; advices = omega arith; prints = omega arith; frames = omega arith }

none_max : (p : ℕ) → max 0 p ≡ p
none_max p = omega arith

zero_plus : (n : ℕ) → 0 + n ≡ n
zero_plus n = omega arith

not_done : {o : Outcome} {v : Val} → ◌≡◌ {A = End} (stopped o) (done v) → ⊥
not_done e = let z : ◌≡◌ {A = ℕ} 0 1 = cc in omega arith

spent_left : (k f : ℕ) (s : State) (m N : Numbers) → Under (used_up k f s ⊕ m) N → 1 ≤ m.steps → N.steps ≤ k + 0 → ⊥
unfolding ◌⊕◌
spent_left k f s m N u one e = let u' = u.steps in omega arith

module _ (D : Policy) (trans : Transitive D) (G : Given) (W : Here → Numbers) (N : Numbers) (t : Ty) where
  -- What holds at each point of a run.
  pub record Point (Σ : StoreTyping) (b : Bool) (k f : ℕ) (s : State) (e : Tm) : Type 0 where
    pub typed : TmTy D Σ [] 0 e t
    pub fits : StateFits D Σ s
    pub admitted' : Admitted true e
    pub advices : All AdmittedAdvice s.advices
    pub watch : (Q : Here) → Under (standing Q s.advices ⊕ rounds Q e) (W Q)
    pub under : Under (used_up k f s ⊕ need W (here top) e) N
    pub exact : T b → (used_up k f s ⊕ need W (here top) e ≡ N) × T (straight e)

  module _ {Σ : StoreTyping} {b : Bool} {k f : ℕ} {s : State} {e : Tm} (C : Point Σ b k f s e) where
    takes : Takes G W s (here top) (Keeps e) (need W (here top) e) (λ Q. rounds Q e) (straight e) (reach 0 e) (step e G top s)
    takes = steps D Σ G W s C.advices (λ Q. under_trans (under_left (standing Q s.advices) (rounds Q e)) (C.watch Q)) e (0, t, C.typed) C.admitted' top

    -- Of what is needed, g is used, and frames d.
    used_more : (g : Numbers) → One (reach 0 e) g → Under g (need W (here top) e) → Under (used_up (k + 1) (max f (reach 0 e)) s) N
    used_more g o u = under_trans (first_step g o) (under_trans (under_plus (under_refl (used_up k f s)) u) C.under)
      where
        first_step : (g : Numbers) → One (reach 0 e) g → Under (used_up (k + 1) (max f (reach 0 e)) s) (used_up k f s ⊕ g)
        first_step g o = one_step k f (reach 0 e) s g o

    rest_zero : used_up k (max f 0) s ≡ used_up k f s
    rest_zero = let z : max f 0 ≡ f = omega arith in rw z refl

    used_now : Under (used_up k (max f 0) s) N
    used_now = rw rest_zero (under_trans (under_left (used_up k f s) (need W (here top) e)) C.under)

    -- A step is left.
    step_left : (r : Answer State Tm) → Takes G W s (here top) (Keeps e) (need W (here top) e) (λ Q. rounds Q e) (straight e) (reach 0 e) r → ¬ (r ≡ wrong) → 1 ≤ (need W (here top) e).steps
    step_left r (takes_go {e'} g gained o meets st c x a w) nw = let u = (under_trans (under_left g (need W (here top) e')) meets.under).steps in let one = o.0 in omega arith
    step_left r (takes_full g o u l) nw = let u' = u.steps in let one = o.0 in omega arith
    step_left r (takes_halt g o u) nw = let u' = u.steps in let one = o.0 in omega arith
    step_left r takes_wrong nw = absurd (nw refl)

    ends_done : (n : ℕ) (v : Val) → as_value e ≡ some v → Ends N G n b k f (ended (done v) k s) 0
    ends_done n v eq =
        let i = needs_nothing W e v eq in
        let whole : used_up k f s ⊕ need W (here top) e ≡ used_up k f s = rw (i.needs' (here top)) (none_right (used_up k f s)) in
        record { under = used_now; exact = λ x u d. rest_zero ∙ (sym whole ∙ (C.exact x).0); settles = λ E. was_done }

    not_wrong : as_value e ≡ none → ¬ (step e G top s ≡ wrong)
    not_wrong eq = progress D Σ trans G C.typed eq top all_nil s C.fits

    -- A step is left, for which nothing is left of the budget.
    spent_not : as_value e ≡ none → ¬ Enough (k + 0) G N
    spent_not eq E =
        let one = step_left (step e G top s) takes (not_wrong eq) in
        spent_left k f s (need W (here top) e) N C.under one E.steps

    ends_spent : as_value e ≡ none → (g : Numbers) → One (reach 0 e) g → Under g (need W (here top) e) → Ends N G 0 b k f (ended (stopped Outcome.Spent) k s) (reach 0 e)
    ends_spent eq g o u = record { under = under_trans (one_less k (max f (reach 0 e)) s) (used_more g o u); exact = λ x v d. absurd (not_done d); settles = λ E. absurd (spent_not eq E) }

    ends_full : (n : ℕ) (g : Numbers) → One (reach 0 e) g → Under g (need W (here top) e) → (o : Outcome) → Lacks G s g o → Ends N G n b k f (ended (stopped o) k s) (reach 0 e)
    ends_full n g o u x l = record {
      under = under_trans (one_less k (max f (reach 0 e)) s) (used_more g o u);
      exact = λ y v d. absurd (not_done d);
      settles = λ E. absurd (never_full k f s g E (under_trans (under_plus (under_refl (used_up k f s)) u) C.under) x l);
    }

    ends_halt : (n : ℕ) (g : Numbers) → One (reach 0 e) g → Under g (need W (here top) e) → Ends N G (suc n) b k f (ended (stopped Outcome.Aborted) (suc k) s) (reach 0 e)
    ends_halt n g o u = let y : suc k ≡ k + 1 = omega arith in record { under = rw y (used_more g o u); exact = λ z v d. absurd (not_done d); settles = λ E. is_aborted }

    -- What holds after a step.
    next : {s' : State} {e' : Tm} → step e G top s ≡ reduct s' e' → (g : Numbers) → Gained (straight e) s g s' → One (reach 0 e) g → Meets (straight e) (g ⊕ need W (here top) e') (need W (here top) e)
        → (T (straight e) → T (straight e')) → Admitted true e' → All AdmittedAdvice s'.advices → ((Q : Here) → Under (standing Q s'.advices ⊕ rounds Q e') (standing Q s.advices ⊕ rounds Q e))
        → (Σ' : StoreTyping) × Point Σ' b (suc k) (max f (reach 0 e)) s' e'
    next {s'} {e'} er g gained o meets st c a w =
        let safe = preservation D Σ trans G C.typed top all_nil s C.fits s' e' er in
        let G' = gained k f in
        let moved : (x : T (straight e)) → used_up (suc k) (max f (reach 0 e)) s' ⊕ need W (here top) e' ≡ used_up k f s ⊕ (g ⊕ need W (here top) e') =
        λ x. rw (← o.1, G'.exact x, plus_assoc (used_up k f s) g (need W (here top) e')) refl in
        let less : Under (used_up (suc k) (max f (reach 0 e)) s' ⊕ need W (here top) e') (used_up k f s ⊕ (g ⊕ need W (here top) e')) =
        rw (← o.1, ← plus_assoc (used_up k f s) g (need W (here top) e')) (under_plus G'.under (under_refl (need W (here top) e'))) in (
          safe.0,
          record {
            typed = safe.3;
            fits = safe.2;
            admitted' = c;
            advices = a;
            watch = λ Q. under_trans (w Q) (C.watch Q);
            under = under_trans less (under_trans (under_plus (under_refl (used_up k f s)) meets.under) C.under);
            exact = λ x. (moved (C.exact x).1 ∙ (rw (meets.exact (C.exact x).1) (C.exact x).0), st (C.exact x).1);
          },
        )

  pub run_ends : (n : ℕ) {Σ : StoreTyping} {b : Bool} {k f : ℕ} {s : State} {e : Tm} → Point Σ b k f s e → Ends N G n b k f (run n G k s e) (peak n G s e)
  unfolding run peak after cases
  run_ends zero {Σ} {b} {k} {f} {s} {e} C = look (as_value e) refl
    where
      -- Card 5: the room of the next step is looked at first.
      made : as_value e ≡ none → (r : Answer State Tm) → step e G top s ≡ r → Takes G W s (here top) (Keeps e) (need W (here top) e) (λ Q. rounds Q e) (straight e) (reach 0 e) r
          → Ends N G zero b k f (run zero G k s e) (peak zero G s e)
      made eq r er (takes_go {e'} g gained o meets st c x a w) = rw (eq, er, run) (ends_spent C eq g o (under_trans (under_left g (need W (here top) e')) meets.under))
      made eq r er (takes_full {o = o'} g o u l) = rw (eq, er, run) (ends_full C zero g o u o' l)
      made eq r er (takes_halt g o u) = rw (eq, er, run) (ends_spent C eq g o u)
      made eq r er takes_wrong = absurd (not_wrong C eq er)

      look : (o : Option Val) → as_value e ≡ o → Ends N G zero b k f (run zero G k s e) (peak zero G s e)
      look (some v) eq = rw (eq, run) (ends_done C zero v eq)
      look none eq = made eq (step e G top s) refl (takes C)
  run_ends (suc n) {Σ} {b} {k} {f} {s} {e} C = look (as_value e) refl (λ Σ' s' e' C'. run_ends n C')
    where
      Later : Type 0
      Later = (Σ' : StoreTyping) (s' : State) (e' : Tm) → Point Σ' b (suc k) (max f (reach 0 e)) s' e' → Ends N G n b (suc k) (max f (reach 0 e)) (run n G (suc k) s' e') (peak n G s' e')

      onward : {x : Ended} {p : ℕ} → Ends N G n b (suc k) (max f (reach 0 e)) x p → Ends N G (suc n) b k f x (max (reach 0 e) p)
      onward {x} {p} h =
          let z : max f (max (reach 0 e) p) ≡ max (max f (reach 0 e)) p = omega arith in
          let y : k + suc n ≡ suc k + n = omega arith in
          record { under = rw z h.under; exact = rw z h.exact; settles = rw y h.settles }

      made : as_value e ≡ none → (r : Answer State Tm) → step e G top s ≡ r → Takes G W s (here top) (Keeps e) (need W (here top) e) (λ Q. rounds Q e) (straight e) (reach 0 e) r → Later
          → Ends N G (suc n) b k f (run (suc n) G k s e) (peak (suc n) G s e)
      made eq r er (takes_go {s'} {e'} g gained o meets st c x a w) later =
          let p = next C er g gained o meets st c a w in
          rw (eq, er, run) (onward (later p.0 s' e' p.1))
      made eq r er (takes_full {o = o'} g o u l) later = rw (eq, er, run) (ends_full C (suc n) g o u o' l)
      made eq r er (takes_halt g o u) later = rw (eq, er, run) (ends_halt C n g o u)
      made eq r er takes_wrong later = absurd (not_wrong C eq er)

      look : (o : Option Val) → as_value e ≡ o → Later → Ends N G (suc n) b k f (run (suc n) G k s e) (peak (suc n) G s e)
      look (some v) eq later = rw (eq, run) (ends_done C (suc n) v eq)
      look none eq later = made eq (step e G top s) refl (takes C) later

-- A program of the class, from nothing, at domain 0.
module _ (D : Policy) (trans : Transitive D) (G : Given) {e : Tm} {t : Ty} (typed : TmTy D no_store [] 0 e t) (class : T (in_class true e)) (n : ℕ) where
  whole : used_up 0 0 fresh ⊕ need_of e ≡ need_of e
  unfolding picked
  whole = none_left (need_of e)

  begins : Point D trans G (λ P. rounds P e) (need_of e) t no_store (straight e) 0 0 fresh e
  begins = record {
    typed = typed;
    fits = fits_fresh D;
    admitted' = admitted true e class;
    advices = all_nil;
    watch = λ Q. under_same (none_left (rounds Q e));
    under = under_same whole;
    exact = λ x. (whole, x);
  }

  ends : Ends (need_of e) G n (straight e) 0 0 (run n G 0 fresh e) (peak n G fresh e)
  ends = run_ends D trans G (λ P. rounds P e) (need_of e) t n begins

  -- Card 10: "No run of that image exceeds any of them."
  pub never_exceeded : Under (used_by n G e) (need_of e)
  never_exceeded = rw (none_max (peak n G fresh e)) at ends.under

  -- Card 10: "A done run without choice, mark or takedown meets each exactly."
  pub met_exactly : T (straight e) → (v : Val) → (run n G 0 fresh e).end ≡ done v → used_by n G e ≡ need_of e
  met_exactly x v d = rw (none_max (peak n G fresh e)) at (ends.exact x v d)

  -- Card 10: "Where all are within the limits, the budget and the log, the outcome is done or aborted."
  pub done_or_aborted : Enough n G (need_of e) → DoneOrAborted (run n G 0 fresh e).end
  done_or_aborted E = ends.settles (rw (zero_plus n) E)
