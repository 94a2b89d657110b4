-- A run of a typed program is never stuck: it ends with a value of the program's type, or with one of document 01's outcomes other than done ("A run").
use Prim.Native.Nat.{ℕ, zero, suc, ◌<◌}
use native.Mathlib.Omega.{arith}
use mathlib.Core.Path.{◌≡◌, refl}
use mathlib.Core.List.{[]}
use mathlib.Core.Option.{Option, none, some}
use lib.Dec.{T, ltb, ltb→lt}
use Rattle.calculus.specs.declared.Outcome.{Outcome}
use Rattle.calculus.specs.Combinators.{cases}
use Rattle.calculus.specs.Syntax.{Dom, Ty, Val, Tm, as_value}
use Rattle.calculus.specs.State.{State, Given, fresh}
use Rattle.calculus.specs.Answer.{Answer}
use Rattle.calculus.specs.Place.{top}
use Rattle.calculus.specs.Step.{step}
use Rattle.calculus.specs.Run.{End, done, stopped, stuck, Ended, ended, after, unpaid, run}
use Rattle.calculus.specs.Report.{outcome_number, outcome_of, report}
use Rattle.calculus.specs.Typing.{StoreTyping, Policy, ⊢◌⦂◌ as ValTy, ◌⨾◌⊢◌⦂◌ as TmTy, no_store}
use Rattle.laws.proofs.Lists.{All.all_nil}
use Rattle.calculus.specs.Accepted.{Transitive}
use Rattle.calculus_safety.proofs.Extend.{Extends, extends_refl, extends_trans}
use Rattle.calculus_safety.proofs.StoreFits.{StateFits, fits_fresh}
use Rattle.calculus_safety.proofs.Safe.{Found, Found.found, Found.nothing, Safe, Safe.safe_go, Safe.safe_full, Safe.safe_halt}
use Rattle.calculus_safety.proofs.Values.{as_value_lem}
use Rattle.calculus_safety.proofs.Safety.{safe}

-- An outcome whose number is above another is not done, whose number is 0.
not_done : (m : ℕ) {o : Outcome} → T (ltb m (outcome_number o)) → ¬ (o ≡ Outcome.Done)
not_done m {o} h e = let below : m < 0 = ltb→lt m 0 (rw e at h) in omega arith

module _ (D : Policy) where
  -- How a run of a program of type t ends; there is no case for stuck.
  pub data Ends (t : Ty) (Σ : StoreTyping) : End → Type 0 where
    ends_done : {v : Val} → ValTy D Σ v t → Ends t Σ (done v)
    ends_stopped : {o : Outcome} → ¬ (o ≡ Outcome.Done) → Ends t Σ (stopped o)

  -- The last state fits a store typing that extends Σ, and a result has the type t there.
  pub record EndsWell (t : Ty) (Σ : StoreTyping) (x : Ended) : Type 0 where
    pub last : StoreTyping
    pub extends : Extends Σ last
    pub state : StateFits D last x.state
    pub end : Ends t last x.end

  module _ {t : Ty} {Σ : StoreTyping} where
    ends_now : {o : End} (k : ℕ) (s : State) → StateFits D Σ s → Ends t Σ o → EndsWell t Σ (ended o k s)
    ends_now k s f h = record { last = Σ; extends = extends_refl Σ; state = f; end = h }

    ends_later : {Σ' : StoreTyping} {x : Ended} → Extends Σ Σ' → EndsWell t Σ' x → EndsWell t Σ x
    ends_later x w = record { last = w.last; extends = extends_trans x w.extends; state = w.state; end = w.end }

    ends_outcome : {x : End} → Ends t Σ x → (o : Outcome) × (outcome_of x ≡ some o)
    ends_outcome (ends_done h) = (Outcome.Done, refl)
    ends_outcome (ends_stopped {o} n) = (o, refl)

    -- Nothing is left of the budget.
    ends_unpaid : {c : Dom} {a : Answer State Tm} → Safe D Σ c t a → Ends t Σ (unpaid a)
    ends_unpaid (safe_go x f h) = ends_stopped (not_done 0 tt)
    ends_unpaid (safe_full m) = ends_stopped (not_done 2 m)
    ends_unpaid safe_halt = ends_stopped (not_done 0 tt)

    not_stuck : Ends t Σ stuck → ⊥
    not_stuck = elim [ ]

  module _ (trans : Transitive D) (G : Given) where
    pub run_safe : (n : ℕ) {Σ : StoreTyping} {e : Tm} {t : Ty} → TmTy D Σ [] 0 e t → (k : ℕ) (s : State) → StateFits D Σ s → EndsWell t Σ (run n G k s e)
    unfolding run after cases
    run_safe zero {Σ} {e} {t} h k s f = look (as_value e) refl (as_value_lem D Σ h)
      where
        look : (o : Option Val) → as_value e ≡ o → Found (λ v. ValTy D Σ v t) o → EndsWell t Σ (run zero G k s e)
        look o eq (found hv) = rw (eq, run) (ends_now k s f (ends_done hv))
        look o eq nothing = rw (eq, run) (ends_now k s f (ends_unpaid (safe D Σ trans G h refl eq top all_nil s f)))
    run_safe (suc n) {Σ} {e} {t} h k s f = look (as_value e) refl (as_value_lem D Σ h) (λ Σ' s' e' f' h'. run_safe n h' (suc k) s' f')
      where
        Later : Type 0
        Later = (Σ' : StoreTyping) (s' : State) (e' : Tm) → StateFits D Σ' s' → TmTy D Σ' [] 0 e' t → EndsWell t Σ' (run n G (suc k) s' e')

        made : as_value e ≡ none → (r : Answer State Tm) → step e G top s ≡ r → Safe D Σ 0 t r → Later → EndsWell t Σ (run (suc n) G k s e)
        made eq r er (safe_go {Σ'} {s = s'} {e = e'} x f' h') later = rw (eq, er, run) (ends_later x (later Σ' s' e' f' h'))
        made eq r er (safe_full m) later = rw (eq, er, run) (ends_now k s f (ends_stopped (not_done 2 m)))
        made eq r er safe_halt later = rw (eq, er, run) (ends_now (suc k) s f (ends_stopped (not_done 0 tt)))

        look : (o : Option Val) → as_value e ≡ o → Found (λ v. ValTy D Σ v t) o → Later → EndsWell t Σ (run (suc n) G k s e)
        look o eq (found hv) later = rw (eq, run) (ends_now k s f (ends_done hv))
        look o eq nothing later = made eq (step e G top s) refl (safe D Σ trans G h refl eq top all_nil s f) later

    -- A program is a closed term, typed at the domain 0 before there is a store; it starts with nothing.
    pub program_safe : {e : Tm} {t : Ty} → TmTy D no_store [] 0 e t → (n : ℕ) → EndsWell t no_store (run n G 0 fresh e)
    program_safe h n = run_safe n h 0 fresh (fits_fresh D)

    pub never_stuck : {e : Tm} {t : Ty} → TmTy D no_store [] 0 e t → (n : ℕ) → ¬ ((run n G 0 fresh e).end ≡ stuck)
    never_stuck h n e = not_stuck (rw e at (program_safe h n).end)

    -- Document 01, "A run": the report has one of its outcomes.
    pub reports_outcome : {e : Tm} {t : Ty} → TmTy D no_store [] 0 e t → (n : ℕ) → (o : Outcome) × ((report (run n G 0 fresh e)).outcome ≡ some o)
    reports_outcome h n = ends_outcome (program_safe h n).end
