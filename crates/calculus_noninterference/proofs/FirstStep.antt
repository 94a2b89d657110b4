-- A run by its first step.
use Prim.Native.Nat.{ℕ, zero, suc}
use mathlib.Core.Path.{◌≡◌, refl, subst as transp}
use mathlib.Core.Bool.{true}
use mathlib.Core.Option.{none, some}
use Rattle.calculus.specs.declared.Outcome.{Outcome}
use Rattle.calculus.specs.Combinators.{cases}
use Rattle.calculus.specs.Syntax.{Val, Tm, as_value}
use Rattle.calculus.specs.State.{State, Given}
use Rattle.calculus.specs.Answer.{Answer, reduct, at_capacity, halt, wrong}
use Rattle.calculus.specs.Place.{top}
use Rattle.calculus.specs.Step.{step}
use Rattle.calculus.specs.Run.{End, done, stopped, stuck, Ended, ended, after, unpaid, run}
use Rattle.calculus_noninterference.specs.Observe.{lacks_mainline, ends_short}
use Rattle.calculus_noninterference.proofs.Clash.{clash}
use Rattle.calculus_noninterference.proofs.Paired.{NoStep, Short}

pub run_value : (n : ℕ) (G : Given) (k : ℕ) (s : State) (e : Tm) {v : Val} → as_value e ≡ some v → run n G k s e ≡ ended (done v) k s
unfolding run after cases
run_value zero G k s e p = rw (p, run)
run_value (suc n) G k s e p = rw (p, run)

pub run_go : (n : ℕ) (G : Given) (k : ℕ) (s : State) (e : Tm) {t : State} {f : Tm} → as_value e ≡ none → step e G top s ≡ reduct t f → run (suc n) G k s e ≡ run n G (suc k) t f
unfolding run after cases
run_go n G k s e p q = rw (p, q, run)

-- A run that ends over s without a value, at a step whose answer is a.
pub record Valueless (s : State) (a : Answer State Tm) (E : Ended) : Type 0 where
  pub over : E.state ≡ s
  pub no_value : (v : Val) → E.end ≡ done v → ⊥
  pub short : ends_short E.end ≡ true → Short a

abbrev IsDone : End → Type 0
IsDone (done v) = ⊥
IsDone (stopped o) = Unit {0}
IsDone stuck = Unit {0}

valueless_stopped : {s : State} {a : Answer State Tm} (o : Outcome) (k : ℕ) → (lacks_mainline o ≡ true → Short a) → Valueless s a (ended (stopped o) k s)
valueless_stopped o k x = record { over = refl; no_value = λ v p. transp IsDone p tt; short = x }

valueless_stuck : {s : State} {a : Answer State Tm} (k : ℕ) → Valueless s a (ended stuck k s)
valueless_stuck k = record { over = refl; no_value = λ v p. transp IsDone p tt; short = λ x. clash x refl }

valueless_unpaid : {s : State} (a : Answer State Tm) (k : ℕ) → Valueless s a (ended (unpaid a) k s)
valueless_unpaid (reduct t f) k = valueless_stopped _ _ (λ x. clash x refl)
valueless_unpaid (at_capacity o) k = valueless_stopped _ _ (λ x. x)
valueless_unpaid halt k = valueless_stopped _ _ (λ x. clash x refl)
valueless_unpaid wrong k = valueless_stuck _

-- Where nothing is left of the budget.
pub run_spent : (G : Given) (k : ℕ) (s : State) (e : Tm) → as_value e ≡ none → Valueless s (step e G top s) (run zero G k s e)
unfolding run after cases
run_spent G k s e p = rw (p, run) (valueless_unpaid (step e G top s) k)

-- Where no step is made.
pub run_none : (n : ℕ) (G : Given) (k : ℕ) (s : State) (e : Tm) (a : Answer State Tm) → as_value e ≡ none → step e G top s ≡ a → NoStep a → Valueless s a (run n G k s e)
unfolding run after cases
run_none zero G k s e a p q f = rw (← q) (run_spent G k s e p)
run_none (suc n) G k s e (at_capacity o) p q f = rw (p, q, run) (valueless_stopped _ _ (λ x. x))
run_none (suc n) G k s e halt p q f = rw (p, q, run) (valueless_stopped _ _ (λ x. clash x refl))
run_none (suc n) G k s e wrong p q f = rw (p, q, run) (valueless_stuck _)
run_none (suc n) G k s e (reduct _ _) p q f = elim f [ ]
