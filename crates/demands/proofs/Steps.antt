-- The steps of a run: no more than its budget, and all of it where the run is spent (document 01, "A run").
use Prim.Native.Nat.{ℕ, zero, suc, ◌+◌, ◌≤◌}
use native.Mathlib.Omega.{arith}
use mathlib.Core.Path.{◌≡◌, refl}
use mathlib.Core.List.{[]}
use mathlib.Core.Option.{Option, none, some}
use Rattle.calculus.specs.declared.Outcome.{Outcome}
use Rattle.calculus.specs.Combinators.{cases}
use Rattle.calculus.specs.Syntax.{Ty, Val, Tm, as_value}
use Rattle.calculus.specs.State.{State, Given, fresh}
use Rattle.calculus.specs.Answer.{Answer, reduct, at_capacity, halt, wrong}
use Rattle.calculus.specs.Place.{top}
use Rattle.calculus.specs.Step.{step}
use Rattle.calculus.specs.Run.{End, done, stopped, stuck, Ended, ended, after, unpaid, run}
use Rattle.calculus.specs.Report.{outcome_of, report}
use Rattle.calculus.specs.Typing.{Policy, StoreTyping, ◌⨾◌⊢◌⦂◌ as TmTy, no_store}
use Rattle.calculus.specs.Accepted.{Transitive}
use Rattle.calculus_safety.proofs.StoreFits.{StateFits, fits_fresh}
use Rattle.calculus_safety.proofs.Safe.{Safe, Safe.safe_go, Safe.safe_full, Safe.safe_halt}
use Rattle.calculus_safety.proofs.Safety.{safe}
use Rattle.laws.proofs.Lists.{All.all_nil}

pub steps_within : (n : ℕ) (G : Given) (k : ℕ) (s : State) (e : Tm) → (run n G k s e).steps ≤ k + n
unfolding run cases after
steps_within zero G k s e = look (as_value e)
  where
    look : (o : Option Val) → (cases {C = Ended} o (λ v. ended (done v) k s) (λ u. ended (unpaid (step e G top s)) k s)).steps ≤ k + 0
    look (some v) = omega arith
    look none = omega arith
steps_within (suc n) G k s e = look (λ s' e'. steps_within n G (suc k) s' e') (as_value e)
  where
    Next : Type 0
    Next = (s' : State) (e' : Tm) → (run n G (suc k) s' e').steps ≤ suc k + n

    answered : Next → (a : Answer State Tm) → (after {R = Ended} a (λ s' e'. run n G (suc k) s' e') (λ o. ended (stopped o) k s) (λ x. ended (stopped Outcome.Aborted) (suc k) s) (λ x. ended stuck k s)).steps ≤ k + suc n
    answered next (reduct s' e') = let h = next s' e' in omega arith
    answered next (at_capacity o) = omega arith
    answered next halt = omega arith
    answered next wrong = omega arith

    look : Next → (o : Option Val) → (cases {C = Ended} o (λ v. ended (done v) k s) (λ u. after (step e G top s) (λ s' e'. run n G (suc k) s' e') (λ o. ended (stopped o) k s) (λ x. ended (stopped Outcome.Aborted) (suc k) s) (λ x. ended stuck k s))).steps ≤ k + suc n
    look next (some v) = omega arith
    look next none = answered next (step e G top s)

spent_end : (x : End) → outcome_of x ≡ some Outcome.Spent → x ≡ stopped Outcome.Spent
spent_end (done v) p = let z : ◌≡◌ {A = ℕ} 0 1 = cc in absurd (omega arith)
spent_end (stopped o) p = cc
spent_end stuck p = let z : ◌≡◌ {A = ℕ} 0 1 = cc in absurd (omega arith)

-- A typed program's run that ends with spent has used up its budget: a step that is not taken lacks room, and that is another outcome.
module _ (D : Policy) (trans : Transitive D) (G : Given) where
  spent_whole : (n : ℕ) {Σ : StoreTyping} {e : Tm} {t : Ty} → TmTy D Σ [] 0 e t → (k : ℕ) (s : State) → StateFits D Σ s → (run n G k s e).end ≡ stopped Outcome.Spent → (run n G k s e).steps ≡ k + n
  unfolding run after cases
  spent_whole zero {e = e} h k s f = look (as_value e)
    where
      look : (o : Option Val) → (cases {C = Ended} o (λ v. ended (done v) k s) (λ u. ended (unpaid (step e G top s)) k s)).end ≡ stopped Outcome.Spent
          → (cases {C = Ended} o (λ v. ended (done v) k s) (λ u. ended (unpaid (step e G top s)) k s)).steps ≡ k + 0
      look (some v) p = let z : ◌≡◌ {A = ℕ} 0 1 = cc in absurd (omega arith)
      look none p = omega arith
  spent_whole (suc n) {Σ} {e} {t} h k s f = look (as_value e) refl (λ Σ' s' e' f' h'. spent_whole n h' (suc k) s' f')
    where
      Later : Type 0
      Later = (Σ' : StoreTyping) (s' : State) (e' : Tm) → StateFits D Σ' s' → TmTy D Σ' [] 0 e' t → (run n G (suc k) s' e').end ≡ stopped Outcome.Spent → (run n G (suc k) s' e').steps ≡ suc k + n

      follows : Answer State Tm → Ended
      follows a = after a (λ s' e'. run n G (suc k) s' e') (λ o. ended (stopped o) k s) (λ x. ended (stopped Outcome.Aborted) (suc k) s) (λ x. ended stuck k s)

      answered : Later → {a : Answer State Tm} → Safe D Σ 0 t a → (follows a).end ≡ stopped Outcome.Spent → (follows a).steps ≡ k + suc n
      answered later (safe_go {Σ'} {s = s'} {e = e'} x f' h') p = let q = later Σ' s' e' f' h' p in omega arith
      answered later (safe_full {o} m) p =
          let q : o ≡ Outcome.Spent = cc in
          absurd (rw q at m)
      answered later safe_halt p = let z : ◌≡◌ {A = ℕ} 0 1 = cc in absurd (omega arith)

      look : (o : Option Val) → as_value e ≡ o → Later → (cases {C = Ended} o (λ v. ended (done v) k s) (λ u. follows (step e G top s))).end ≡ stopped Outcome.Spent
          → (cases {C = Ended} o (λ v. ended (done v) k s) (λ u. follows (step e G top s))).steps ≡ k + suc n
      look (some v) q later p = let z : ◌≡◌ {A = ℕ} 0 1 = cc in absurd (omega arith)
      look none q later p = answered later (safe D Σ trans G h refl q top all_nil s f) p

  pub spent_steps : (n : ℕ) {e : Tm} {t : Ty} → TmTy D no_store [] 0 e t → (report (run n G 0 fresh e)).outcome ≡ some Outcome.Spent → (run n G 0 fresh e).steps ≡ n
  spent_steps n {e} h p = let q = spent_whole n h 0 fresh (fits_fresh D) (spent_end (run n G 0 fresh e).end p) in omega arith
