-- Card 13: a run that is done stays the same at any larger budget.
use Prim.Native.Nat.{ℕ, zero, suc, ◌≤◌}
use native.Mathlib.Omega.{arith}
use mathlib.Core.Path.{◌≡◌, refl, subst}
use mathlib.Core.Option.{Option, none, some}
use Rattle.calculus.specs.Combinators.{cases}
use Rattle.calculus.specs.Syntax.{Val, Tm, as_value}
use Rattle.calculus.specs.State.{State, Given}
use Rattle.calculus.specs.Answer.{Answer, reduct, at_capacity, halt, wrong}
use Rattle.calculus.specs.Place.{top}
use Rattle.calculus.specs.Step.{step}
use Rattle.calculus.specs.Run.{End, done, stopped, stuck, unpaid, after, run}

abbrev NotDone : End → Type 0
NotDone (done v) = ⊥
NotDone (stopped o) = Unit {0}
NotDone stuck = Unit {0}

-- A step for which nothing is left of the budget does not end a run with done.
unpaid_not_done : (a : Answer State Tm) → NotDone (unpaid a)
unpaid_not_done (reduct s e) = tt
unpaid_not_done (at_capacity o) = tt
unpaid_not_done halt = tt
unpaid_not_done wrong = tt

pub done_stays : (n m : ℕ) → n ≤ m → (G : Given) (k : ℕ) (s : State) (e : Tm) (v : Val) → (run n G k s e).end ≡ done v → run m G k s e ≡ run n G k s e
unfolding run after cases
done_stays zero zero l G k s e v p = refl
done_stays zero (suc m) l G k s e v p = look (as_value e) refl
  where
    look : (o : Option Val) → as_value e ≡ o → run (suc m) G k s e ≡ run zero G k s e
    look (some w) q = rw q
    look none q = absurd (subst NotDone (rw q at p) (unpaid_not_done (step e G top s)))
done_stays (suc n) zero l G k s e v p = absurd (omega arith)
done_stays (suc n) (suc m) l G k s e v p = look (as_value e) refl (step e G top s) refl (λ s' e'. done_stays n m (omega arith) G (suc k) s' e' v)
  where
    Later : Type 0
    Later = (s' : State) (e' : Tm) → (run n G (suc k) s' e').end ≡ done v → run m G (suc k) s' e' ≡ run n G (suc k) s' e'

    look : (o : Option Val) → as_value e ≡ o → (a : Answer State Tm) → step e G top s ≡ a → Later → run (suc m) G k s e ≡ run (suc n) G k s e
    look (some w) q a r later = rw q
    look none q (reduct s' e') r later = rw (q, r) (later s' e' (rw (q, r) at p))
    look none q (at_capacity o) r later = rw (q, r)
    look none q halt r later = rw (q, r)
    look none q wrong r later = rw (q, r)
