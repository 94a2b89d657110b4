-- What every reduction keeps, every step and every run keeps; no typing is assumed.
use Prim.Native.Nat.{ℕ, zero, suc, ◌-◌}
use mathlib.Core.Path.{◌≡◌, refl}
use mathlib.Core.Bool.{Bool, true, false}
use mathlib.Core.List.{List, [], ◌∷◌}
use mathlib.Core.Option.{Option, none, some}
use lib.Dec.{T, leb}
use Rattle.calculus.specs.declared.Outcome.{Outcome}
use Rattle.calculus.specs.Limits.{binding_limit, cell_limit, piece_limit}
use Rattle.calculus.specs.Combinators.{cases}
use Rattle.calculus.specs.Syntax.{Dom, Ty, Val, Tm, Tms, Pattern, Op0, Op1, Op2, as_value, val, var, lam, op0, op1, op2, seq, ite, split, pcd, adv, lower, obj, keep, match, end, more}
use Rattle.calculus.specs.State.{State, Given, Counts, Uses, add_uses, with_uses}
use Rattle.calculus.specs.Answer.{Answer, reduct, at_capacity, halt, wrong, carry, within, by_capacity, with, spend}
use Rattle.calculus.specs.Place.{Place, top, at, deeper, keeping}
use Rattle.calculus.specs.Reduce.{reduce0, reduce1, reduce2, piece, bind, reduce_match}
use Rattle.calculus.specs.Step.{step, step_first}
use Rattle.calculus.specs.Run.{after, run}

-- What is left of a half of which u is used covers n (card 9).
pub record Covers (n u : Counts) : Type 0 where
  pub bindings : T (leb n.bindings (binding_limit - u.bindings))
  pub cells : T (leb n.cells (cell_limit - u.cells))
  pub pieces : T (leb n.pieces (piece_limit - u.pieces))

module _ (Q : State → Type 0) where
  -- The state that an answer has, if it has one, has the property Q.
  pub data Makes : Answer State Tm → Type 0 where
    makes_go : {s : State} {e : Tm} → Q s → Makes (reduct s e)
    makes_full : {o : Outcome} → Makes (at_capacity o)
    makes_halt : Makes halt
    makes_wrong : Makes wrong

  pub makes_capacity : (b : Bool) (o : Outcome) {r : Answer State Tm} → (T b → Makes r) → Makes (by_capacity b o r)
  unfolding by_capacity
  makes_capacity true o f = f tt
  makes_capacity false o f = makes_full

  pub makes_with : {A : Type 0} (o : Option A) (k : A → Answer State Tm) → ((x : A) → Makes (k x)) → Makes (with o k)
  unfolding with
  makes_with none k f = makes_wrong
  makes_with (some x) k f = f x

  makes_within : (k : Tm → Tm) {r : Answer State Tm} → Makes r → Makes (within k r)
  unfolding carry
  makes_within k (makes_go q) = makes_go q
  makes_within k makes_full = makes_full
  makes_within k makes_halt = makes_halt
  makes_within k makes_wrong = makes_wrong

  makes_cases : {A : Type 0} (o : Option A) (k : A → Answer State Tm) (r : Unit {0} → Answer State Tm) → ((x : A) → Makes (k x)) → Makes (r tt) → Makes (cases o k r)
  unfolding cases
  makes_cases none k r f g = g
  makes_cases (some x) k r f g = f x

  -- A step that uses n has room for it.
  pub makes_spend : (n : Uses) (s : State) (k : State → Answer State Tm)
      → (Covers n.mainline s.used.mainline → Covers n.others s.used.others → Makes (k (with_uses (add_uses s.used n) s)))
      → Makes (spend n s k)
  unfolding spend
  makes_spend n s k f =
      makes_capacity _ _ (λ b. makes_capacity _ _ (λ c. makes_capacity _ _ (λ p. makes_capacity _ _ (λ b'. makes_capacity _ _ (λ c'. makes_capacity _ _
      (λ p'. f (record { bindings = b; cells = c; pieces = p }) (record { bindings = b'; cells = c'; pieces = p' })))))))

-- The reductions of the state s make only states with the property Q.
pub record Reduces (G : Given) (Q : State → Type 0) (s : State) : Type 0 where
  pub stays : Q s
  pub binds : (c : Dom) (n : ℕ) (e : Tm) → Makes Q (bind c n s e)
  pub pieces : (c : Dom) (e : Tm) → Makes Q (piece c s e)
  pub matches : (P : Place) (p : Pattern) (f g : Tm) (vs : List Val) → Makes Q (reduce_match P s p f g vs)
  pub reduces0 : (P : Place) (o : Op0) (t : Ty) → Makes Q (reduce0 G P s o t)
  pub reduces1 : (P : Place) (o : Op1) (t : Ty) (v : Val) → Makes Q (reduce1 G P s o t v)
  pub reduces2 : (P : Place) (o : Op2) (t : Ty) (v w : Val) → Makes Q (reduce2 G P s o t v w)

module _ {G : Given} {Q : State → Type 0} {s : State} (R : Reduces G Q s) where
  abbrev StepsFirst : Tms → Type 0
  StepsFirst es = (P : Place) (vs : List Val) (k : Tms → Tm) (r : List Val → Answer State Tm) → ((ws : List Val) → Makes Q (r ws)) → Makes Q (step_first es G P s vs k r)

  mutual
    unfolding step

    pub step_makes : (e : Tm) → (P : Place) → Makes Q (step e G P s)
    step_makes (val v) = λ P. makes_wrong
    step_makes (var k) = λ P. makes_capacity Q _ _ (λ b. makes_wrong)
    step_makes (lam t b) = λ P. makes_wrong
    step_makes (op0 o t) = λ P. makes_capacity Q _ _ (λ b. R.reduces0 P o t)
    step_makes (op1 o t e) = λ P. makes_cases Q _ _ _ (λ v. makes_capacity Q _ _ (λ b. R.reduces1 P o t v)) (makes_within Q _ (step_makes e (deeper P)))
    step_makes (op2 o t e f) =
        λ P. makes_cases Q _ _ _
        (λ v. makes_cases Q _ _ _ (λ w. makes_capacity Q _ _ (λ b. R.reduces2 P o t v w)) (makes_within Q _ (step_makes f (deeper P))))
        (makes_within Q _ (step_makes e (deeper P)))
    step_makes (seq e f) = λ P. makes_cases Q _ _ _ (λ v. makes_capacity Q _ _ (λ b. makes_with Q _ _ (λ u. makes_go R.stays))) (makes_within Q _ (step_makes e (deeper P)))
    step_makes (ite e f g) = λ P. makes_cases Q _ _ _ (λ v. makes_capacity Q _ _ (λ b. makes_with Q _ _ (λ u. makes_go R.stays))) (makes_within Q _ (step_makes e (deeper P)))
    step_makes (split e f) = λ P. makes_cases Q _ _ _ (λ v. makes_capacity Q _ _ (λ b. makes_with Q _ _ (λ u. R.binds P.dom 2 _))) (makes_within Q _ (step_makes e (deeper P)))
    step_makes (pcd es) = λ P. steps_first es P [] pcd _ (λ ws. makes_with Q _ _ (λ ls. R.pieces P.dom _))
    step_makes (adv p e b) = λ P. makes_cases Q _ _ _ (λ v. makes_capacity Q _ _ (λ b'. makes_with Q _ _ (λ ls. R.pieces P.dom _))) (makes_within Q _ (step_makes e (deeper P)))
    step_makes (lower p e) = λ P. makes_cases Q _ _ _ (λ v. makes_capacity Q _ _ (λ b. makes_with Q _ _ (λ u. makes_go R.stays))) (makes_within Q _ (step_makes e (at p (deeper P))))
    step_makes (obj t bs) = λ P. makes_wrong
    step_makes (keep e f g) =
        λ P. makes_cases Q _ _ _
        (λ v. makes_cases Q _ _ _
        (λ w. makes_cases Q _ _ _ (λ u. makes_capacity Q _ _ (λ b. makes_go R.stays)) (makes_within Q _ (step_makes g (keeping v w (deeper P)))))
        (makes_within Q _ (step_makes f (deeper P))))
        (makes_within Q _ (step_makes e (deeper P)))
    step_makes (match p es f g) = λ P. steps_first es P [] _ _ (λ ws. R.matches P p f g ws)

    steps_first : (es : Tms) → StepsFirst es
    steps_first end = λ P vs k r h. makes_capacity Q _ _ (λ b. h vs)
    steps_first (more e es) = λ P vs k r h. makes_cases Q _ _ _ (λ v. steps_first es P (v ∷ vs) k r h) (makes_within Q _ (step_makes e (deeper P)))

module _ (G : Given) (Q : State → Type 0) (keeps : (s : State) → Q s → Reduces G Q s) where
  pub run_keeps : (n k : ℕ) (s : State) (e : Tm) → Q s → Q (run n G k s e).state
  unfolding run after cases
  run_keeps zero k s e q = look (as_value e) refl
    where
      look : (o : Option Val) → as_value e ≡ o → Q (run zero G k s e).state
      look (some v) eq = rw (eq, run) q
      look none eq = rw (eq, run) q
  run_keeps (suc n) k s e q = look (as_value e) refl (λ s' e' q'. run_keeps n (suc k) s' e' q')
    where
      Later : Type 0
      Later = (s' : State) (e' : Tm) → Q s' → Q (run n G (suc k) s' e').state

      made : as_value e ≡ none → (r : Answer State Tm) → step e G top s ≡ r → Makes Q r → Later → Q (run (suc n) G k s e).state
      made eq r er (makes_go {s = s'} {e = e'} q') later = rw (eq, er, run) (later s' e' q')
      made eq r er makes_full later = rw (eq, er, run) q
      made eq r er makes_halt later = rw (eq, er, run) q
      made eq r er makes_wrong later = rw (eq, er, run) q

      look : (o : Option Val) → as_value e ≡ o → Later → Q (run (suc n) G k s e).state
      look (some v) eq later = rw (eq, run) q
      look none eq later = made eq (step e G top s) refl (step_makes (keeps s q) e top) later
