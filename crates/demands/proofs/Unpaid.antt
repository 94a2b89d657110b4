-- Card 5 of document 02: the answers that change, and how (specs/Unpaid.antt).
use Rattle.std.specs.Prelude.{Ok, Err}
use Prim.Native.Nat.{ℕ, zero, suc, ◌+◌}
use native.Mathlib.Omega.{arith}
use mathlib.Core.Path.{◌≡◌, refl, sym, ap, ◌∙◌}
use mathlib.Core.Bool.{Bool, true, false, true≢false, ◌&&◌}
use mathlib.Core.List.{List, []}
use mathlib.Core.Option.{Option, none, some}
use lib.ListN.{length}
use lib.Dec.{eqb, ltb→lt}
use borrow.Author.Tests.{eq-eqb, ne_eqb, lt-ltb}
use Rattle.calculus.specs.declared.Outcome.{Outcome}
use Rattle.calculus.specs.Combinators.{choose, cases}
use Rattle.calculus.specs.Syntax.{Ty, Val, Tm, as_value}
use Rattle.calculus.specs.State.{State, Given, fresh}
use Rattle.calculus.specs.Answer.{Answer}
use Rattle.calculus.specs.Place.{top}
use Rattle.calculus.specs.Step.{step}
use Rattle.calculus.specs.Run.{done, stopped, stuck, Ended, ended, after, unpaid, run}
use Rattle.calculus.specs.Report.{outcome_number}
use Rattle.calculus.specs.Typing.{Policy, StoreTyping, ◌⨾◌⊢◌⦂◌ as TmTy}
use Rattle.calculus.specs.Accepted.{Transitive}
use Rattle.laws.proofs.Booleans.{and_i}
use Rattle.calculus_safety.proofs.StoreFits.{StateFits, fits_fresh}
use Rattle.calculus_safety.proofs.Safe.{Safe, Safe.safe_go, Safe.safe_full, Safe.safe_halt}
use Rattle.calculus_safety.proofs.Safety.{safe}
use Rattle.laws.proofs.Lists.{All.all_nil}
use Rattle.image.specs.Layout.{records_of}
use Rattle.image.specs.Program.{to_tm}
use Rattle.verdict.specs.Answers.{Verdict}
use Rattle.verdict.specs.Verdicts.{verdict}
use Rattle.verdict.specs.Domains.{policy}
use Rattle.call_spec.specs.Runs.{Accepts, program_of, given_by, run_of}
use Rattle.call_spec.specs.Calls.{Left, answer_of, left_by, called}
use Rattle.call_spec.proofs.Accepted.{transitive, typed}
use Rattle.demands.specs.Unpaid.{run_before, called_before, names_capacity, lacks_next, Card5}

-- Of two runs, before with a step more and before: which is the run now, and what it was where they differ.
record Told (m : ℕ) (E Z X : Ended) : Type 0 where
  now : E ≡ choose (lacks_next m (answer_of Z)) Z X
  was : lacks_next m (answer_of Z) ≡ true → (o : Outcome) × (Z ≡ ended (stopped o) m X.state) × (X ≡ ended (stopped Outcome.Spent) m X.state)

-- The next step lacks no room, for it made one more step, or ended otherwise.
same : {m : ℕ} {Z X : Ended} → lacks_next m (answer_of Z) ≡ false → Told m X Z X
same {m} {Z} {X} n = record { now = rw n refl; was = λ t. absurd (true≢false (sym t ∙ n)) }

and_no : (b : Bool) → (b && false) ≡ false
and_no true = refl
and_no false = refl

no_capacity : (m : ℕ) (Z : Ended) → names_capacity (answer_of Z).ending ≡ false → lacks_next m (answer_of Z) ≡ false
no_capacity m Z h = rw h (and_no (eqb Z.steps m))

one_more : (m : ℕ) (Z : Ended) → Z.steps ≡ suc m → lacks_next m (answer_of Z) ≡ false
one_more m Z e = rw (e, ne_eqb (suc m) m (λ z. omega arith)) refl

module _ (D : Policy) (trans : Transitive D) (G : Given) where
  -- The run before, at once after a step: it has made one more.
  before_once : (k : ℕ) (s : State) (e : Tm) → (run_before 0 G k s e).steps ≡ k
  unfolding run_before cases
  before_once k s e = look (as_value e)
    where
      look : (o : Option Val) → (cases {C = Ended} o (λ v. ended (done v) k s) (λ u. ended (stopped Outcome.Spent) k s)).steps ≡ k
      look (some v) = refl
      look none = refl

  told : (n : ℕ) {Σ : StoreTyping} {e : Tm} {t : Ty} → TmTy D Σ [] 0 e t → (k : ℕ) (s : State) → StateFits D Σ s
      → (m : ℕ) → m ≡ k + n → Told m (run n G k s e) (run_before (suc n) G k s e) (run_before n G k s e)
  unfolding run run_before after cases
  told zero {Σ} {e} {t} h k s f m z = look (as_value e) refl
    where
      following : Answer State Tm → Ended
      following a = after a (λ s' e'. run_before 0 G (suc k) s' e') (λ o. ended (stopped o) k s) (λ x. ended (stopped Outcome.Aborted) (suc k) s) (λ x. ended stuck k s)

      answered : {a : Answer State Tm} → Safe D Σ 0 t a → Told m (ended (unpaid a) k s) (following a) (ended (stopped Outcome.Spent) k s)
      answered (safe_go {Σ'} {s = s'} {e = e'} x f' h') = same (one_more m (run_before 0 G (suc k) s' e') (before_once (suc k) s' e' ∙ omega arith))
      answered (safe_full {o} r) =
          let steps : k ≡ m = omega arith in
          let here : lacks_next m (answer_of (ended (stopped o) k s)) ≡ true = and_i (eq-eqb k m steps) (lt-ltb 2 (outcome_number o) (ltb→lt 2 (outcome_number o) r)) in
          record { now = rw here refl; was = λ i. (o, ap (λ (j : ℕ). ended (stopped o) j s) steps, ap (λ (j : ℕ). ended (stopped Outcome.Spent) j s) steps) }
      answered safe_halt = same (one_more m (ended (stopped Outcome.Aborted) (suc k) s) (omega arith))

      look : (o : Option Val) → as_value e ≡ o
          → Told m (cases o (λ v. ended (done v) k s) (λ u. ended (unpaid (step e G top s)) k s)) (cases o (λ v. ended (done v) k s) (λ u. following (step e G top s))) (cases o (λ v. ended (done v) k s) (λ u. ended (stopped Outcome.Spent) k s))
      look (some v) q = same (no_capacity m (ended (done v) k s) refl)
      look none q = answered (safe D Σ trans G h refl q top all_nil s f)
  told (suc n) {Σ} {e} {t} h k s f m z = look (as_value e) refl (λ Σ' s' e' f' h'. told n h' (suc k) s' f' m (z ∙ omega arith))
    where
      Later : Type 0
      Later = (Σ' : StoreTyping) (s' : State) (e' : Tm) → StateFits D Σ' s' → TmTy D Σ' [] 0 e' t → Told m (run n G (suc k) s' e') (run_before (suc n) G (suc k) s' e') (run_before n G (suc k) s' e')

      by : (State → Tm → Ended) → Answer State Tm → Ended
      by g a = after a g (λ o. ended (stopped o) k s) (λ x. ended (stopped Outcome.Aborted) (suc k) s) (λ x. ended stuck k s)

      -- The run ends here, before its budget does.
      ends_now : {E : Ended} → (E.steps ≡ m → ⊥) → Told m E E E
      ends_now {E} l = same (rw (ne_eqb E.steps m l) refl)

      answered : Later → {a : Answer State Tm} → Safe D Σ 0 t a → Told m (by (λ s' e'. run n G (suc k) s' e') a) (by (λ s' e'. run_before (suc n) G (suc k) s' e') a) (by (λ s' e'. run_before n G (suc k) s' e') a)
      answered later (safe_go {Σ'} {s = s'} {e = e'} x f' h') = later Σ' s' e' f' h'
      answered later (safe_full {o} r) = ends_now (λ i. omega arith)
      answered later safe_halt = same (no_capacity m (ended (stopped Outcome.Aborted) (suc k) s) refl)

      look : (o : Option Val) → as_value e ≡ o → Later
          → Told m (cases o (λ v. ended (done v) k s) (λ u. by (λ s' e'. run n G (suc k) s' e') (step e G top s))) (cases o (λ v. ended (done v) k s) (λ u. by (λ s' e'. run_before (suc n) G (suc k) s' e') (step e G top s)))
          (cases o (λ v. ended (done v) k s) (λ u. by (λ s' e'. run_before n G (suc k) s' e') (step e G top s)))
      look (some v) q later = same (no_capacity m (ended (done v) k s) refl)
      look none q later = answered later (safe D Σ trans G h refl q top all_nil s f)

-- What the two calls before left, and the answer of the one now.
module _ (b frame : List ℕ) (budget : ℕ) (log report work : List ℕ) where
  abbrev before : ℕ → Ended
  before n = run_before n (given_by frame log) 0 fresh (to_tm (program_of b))

  left_either : (c : Bool) (E F : Ended) → left_by (choose c E F) log report work ≡ choose c (left_by E log report work) (left_by F log report work)
  left_either true E F = refl
  left_either false E F = refl

  left_told : Told budget (run_of b frame budget log) (before (suc budget)) (before budget)
      → (X Z : Left) → X ≡ left_by (before budget) log report work → Z ≡ left_by (before (suc budget)) log report work → called b frame budget log report work ≡ left_by (run_of b frame budget log) log report work
      → Card5 b frame budget log report work X Z
  left_told w X Z x z c =
      rw (x, z)
      (record {
        now = c ∙ ap (λ (E : Ended). left_by E log report work) w.now ∙ left_either (lacks_next budget (answer_of (before (suc budget)))) (before (suc budget)) (before budget);
        changed = λ t.
            record {
              capacity = (w.was t).0;
              last = (before budget).state;
              was = ap (λ (E : Ended). left_by E log report work) (w.was t).2;
              is = ap (λ (E : Ended). left_by E log report work) (w.was t).1;
            };
      })

  pub card5 : Card5 b frame budget log report work (called_before b frame budget log report work) (called_before b frame (suc budget) log report work)
  unfolding called
  card5 = reduct (verdict b (length work) (length report)) refl
    where
      reduct : (v : Verdict) → verdict b (length work) (length report) ≡ v
          → Card5 b frame budget log report work (called_before b frame budget log report work) (called_before b frame (suc budget) log report work)
      reduct (Ok tt) e =
          let A : Accepts b = record { work = length work; report = length report; verdict_is = e } in
          left_told (told (policy (records_of b)) (transitive b A) (given_by frame log) budget (typed b A).typed 0 fresh (fits_fresh (policy (records_of b))) budget (omega arith)) _ _ (rw e refl) (rw e refl) (rw e refl)
      reduct (Err refusal) e = rw e (record { now = rw (e, and_no (eqb 0 budget)) refl; changed = λ t. absurd (true≢false (sym t ∙ and_no (eqb 0 budget))) })
