-- Card 13's theorem applied, and why takedowns in low bodies are excepted from it.
use Prim.Native.Nat.{ℕ, zero, suc}
use mathlib.Core.Path.{◌≡◌, refl, sym}
use mathlib.Core.Bool.{true≢false}
use mathlib.Core.List.{List, [], ◌∷◌}
use Rattle.calculus.specs.declared.Outcome.{Outcome}
use Rattle.calculus.specs.Combinators.{cases}
use Rattle.calculus.specs.Syntax.{Ty, Val, Tm, val, lam, op0, op1, seq, pcd, adv, lower, end, takedown, abort, print, install}
use Rattle.calculus.specs.State.{Given, Print, picked, log_of, fresh}
use Rattle.calculus.specs.Answer.{carry, by_capacity, with, spend}
use Rattle.calculus.specs.Step.{step}
use Rattle.calculus.specs.Run.{End, done, stopped, after, run}
use Rattle.calculus.specs.Typing.{no_store, ◌⨾◌⊢◌⦂◌ as TmTy, t_takedown, t_print, t_install, no_types, v_unit, v_number, is_val, is_op0, is_op1, is_seq, is_pcd, is_adv, is_lower, is_end}
use Rattle.calculus.specs.Accepted.{Accepted}
use Rattle.calculus_safety.proofs.Example.{falling, falling_trans}
use Rattle.calculus_noninterference.specs.Observe.{high_of, high_prints}
use Rattle.calculus_noninterference.specs.NoLowTakedown.{NoLowTakedown}
use Rattle.calculus_noninterference.proofs.Example.{hi, highs}
use Rattle.calculus_stripped.specs.Strip.{strip}
use Rattle.calculus_stripped.specs.Shared.{SharesDone}
use Rattle.calculus_stripped.proofs.Theorem.{stripped_run}

-- An install of advice of domain 1, on no label, with the body b.
abbrev watch : Tm → Tm
watch b = op1 install Ty.unit (adv 1 (pcd end) b)

abbrev say : ℕ → Tm
say n = op1 print Ty.unit (val (Val.number n))

-- The bodies of a low lower and of low advice give way to unit; a low function keeps its body, but for such bodies inside it.
stripped_low : (e : Tm) → strip hi (seq (lower 1 e) (seq (watch e) (op1 print Ty.unit (lam (Ty.fun Ty.unit 1 Ty.unit) (seq (lower 1 e) (op0 abort Ty.unit)))))) ≡ seq (lower 1 (val Val.unit)) (seq (watch (val Val.unit)) (op1 print Ty.unit (lam (Ty.fun Ty.unit 1 Ty.unit) (seq (lower 1 (val Val.unit)) (op0 abort Ty.unit)))))
unfolding strip
stripped_low e = refl

-- 1<print 8>; print 5
abbrev watched : Tm
watched = seq (lower 1 (say 8)) (say 5)

watched_accepted : Accepted falling watched
watched_accepted = record { type = Ty.unit; typed = is_seq (is_lower refl (is_op1 t_print (is_val v_number))) (is_op1 t_print (is_val v_number)); plain = refl }

watched_no_low_takedown : NoLowTakedown hi 0 watched
unfolding NoLowTakedown
watched_no_low_takedown = (tt, tt)

watched_shares : (G : Given) (n : ℕ) (v : Val) → (run n G 0 fresh watched).end ≡ done v → SharesDone hi v (run n G 0 fresh watched) (run n G 0 fresh (strip hi watched))
watched_shares = stripped_run falling hi falling_trans highs watched watched_accepted watched_no_low_takedown

-- What is computed of its run, and of the stripped one: how it ends, its steps, its log and its high prints.
record Facts : Type 0 where
  end : End
  steps : ℕ
  log : List Print
  prints : List Print

abbrev facts : Tm → Facts
facts e = let E = run 10 (record { frame = []; log_length = 20 }) 0 fresh e in record { end = E.end; steps = E.steps; log = log_of E.state.trace; prints = high_prints hi E }

abbrev five : Print
five = record { dom = 0; shown = 5 }

watched_facts : facts watched ≡ record { end = done Val.unit; steps = 4; log = record { dom = 1; shown = 8 } ∷ five ∷ []; prints = five ∷ [] }
unfolding high_of picked run after cases step carry by_capacity with
watched_facts = refl

stripped_facts : facts (strip hi watched) ≡ record { end = done Val.unit; steps = 3; log = five ∷ []; prints = five ∷ [] }
unfolding strip high_of picked run after cases step carry by_capacity with
stripped_facts = refl

-- 33 low watches, which a low body takes down, and 33 more: accepted, but not calm. The full run is done; the stripped one takes none down, and finds no room for the 65th.
hang : ℕ → Tm → Tm
hang zero e = e
hang (suc n) e = seq (watch (val Val.unit)) (hang n e)

hung : Tm
hung = seq (lower 1 (op0 (takedown 1) Ty.unit)) (hang 33 (val Val.unit))

hang_typed : (n : ℕ) {e : Tm} → TmTy falling no_store [] 0 e Ty.unit → TmTy falling no_store [] 0 (hang n e) Ty.unit
unfolding hang
hang_typed zero h = h
hang_typed (suc n) h = is_seq (is_op1 (t_install refl) (is_adv {q = 1} {a = Ty.unit} (is_pcd is_end no_types) refl (is_val v_unit))) (hang_typed n h)

hung_accepted : Accepted falling (hang 33 hung)
unfolding hung
hung_accepted = record { type = Ty.unit; typed = hang_typed 33 (is_seq (is_lower refl (is_op0 (t_takedown refl))) (hang_typed 33 (is_val v_unit))); plain = refl }

hang_no_low_takedown : (n : ℕ) (e : Tm) → NoLowTakedown hi 0 (hang n e) → NoLowTakedown hi 0 e
unfolding hang NoLowTakedown
hang_no_low_takedown zero e x = x
hang_no_low_takedown (suc n) e x = hang_no_low_takedown n e x.1

hung_not_no_low_takedown : NoLowTakedown hi 0 (hang 33 hung) → ⊥
unfolding hung NoLowTakedown
hung_not_no_low_takedown x = true≢false (sym (hang_no_low_takedown 33 hung x).0)

abbrev G : Given
G = record { frame = []; log_length = 0 }

hung_done : (run 1000 G 0 fresh (hang 33 hung)).end ≡ done Val.unit
unfolding hung hang run after cases step carry by_capacity with spend
hung_done = refl

hung_stripped : (run 1000 G 0 fresh (strip hi (hang 33 hung))).end ≡ stopped Outcome.Advice
unfolding hung hang strip run after cases step carry by_capacity with spend
hung_stripped = refl
