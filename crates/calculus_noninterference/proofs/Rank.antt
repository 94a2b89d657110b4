-- Document 01, "Readings that go astray": "reading a high cell's rank off the count of all cells".
-- A low body makes a low cell in one run alone, before the mainline's high cell: among all cells the high one stands at place 1 there and at place 0 in the other run; among the high cells it is the first in both.
use Prim.Native.Nat.{ℕ}
use mathlib.Core.Path.{◌≡◌, refl}
use mathlib.Core.List.{List, [], ◌∷◌, map}
use mathlib.Core.Option.{some}
use Rattle.calculus.specs.Combinators.{cases}
use Rattle.calculus.specs.Syntax.{Dom, Ty, Val, Tm, val, lam, op1, op2, seq, lower, read, new_cell, app}
use Rattle.calculus.specs.State.{Given, picked, fresh}
use Rattle.calculus.specs.Subst.{subst}
use Rattle.calculus.specs.Answer.{carry, by_capacity, with, spend}
use Rattle.calculus.specs.Step.{step}
use Rattle.calculus.specs.Run.{End, done, after, run}
use Rattle.calculus.specs.Typing.{no_store, ◌⨾◌⊢◌⦂◌ as TmTy, t_read, t_new_cell, t_app, v_unit, v_number, is_val, is_lam, is_op1, is_op2, is_seq, is_lower}
use Rattle.calculus.specs.Blank.{blank}
use Rattle.calculus_safety.proofs.Example.{falling, falling_trans}
use Rattle.calculus.specs.Accepted.{Accepted}
use Rattle.calculus_noninterference.specs.Observe.{Shown, high_of, high_cells, Same}
use Rattle.calculus_noninterference.proofs.Theorem.{demand3}
use Rattle.calculus_noninterference.proofs.Example.{hi, highs}

-- 1<b>; !(ref_0 7)
abbrev program : Tm → Tm
program b = seq (lower 1 b) (op1 read Ty.number (op1 new_cell (Ty.ref Ty.number 0) (val (Val.number 7))))

-- (λ_1 r. ()) (ref_1 9), and ()
abbrev makes_cell : Tm
makes_cell = op2 app Ty.unit (lam (Ty.fun (Ty.ref Ty.number 1) 1 Ty.unit) (val Val.unit)) (op1 new_cell (Ty.ref Ty.number 1) (val (Val.number 9)))

abbrev nothing : Tm
nothing = val Val.unit

accepted : {b : Tm} → TmTy falling no_store [] 1 b Ty.unit → Accepted falling (program b)
accepted h = record { type = Ty.number; typed = is_seq (is_lower refl h) (is_op1 (t_read refl) (is_op1 (t_new_cell refl) (is_val v_number))); plain = refl }

alike : blank hi (program makes_cell) ≡ blank hi (program nothing)
unfolding blank
alike = refl

same : (G : Given) (n n' : ℕ) → Same hi (run n G 0 fresh (program makes_cell)) (run n' G 0 fresh (program nothing))
same G n n' =
    demand3 falling hi falling_trans highs (program makes_cell) (program nothing)
    (accepted (is_op2 t_app (is_lam (is_val v_unit)) (is_op1 (t_new_cell refl) (is_val v_number)))) (accepted (is_val v_unit)) alike G G refl n n'

-- What is computed of a run of 100 steps: how it ends, the domain of each cell in order of creation, and what is shown of the high cells.
record Facts : Type 0 where
  end : End
  doms : List Dom
  high : List Shown

abbrev facts : Tm → Facts
facts e = let E = run 100 (record { frame = []; log_length = 0 }) 0 fresh e in record { end = E.end; doms = map (λ c. c.dom) E.state.cells; high = high_cells hi E }

abbrev seven : List Dom → Facts
seven x = record { end = done (Val.number 7); doms = x; high = record { dom = 0; value = some (Val.number 7) } ∷ [] }

low_before_high : facts (program makes_cell) ≡ seven (1 ∷ 0 ∷ [])
unfolding high_of run after cases step carry by_capacity with spend picked subst
low_before_high = refl

high_alone : facts (program nothing) ≡ seven (0 ∷ [])
unfolding high_of run after cases step carry by_capacity with spend picked subst
high_alone = refl
