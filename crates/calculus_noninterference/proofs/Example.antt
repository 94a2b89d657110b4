-- The theorem applied: two accepted programs that differ in the body of a low advice, and what they print.
use Prim.Native.Nat.{ℕ}
use native.Mathlib.Nat.{le_trans}
use mathlib.Core.Path.{◌≡◌, refl}
use mathlib.Core.Bool.{Bool}
use mathlib.Core.List.{List, [], ◌∷◌, ◌++◌}
use mathlib.Core.Option.{some}
use lib.Dec.{leb}
use borrow.Author.Tests.{le-leb, leb-true}
use Rattle.calculus.specs.Combinators.{cases}
use Rattle.calculus.specs.Syntax.{Dom, Ty, Val, Tm, val, var, lam, op0, op1, op2, seq, pcd, adv, end, more, new_label, takedown, print, install, read, new_cell, app, mark}
use Rattle.calculus.specs.State.{Given, Counts, Print, picked, log_of, mainline_counts, fresh}
use Rattle.calculus.specs.Subst.{subst}
use Rattle.calculus.specs.Answer.{carry, by_capacity, with, spend}
use Rattle.calculus.specs.Step.{step}
use Rattle.calculus.specs.Run.{End, done, after, run}
use Rattle.calculus.specs.Typing.{no_store, ◌⨾◌⊢◌⦂◌ as TmTy, t_new_label, t_takedown, t_print, t_install, t_read, t_new_cell, t_app, t_mark, no_types, a_type, v_number, is_val, is_var, is_lam, is_op0, is_op1, is_op2, is_seq, is_pcd, is_adv, is_end, is_more}
use Rattle.calculus.specs.Blank.{blank}
use Rattle.calculus_safety.proofs.Example.{falling, falling_trans}
use Rattle.calculus_noninterference.specs.Observe.{Highs, Shown, high_of, high_prints, high_cells, Same}
use Rattle.calculus.specs.Accepted.{Accepted}
use Rattle.calculus_noninterference.proofs.Theorem.{demand3}

-- Only domain 0, the highest, is high.
abbrev pub hi : Dom → Bool
hi p = leb p 0

pub highs : Highs falling hi
highs = record { mainline = refl; up = λ p q x y. le-leb q 0 (le_trans (leb-true q p y) (leb-true p 0 x)) }

-- A program with an advice of domain 1, whose body is b, on a label of the mainline's:
-- (λ l. ⇑ {{l}.x →1 b}; l[3]; print 5; !(ref 7)) (new label)
abbrev say : Tm → Tm
say e = op1 print Ty.unit e

abbrev program : Tm → Tm
program b =
    op2 app Ty.number
    (lam (Ty.fun (Ty.label Ty.number 0) 0 Ty.number)
    (seq (op1 install Ty.unit (adv 1 (pcd (more (var 0) end)) b))
    (seq (op2 mark Ty.unit (var 0) (val (Val.number 3))) (seq (say (val (Val.number 5))) (op1 read Ty.number (op1 new_cell (Ty.ref Ty.number 0) (val (Val.number 7))))))))
    (op0 new_label (Ty.label Ty.number 0))

accepted : {b : Tm} → TmTy falling no_store (Ty.number ∷ Ty.label Ty.number 0 ∷ []) 1 b Ty.unit → Accepted falling (program b)
accepted h = record {
  type = Ty.number;
  typed =
      is_op2 t_app
      (is_lam
      (is_seq (is_op1 (t_install refl) (is_adv (is_pcd {p = 1} (is_more (is_var refl) is_end) (a_type refl no_types)) refl h))
      (is_seq (is_op2 t_mark (is_var refl) (is_val v_number)) (is_seq (is_op1 t_print (is_val v_number)) (is_op1 (t_read refl) (is_op1 (t_new_cell refl) (is_val v_number)))))))
      (is_op0 (t_new_label refl));
  plain = refl;
}

alike : (b b' : Tm) → blank hi (program b) ≡ blank hi (program b')
unfolding blank
alike b b' = refl

-- One advice prints the marked value, the other prints 8 and 9.
abbrev left : Tm
left = say (var 0)

abbrev right : Tm
right = seq (say (val (Val.number 8))) (say (val (Val.number 9)))

same : (G : Given) (n n' : ℕ) → Same hi (run n G 0 fresh (program left)) (run n' G 0 fresh (program right))
same G n n' = demand3 falling hi falling_trans highs (program left) (program right) (accepted (is_op1 t_print (is_var refl))) (accepted (is_seq (is_op1 t_print (is_val v_number)) (is_op1 t_print (is_val v_number)))) (alike left right) G G refl n n'

-- What is computed of a run of 100 steps: how it ends, its log, its high prints and its high cells; and what domain 0 had used at its print, and has at the end (card 9).
abbrev G : Given
G = record { frame = []; log_length = 100 }

record Facts : Type 0 where
  end : End
  log : List Print
  prints : List Print
  cells : List Shown
  counts : List Counts

abbrev facts : Tm → Facts
facts e = let E = run 100 G 0 fresh e in record { end = E.end; log = log_of E.state.trace; prints = high_prints hi E; cells = high_cells hi E; counts = mainline_counts E.state.trace ++ (E.state.used.mainline ∷ []) }

-- The logs differ; the rest is the same.
abbrev sevens : List Print → Facts
sevens x = record { end = done (Val.number 7); log = x; prints = record { dom = 0; shown = 5 } ∷ []; cells = record { dom = 0; value = some (Val.number 7) } ∷ []; counts = record { bindings = 1; cells = 0; pieces = 2 } ∷ record { bindings = 1; cells = 1; pieces = 2 } ∷ [] }

left_facts : facts (program left) ≡ sevens (record { dom = 1; shown = 3 } ∷ record { dom = 0; shown = 5 } ∷ [])
unfolding high_of run after cases step carry by_capacity with spend picked subst
left_facts = refl

right_facts : facts (program right) ≡ sevens (record { dom = 1; shown = 8 } ∷ record { dom = 1; shown = 9 } ∷ record { dom = 0; shown = 5 } ∷ [])
unfolding high_of run after cases step carry by_capacity with spend picked subst
right_facts = refl

-- Card 7: "a takedown written into a low body is one more difference under which high printed numbers still agree".
abbrev clearing : Tm
clearing = op0 (takedown 1) Ty.unit

same_takedown : (G : Given) (n n' : ℕ) → Same hi (run n G 0 fresh (program left)) (run n' G 0 fresh (program clearing))
same_takedown G n n' = demand3 falling hi falling_trans highs (program left) (program clearing) (accepted (is_op1 t_print (is_var refl))) (accepted (is_op0 (t_takedown refl))) (alike left clearing) G G refl n n'

clearing_facts : facts (program clearing) ≡ sevens (record { dom = 0; shown = 5 } ∷ [])
unfolding high_of run after cases step carry by_capacity with spend picked subst
clearing_facts = refl
