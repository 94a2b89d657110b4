-- An order of domains with the law assumed, and a program with the type assumed: the theorems speak of something.
use Prim.Native.Nat.{ℕ}
use native.Mathlib.Nat.{le_trans}
use mathlib.Core.Path.{refl}
use mathlib.Core.List.{[]}
use lib.Dec.{leb}
use borrow.Author.Tests.{le-leb, leb-true}
use Rattle.calculus.specs.Syntax.{Ty, Val, Tm, val, var, lam, op0, op1, op2, seq, pcd, adv, end, more, new_label, print, install, app, mark}
use Rattle.calculus.specs.State.{Given, fresh}
use Rattle.calculus.specs.Run.{run}
use Rattle.calculus.specs.Typing.{Policy, no_store, LabelTys, ◌⨾◌⊢◌⦂◌ as TmTy, ◌⨾◌⊢*◌⦂◌ as TmsTy, ⊢◌⦂◌ as ValTy, ◌⊢◌⦂◌ as Rule0, ◌⊢◌⦂◌⇒◌ as Rule1, ◌⊢◌⦂◌⇒◌⇒◌ as Rule2}
use Rattle.calculus.specs.Accepted.{Transitive}
use Rattle.calculus_safety.proofs.Runs.{EndsWell, program_safe}

-- 0 is the highest domain: a greater number is a lower domain.
abbrev pub falling : Policy
falling = record { leq = λ p q. leb q p }

pub falling_trans : Transitive falling
falling_trans p q r h k = le-leb r p (le_trans (leb-true r q k) (leb-true q p h))

-- The main program at 0 makes a label and marks it; advice at 1, below it, prints what it is marked with.
abbrev shown : Tm
shown =
    op2 app Ty.unit
    (lam (Ty.fun (Ty.label Ty.number 0) 0 Ty.unit) (seq (op1 install Ty.unit (adv 1 (pcd (more (var 0) end)) (op1 print Ty.unit (var 0)))) (op2 mark Ty.unit (var 0) (val (Val.number 3)))))
    (op0 new_label (Ty.label Ty.number 0))

shown_typed : TmTy falling no_store [] 0 shown Ty.unit
shown_typed =
    TmTy.is_op2 Rule2.t_app
    (TmTy.is_lam
    (TmTy.is_seq
    (TmTy.is_op1 (Rule1.t_install refl)
    (TmTy.is_adv {q = 0} (TmTy.is_pcd (TmsTy.is_more (TmTy.is_var refl) TmsTy.is_end) (LabelTys.a_type refl LabelTys.no_types)) refl (TmTy.is_op1 Rule1.t_print (TmTy.is_var refl))))
    (TmTy.is_op2 Rule2.t_mark (TmTy.is_var refl) (TmTy.is_val ValTy.v_number))))
    (TmTy.is_op0 (Rule0.t_new_label refl))

pub shown_safe : (G : Given) (n : ℕ) → EndsWell falling Ty.unit no_store (run n G 0 fresh shown)
shown_safe G n = program_safe falling falling_trans G shown_typed n
