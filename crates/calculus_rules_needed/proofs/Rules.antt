-- Each domain rule of document 01 and of the cards is needed, but those of new labels and of keeps, which demand 3 does without.
use Prim.Native.Nat.{ℕ}
use native.Mathlib.Omega.{arith}
use mathlib.Core.Path.{◌≡◌, refl}
use mathlib.Core.Bool.{true}
use mathlib.Core.List.{List, [], ◌∷◌}
use Rattle.calculus.specs.Combinators.{cases}
use Rattle.calculus.specs.Syntax.{Dom, Ty, Tm, var, lam, op0, op1, op2, seq, lower, obj, end, more, takedown, new_cell, call, app, store}
use Rattle.calculus.specs.State.{picked}
use Rattle.calculus.specs.Subst.{subst}
use Rattle.calculus.specs.Answer.{carry, by_capacity, with, spend}
use Rattle.calculus.specs.Step.{step}
use Rattle.calculus.specs.Run.{after, run}
use Rattle.calculus.specs.Typing.{Policy, no_store, ◌⨾◌⊢◌⦂◌ as TmTy, has_first, t_new_label, t_print, t_install, t_read, t_new_cell, t_app, t_mark, t_store, no_types, a_type, v_unit, v_number, is_val, is_var, is_lam, is_op0, is_op1, is_op2, is_seq, is_pcd, is_adv, is_lower, is_obj, is_end, is_more, no_body, a_body}
use Rattle.calculus.specs.Blank.{blank}
use Rattle.calculus.specs.Accepted.{Accepted}
use Rattle.calculus_noninterference.specs.Observe.{high_of}
use Rattle.calculus_rules_needed.specs.Need.{apply_rule, call_rule, mark_rule, cell_rule, store_rule, install_rule, takedown_rule, read_rule, lower_rule, body_rule, pointcut_rule, advice_rule, but_apply, but_call, but_mark, but_cell, but_store, but_install, but_takedown, but_read, but_lower, but_body, but_pointcut, but_advice, Ordered, Needed}
use Rattle.calculus_rules_needed.proofs.Programs.{number, unit, one_method, say, on_label, watching, put, with_cell, read_it, store_it, with_label, mark_it, results_differ, prints_differ, cells_differ}

-- What the programs have in common.
accepted_number : {D : Policy} {e : Tm} → TmTy D no_store [] 0 e Ty.number → Accepted D e
accepted_number h = record { type = Ty.number; typed = h; plain = refl }

accepted_unit : {D : Policy} {e : Tm} → TmTy D no_store [] 0 e Ty.unit → Accepted D e
accepted_unit h = record { type = Ty.unit; typed = h; plain = refl }

typed_say : {D : Policy} {Γ : List Ty} {c : Dom} (n : ℕ) → TmTy D no_store Γ c (say (number n)) Ty.unit
typed_say n = is_op1 t_print (is_val v_number)

accepted_cell : {D : Policy} {q : Dom} {e f : Tm} → D.leq q 0 ≡ true → TmTy D no_store (Ty.ref Ty.number q ∷ []) 0 e Ty.unit → TmTy D no_store (Ty.ref Ty.number q ∷ []) 0 f Ty.number → Accepted D (with_cell q e f)
accepted_cell n h k = accepted_number (is_op2 t_app (is_lam (is_seq h k)) (is_op1 (t_new_cell n) (is_val v_number)))

accepted_label : {D : Policy} {q : Dom} {e f : Tm} → D.leq q 0 ≡ true → TmTy D no_store (Ty.label Ty.number q ∷ []) 0 e Ty.unit → TmTy D no_store (Ty.label Ty.number q ∷ []) 0 f Ty.unit → Accepted D (with_label q e f)
accepted_label n h k = accepted_unit (is_op2 t_app (is_lam (is_seq h (is_seq k (typed_say 5)))) (is_op0 (t_new_label n)))

module _ {D : Policy} (o : Ordered D) where
  -- 1<()>, and the steps that some programs make at their proper domain.
  typed_nothing : {Γ : List Ty} → TmTy D no_store Γ 0 (lower 1 unit) Ty.unit
  typed_nothing = is_lower o.below (is_val v_unit)

  typed_mark : {Γ : List Ty} {c : Dom} → TmTy D no_store (Ty.label Ty.number c ∷ Γ) c mark_it Ty.unit
  typed_mark = is_op2 t_mark (is_var refl) (is_val v_number)

  typed_on : {Γ : List Ty} {c p q : Dom} → D.leq p q ≡ true → TmTy D no_store (Ty.label Ty.number q ∷ Γ) c on_label (Ty.pointcut Ty.number p)
  typed_on l = is_pcd (is_more (is_var refl) is_end) (a_type l no_types)

  typed_watching : {Γ : List Ty} {c : Dom} {e : Tm} → TmTy D no_store Γ c e (Ty.pointcut Ty.number 0) → TmTy D no_store Γ c (watching e) (Ty.advice 0)
  typed_watching h = is_adv h o.high (is_op1 t_print (is_var refl))

  typed_put : {Γ : List Ty} {e : Tm} → TmTy D no_store Γ 0 e (Ty.advice 0) → TmTy D no_store Γ 0 (put e) Ty.unit
  typed_put h = is_op1 (t_install o.high) h

  typed_read : {Γ : List Ty} → TmTy D no_store (Ty.ref Ty.number 0 ∷ Γ) 0 read_it Ty.number
  typed_read = is_op1 (t_read o.high) (is_var refl)

-- High code that ran a low function would hand on what it gives: (λ f. f ()) (λ_1 x. 3), and with 4.
pub apply_low_needed : Needed apply_rule 0
unfolding blank high_of run after cases step carry by_capacity with spend picked subst
apply_low_needed = record {
  context = Ty.fun Ty.unit 1 Ty.number ∷ [];
  type = Ty.number;
  term = op2 app Ty.number (var 0) unit;
  lacks = λ D o. but_apply (is_var refl) (is_val v_unit);
  left = λ e. op2 app Ty.number (lam (Ty.fun (Ty.fun Ty.unit 1 Ty.number) 0 Ty.number) e) (lam (Ty.fun Ty.unit 1 Ty.number) (number 3));
  right = λ e. op2 app Ty.number (lam (Ty.fun (Ty.fun Ty.unit 1 Ty.number) 0 Ty.number) e) (lam (Ty.fun Ty.unit 1 Ty.number) (number 4));
  fits = λ D o e h. (accepted_number (is_op2 t_app (is_lam h) (is_lam (is_val v_number))), accepted_number (is_op2 t_app (is_lam h) (is_lam (is_val v_number))));
  alike = refl;
  differ = results_differ 3 4 refl refl (λ z. omega arith);
}

-- Low code that ran a high function would store to high cells.
pub apply_high_needed : Needed apply_rule 1
unfolding blank high_of run after cases step carry by_capacity with spend picked subst
apply_high_needed = record {
  context = Ty.ref Ty.number 0 ∷ [];
  type = Ty.unit;
  term = op2 app Ty.unit (lam (Ty.fun Ty.number 0 Ty.unit) (op2 store Ty.unit (var 1) (var 0))) (number 3);
  lacks = λ D o. but_apply (is_lam (is_op2 (t_store o.high) (is_var refl) (is_var refl))) (is_val v_number);
  left = λ e. with_cell 0 (lower 1 e) read_it;
  right = λ e. with_cell 0 (lower 1 unit) read_it;
  fits = λ D o e h. (accepted_cell o.high (is_lower o.below h) (typed_read o), accepted_cell o.high (typed_nothing o) (typed_read o));
  alike = refl;
  differ = results_differ 3 0 refl refl (λ z. omega arith);
}

-- The same of calls (card 3). High code that called a low method would hand on what it gives: (λ x. x.0) [ς_1 s. 3], and with 4.
pub call_low_needed : Needed call_rule 0
unfolding blank high_of run after cases step carry by_capacity with spend picked subst
call_low_needed = record {
  context = one_method 1 Ty.number ∷ [];
  type = Ty.number;
  term = op1 (call 0) Ty.number (var 0);
  lacks = λ D o. but_call has_first (is_var refl);
  left = λ e. op2 app Ty.number (lam (Ty.fun (one_method 1 Ty.number) 0 Ty.number) e) (obj (one_method 1 Ty.number) (more (number 3) end));
  right = λ e. op2 app Ty.number (lam (Ty.fun (one_method 1 Ty.number) 0 Ty.number) e) (obj (one_method 1 Ty.number) (more (number 4) end));
  fits = λ D o e h. (
    accepted_number (is_op2 t_app (is_lam h) (is_obj (a_body (is_val v_number) no_body))),
    accepted_number (is_op2 t_app (is_lam h) (is_obj (a_body (is_val v_number) no_body))),
  );
  alike = refl;
  differ = results_differ 3 4 refl refl (λ z. omega arith);
}

-- Low code that called a high method would store to high cells.
pub call_high_needed : Needed call_rule 1
unfolding blank high_of run after cases step carry by_capacity with spend picked subst
call_high_needed = record {
  context = Ty.ref Ty.number 0 ∷ [];
  type = Ty.unit;
  term = op1 (call 0) Ty.unit (obj (one_method 0 Ty.unit) (more (op2 store Ty.unit (var 1) (number 3)) end));
  lacks = λ D o. but_call has_first (is_obj (a_body (is_op2 (t_store o.high) (is_var refl) (is_val v_number)) no_body));
  left = λ e. with_cell 0 (lower 1 e) read_it;
  right = λ e. with_cell 0 (lower 1 unit) read_it;
  fits = λ D o e h. (accepted_cell o.high (is_lower o.below h) (typed_read o), accepted_cell o.high (typed_nothing o) (typed_read o));
  alike = refl;
  differ = results_differ 3 0 refl refl (λ z. omega arith);
}

-- Low code that marked a high label would run high advice.
pub mark_needed : Needed mark_rule 1
unfolding blank high_of run after cases step carry by_capacity with spend picked subst
mark_needed = record {
  context = Ty.label Ty.number 0 ∷ [];
  type = Ty.unit;
  term = mark_it;
  lacks = λ D o. but_mark (is_var refl) (is_val v_number);
  left = λ e. with_label 0 (put (watching on_label)) (lower 1 e);
  right = λ e. with_label 0 (put (watching on_label)) (lower 1 unit);
  fits = λ D o e h. (
    accepted_label o.high (typed_put o (typed_watching o (typed_on o o.high))) (is_lower o.below h),
    accepted_label o.high (typed_put o (typed_watching o (typed_on o o.high))) (typed_nothing o),
  );
  alike = refl;
  differ = prints_differ 3 5 _ _ refl refl (λ z. omega arith);
}

-- A high pointcut that named a low label would let low code run high advice.
pub pointcut_needed : Needed pointcut_rule 0
unfolding blank high_of run after cases step carry by_capacity with spend picked subst
pointcut_needed = record {
  context = Ty.label Ty.number 1 ∷ [];
  type = Ty.pointcut Ty.number 0;
  term = on_label;
  lacks = λ D o. but_pointcut (is_var refl);
  left = λ e. with_label 1 (put (watching e)) (lower 1 mark_it);
  right = λ e. with_label 1 (put (watching e)) (lower 1 unit);
  fits = λ D o e h. (
    accepted_label o.below (typed_put o (typed_watching o h)) (is_lower o.below (typed_mark o)),
    accepted_label o.below (typed_put o (typed_watching o h)) (typed_nothing o),
  );
  alike = refl;
  differ = prints_differ 3 5 _ _ refl refl (λ z. omega arith);
}

-- High advice on a low pointcut likewise.
pub advice_needed : Needed advice_rule 0
unfolding blank high_of run after cases step carry by_capacity with spend picked subst
advice_needed = record {
  context = Ty.label Ty.number 1 ∷ [];
  type = Ty.advice 0;
  term = watching on_label;
  lacks = λ D o. but_advice (typed_on o o.low) (is_op1 t_print (is_var refl));
  left = λ e. with_label 1 (put e) (lower 1 mark_it);
  right = λ e. with_label 1 (put e) (lower 1 unit);
  fits = λ D o e h. (accepted_label o.below (typed_put o h) (is_lower o.below (typed_mark o)), accepted_label o.below (typed_put o h) (typed_nothing o));
  alike = refl;
  differ = prints_differ 3 5 _ _ refl refl (λ z. omega arith);
}

-- Low code that installed high advice would have it run at high marks.
pub install_needed : Needed install_rule 1
unfolding blank high_of run after cases step carry by_capacity with spend picked subst
install_needed = record {
  context = Ty.label Ty.number 0 ∷ [];
  type = Ty.unit;
  term = put (watching on_label);
  lacks = λ D o. but_install (typed_watching o (typed_on o o.high));
  left = λ e. with_label 0 (lower 1 e) mark_it;
  right = λ e. with_label 0 (lower 1 unit) mark_it;
  fits = λ D o e h. (accepted_label o.high (is_lower o.below h) (typed_mark o), accepted_label o.high (typed_nothing o) (typed_mark o));
  alike = refl;
  differ = prints_differ 3 5 _ _ refl refl (λ z. omega arith);
}

-- Low code that took high advice down would keep it from high marks (card 7).
pub takedown_needed : Needed takedown_rule 1
unfolding blank high_of run after cases step carry by_capacity with spend picked subst
takedown_needed = record {
  context = Ty.label Ty.number 0 ∷ [];
  type = Ty.unit;
  term = op0 (takedown 0) Ty.unit;
  lacks = λ D o. but_takedown;
  left = λ e. with_label 0 (put (watching on_label)) (seq (lower 1 e) mark_it);
  right = λ e. with_label 0 (put (watching on_label)) (seq (lower 1 unit) mark_it);
  fits = λ D o e h. (
    accepted_label o.high (typed_put o (typed_watching o (typed_on o o.high))) (is_seq (is_lower o.below h) (typed_mark o)),
    accepted_label o.high (typed_put o (typed_watching o (typed_on o o.high))) (is_seq (typed_nothing o) (typed_mark o)),
  );
  alike = refl;
  differ = prints_differ 5 3 _ _ refl refl (λ z. omega arith);
}

-- Low code that made a high cell would add to the high cells.
pub cell_needed : Needed cell_rule 1
unfolding blank high_of run after cases step carry by_capacity with spend picked subst
cell_needed = record {
  context = [];
  type = Ty.ref Ty.number 0;
  term = op1 new_cell (Ty.ref Ty.number 0) (number 3);
  lacks = λ D o. but_cell (is_val v_number);
  left = λ e. lower 1 (op2 app Ty.unit (lam (Ty.fun (Ty.ref Ty.number 0) 1 Ty.unit) unit) e);
  right = λ e. lower 1 unit;
  fits = λ D o e h. (accepted_unit (is_lower o.below (is_op2 t_app (is_lam (is_val v_unit)) h)), accepted_unit (typed_nothing o));
  alike = refl;
  differ = cells_differ 1 0 refl refl refl refl (λ z. omega arith);
}

-- High code that read a low cell would learn what low code stored.
pub read_needed : Needed read_rule 0
unfolding blank high_of run after cases step carry by_capacity with spend picked subst
read_needed = record {
  context = Ty.ref Ty.number 1 ∷ [];
  type = Ty.number;
  term = read_it;
  lacks = λ D o. but_read (is_var refl);
  left = λ e. with_cell 1 (lower 1 store_it) e;
  right = λ e. with_cell 1 (lower 1 unit) e;
  fits = λ D o e h. (accepted_cell o.below (is_lower o.below (is_op2 (t_store o.low) (is_var refl) (is_val v_number))) h, accepted_cell o.below (typed_nothing o) h);
  alike = refl;
  differ = results_differ 3 0 refl refl (λ z. omega arith);
}

-- Low code that stored to a high cell would change what high code reads.
pub store_needed : Needed store_rule 1
unfolding blank high_of run after cases step carry by_capacity with spend picked subst
store_needed = record {
  context = Ty.ref Ty.number 0 ∷ [];
  type = Ty.unit;
  term = store_it;
  lacks = λ D o. but_store (is_var refl) (is_val v_number);
  left = λ e. with_cell 0 (lower 1 e) read_it;
  right = λ e. with_cell 0 (lower 1 unit) read_it;
  fits = λ D o e h. (accepted_cell o.high (is_lower o.below h) (typed_read o), accepted_cell o.high (typed_nothing o) (typed_read o));
  alike = refl;
  differ = results_differ 3 0 refl refl (λ z. omega arith);
}

-- Low code that raised itself would print at a high domain.
pub lower_needed : Needed lower_rule 1
unfolding blank high_of run after cases step carry by_capacity with spend picked subst
lower_needed = record {
  context = [];
  type = Ty.unit;
  term = lower 0 (say (number 3));
  lacks = λ D o. but_lower (typed_say 3);
  left = λ e. seq (lower 1 e) (say (number 5));
  right = λ e. seq (lower 1 unit) (say (number 5));
  fits = λ D o e h. (accepted_unit (is_seq (is_lower o.below h) (typed_say 5)), accepted_unit (is_seq (typed_nothing o) (typed_say 5)));
  alike = refl;
  differ = prints_differ 3 5 _ _ refl refl (λ z. omega arith);
}

-- A lowered body that was checked at the outer domain would store to a high cell.
pub lowered_needed : Needed body_rule 0
unfolding blank high_of run after cases step carry by_capacity with spend picked subst
lowered_needed = record {
  context = Ty.ref Ty.number 0 ∷ [];
  type = Ty.unit;
  term = lower 1 store_it;
  lacks = λ D o. but_body o.below (is_op2 (t_store o.high) (is_var refl) (is_val v_number));
  left = λ e. with_cell 0 e read_it;
  right = λ e. with_cell 0 (lower 1 unit) read_it;
  fits = λ D o e h. (accepted_cell o.high h (typed_read o), accepted_cell o.high (typed_nothing o) (typed_read o));
  alike = refl;
  differ = results_differ 3 0 refl refl (λ z. omega arith);
}
