-- Each domain rule of figure 3 turns one small term down (document 01, "Domain rules"): what low code could do to high code, or high code learn from low code, without it.
use mathlib.Core.Path.{◌≡◌, refl, sym, ap, subst, ◌∙◌}
use mathlib.Core.Bool.{true, false, ◌&&◌, ◌||◌, true≢false}
use mathlib.Core.List.{List, [], ◌∷◌}
use lib.Dec.{eqb}
use native.Mathlib.Omega.{arith}
use Rattle.calculus.specs.Syntax.{Dom, Ty, no_method, method, Val, Tm, val, var, lam, op0, op1, op2, seq, ite, split, pcd, adv, lower, obj, keep, match, end, more, new_label, takedown, install, read, new_cell, call, app, mark, store}
use Rattle.calculus.specs.Typing.{Policy, no_store, ◌⊢◌⦂◌ as Rule0, ◌⊢◌⦂◌⇒◌ as Rule1, ◌⊢◌⦂◌⇒◌⇒◌ as Rule2, ◌⨾◌⊢◌⦂◌ as TmTy, a_type, has_first, t_call, t_new_label, t_takedown, t_install, t_read, t_new_cell, t_app, t_mark, t_store, is_val, is_var, is_lam, is_op0, is_op1, is_op2, is_seq, is_ite, is_split, is_pcd, is_adv, is_lower, is_obj, is_keep, is_matching, is_end, is_more}
use Rattle.calculus.specs.Plain.{dom_of, methods_of, method_dom}

-- Two domains, 1 ≤ 0: the mainline is high, the watch low.
abbrev pub watched : Policy
watched = record { leq = λ p q. eqb p q || eqb p 1 && eqb q 0 }

-- With one variable of type x, at the domain c, e has no type t.
abbrev pub Refused : Ty → Dom → Tm → Ty → Type 0
Refused x c e t = TmTy watched no_store (x ∷ []) c e t → ⊥

abbrev three : Tm
three = val (Val.number 3)

-- 0 ≤ 1 does not hold.
upward : {X : Type 0} → false ≡ true → X
upward e = absurd (true≢false (sym e))

-- 0 is not 1.
apart : {X : Type 0} → ◌≡◌ {A = Dom} 0 1 → X
apart e = absurd (omega arith)

-- An operation's rule, and the typings of its operands. All forms are matched here, once; below, each theorem would have the other forms to rule out.
abbrev Operation : List Ty → Dom → Tm → Type 0
Operation Γ c (op0 o t) = Rule0 watched c o t
Operation Γ c (op1 o t e) = (a : Ty) × Rule1 watched c o a t × TmTy watched no_store Γ c e a
Operation Γ c (op2 o t e f) = (a : Ty) × (b : Ty) × Rule2 watched c o a b t × TmTy watched no_store Γ c e a
Operation Γ c (val v) = Unit {0}
Operation Γ c (var k) = Unit {0}
Operation Γ c (lam t e) = Unit {0}
Operation Γ c (seq e f) = Unit {0}
Operation Γ c (ite e f g) = Unit {0}
Operation Γ c (split e f) = Unit {0}
Operation Γ c (pcd es) = Unit {0}
Operation Γ c (adv p e b) = Unit {0}
Operation Γ c (lower p e) = Unit {0}
Operation Γ c (obj t bs) = Unit {0}
Operation Γ c (keep e f g) = Unit {0}
Operation Γ c (match p es f g) = Unit {0}

operation : {Γ : List Ty} {c : Dom} {e : Tm} {t : Ty} → TmTy watched no_store Γ c e t → Operation Γ c e
operation (is_op0 r) = r
operation (is_op1 {a = a} r d) = (a, r, d)
operation (is_op2 {a = a} {b = b} r d e) = (a, b, r, d)
operation (is_val d) = tt
operation (is_var h) = tt
operation (is_lam d) = tt
operation (is_seq d e) = tt
operation (is_ite d e f) = tt
operation (is_split d e) = tt
operation (is_pcd ds ls) = tt
operation (is_adv d h e) = tt
operation (is_lower h d) = tt
operation (is_obj d) = tt
operation (is_keep d e f) = tt
operation (is_matching ds o e f) = tt

-- The type of the variable.
variable : {c : Dom} {x t : Ty} → TmTy watched no_store (x ∷ []) c (var 0) t → t ≡ x
variable (is_var e) = cc

-- Low code applies no high function: one runs at the current domain.
applied : {c : Dom} {t a b : Ty} → Rule2 watched c app a b t → dom_of a ≡ c
applied t_app = refl

pub apply_refused : Refused (Ty.fun Ty.number 0 Ty.unit) 1 (op2 app Ty.unit (var 0) three) Ty.unit
apply_refused d = let r = operation d in apart (sym (ap dom_of (variable r.3)) ∙ applied r.2)

-- Low code calls no high method: one runs at the current domain.
called : {c : Dom} {t a : Ty} → Rule1 watched c (call 0) a t → method_dom (methods_of a) 0 ≡ c
called (t_call has_first) = refl

pub call_refused : Refused (Ty.object (method 0 Ty.unit no_method)) 1 (op1 (call 0) Ty.unit (var 0)) Ty.unit
call_refused d = let r = operation d in apart (sym (ap (λ s. method_dom (methods_of s) 0) (variable r.2)) ∙ called r.1)

-- Low code marks no high label: it is of the current domain.
marked : {c : Dom} {t a b : Ty} → Rule2 watched c mark a b t → dom_of a ≡ c
marked t_mark = refl

pub mark_refused : Refused (Ty.label Ty.number 0) 1 (op2 mark Ty.unit (var 0) three) Ty.unit
mark_refused d = let r = operation d in apart (sym (ap dom_of (variable r.3)) ∙ marked r.2)

-- Low code keeps nothing under a high label (card 6): it is of the current domain.
kept : {Γ : List Ty} {c : Dom} {t : Ty} {e f g : Tm} → TmTy watched no_store Γ c (keep e f g) t → (a : Ty) × TmTy watched no_store Γ c e a × (dom_of a ≡ c)
kept (is_keep d h k) = (_, d, refl)

pub keep_refused : Refused (Ty.label Ty.number 0) 1 (keep (var 0) three (val Val.unit)) Ty.unit
keep_refused d = let r = kept d in apart (sym (ap dom_of (variable r.1)) ∙ r.2)

-- A high pointcut names no low label: its domain is at or below each label's.
named : {Γ : List Ty} {c : Dom} {t : Ty} {e : Tm} → TmTy watched no_store Γ c (pcd (more e end)) t → (a : Ty) × TmTy watched no_store Γ c e a × (watched.leq (dom_of t) (dom_of a) ≡ true)
named (is_pcd (is_more d is_end) (a_type l n)) = (_, d, l)

pub pointcut_refused : Refused (Ty.label Ty.number 1) 0 (pcd (more (var 0) end)) (Ty.pointcut Ty.number 0)
pointcut_refused d = let r = named d in upward (subst (λ s. watched.leq 0 (dom_of s) ≡ true) (variable r.1) r.2)

-- High advice hangs on no low pointcut: its domain is at or below the pointcut's.
hung : {Γ : List Ty} {c p : Dom} {t : Ty} {e b : Tm} → TmTy watched no_store Γ c (adv p e b) t → (a : Ty) × TmTy watched no_store Γ c e a × (watched.leq p (dom_of a) ≡ true)
hung (is_adv d l h) = (_, d, l)

pub advice_refused : Refused (Ty.pointcut Ty.number 1) 0 (adv 0 (var 0) (val Val.unit)) (Ty.advice 0)
advice_refused d = let r = hung d in upward (subst (λ s. watched.leq 0 (dom_of s) ≡ true) (variable r.1) r.2)

-- Low code installs no high advice: its domain is at or below the current one.
installed : {c : Dom} {t a : Ty} → Rule1 watched c install a t → watched.leq (dom_of a) c ≡ true
installed (t_install l) = l

pub install_refused : Refused (Ty.advice 0) 1 (op1 install Ty.unit (var 0)) Ty.unit
install_refused d = let r = operation d in upward (subst (λ s. watched.leq (dom_of s) 1 ≡ true) (variable r.2) (installed r.1))

-- Low code takes no high advice down (card 7).
taken_down : {c p : Dom} {t : Ty} → Rule0 watched c (takedown p) t → watched.leq p c ≡ true
taken_down (t_takedown l) = l

pub takedown_refused : Refused Ty.unit 1 (op0 (takedown 0) Ty.unit) Ty.unit
takedown_refused d = upward (taken_down (operation d))

-- Low code makes no high label and no high cell.
labelled : {c : Dom} {t : Ty} → Rule0 watched c new_label t → watched.leq (dom_of t) c ≡ true
labelled (t_new_label l) = l

pub label_refused : Refused Ty.unit 1 (op0 new_label (Ty.label Ty.number 0)) (Ty.label Ty.number 0)
label_refused d = upward (labelled (operation d))

celled : {c : Dom} {t a : Ty} → Rule1 watched c new_cell a t → watched.leq (dom_of t) c ≡ true
celled (t_new_cell l) = l

pub cell_refused : Refused Ty.unit 1 (op1 new_cell (Ty.ref Ty.number 0) three) (Ty.ref Ty.number 0)
cell_refused d = upward (celled (operation d).1)

-- High code reads no low cell: the current domain is at or below the cell's.
opened : {c : Dom} {t a : Ty} → Rule1 watched c read a t → watched.leq c (dom_of a) ≡ true
opened (t_read l) = l

pub read_refused : Refused (Ty.ref Ty.number 1) 0 (op1 read Ty.number (var 0)) Ty.number
read_refused d = let r = operation d in upward (subst (λ s. watched.leq 0 (dom_of s) ≡ true) (variable r.2) (opened r.1))

-- Low code stores to no high cell: the cell's domain is at or below the current one.
stored : {c : Dom} {t a b : Ty} → Rule2 watched c store a b t → watched.leq (dom_of a) c ≡ true
stored (t_store l) = l

pub store_refused : Refused (Ty.ref Ty.number 0) 1 (op2 store Ty.unit (var 0) three) Ty.unit
store_refused d = let r = operation d in upward (subst (λ s. watched.leq (dom_of s) 1 ≡ true) (variable r.3) (stored r.2))

-- Low code does not raise itself, and a lowered body is checked at its own domain, not at the outer one.
lowered : {Γ : List Ty} {c p : Dom} {t : Ty} {e : Tm} → TmTy watched no_store Γ c (lower p e) t → (watched.leq p c ≡ true) × TmTy watched no_store Γ p e Ty.unit
lowered (is_lower l h) = (l, h)

pub raise_refused : Refused Ty.unit 1 (lower 0 (val Val.unit)) Ty.unit
raise_refused d = upward (lowered d).0

pub lowered_refused : Refused (Ty.ref Ty.number 0) 0 (lower 1 (op2 store Ty.unit (var 0) three)) Ty.unit
lowered_refused d = store_refused (lowered d).1
