-- What a typed term whose subterms are aborts says of their types: the calculus's rules read backwards.
use Prim.Native.Nat.{ℕ, zero, suc}
use mathlib.Core.Path.{◌≡◌, refl, sym, ap, subst, ◌∙◌}
use mathlib.Core.Bool.{Bool, true}
use mathlib.Core.List.{List, [], ◌∷◌}
use mathlib.Core.Option.{some}
use lib.ListN.{get_elem?}
use Rattle.calculus.specs.Syntax.{Dom, Ty, Sigs, Val, Tm, Tms, Op0, Op1, Op2, val, var, lam, op0, op1, op2, seq, ite, split, pcd, adv, lower, obj, keep, match, Pattern, new_label, abort, takedown, the_stack, print, install, read, byte, new_cell, call, app, mark, store, plus, minus, less, equal}
use Rattle.calculus.specs.Typing.{Policy, no_store, PatternTy, t_new_label, t_abort, t_takedown, t_stack, t_print, t_install, t_read, t_byte, t_new_cell, t_call, t_pair, t_app, t_mark, t_store, t_plus, t_minus, t_less, t_equal, LabelTys, ⊢◌⦂◌ as ValTy, ◌⨾◌⊢◌⦂◌ as TmTy, ◌⨾◌⊢*◌⦂◌ as TmsTy, ◌⊢ᵐ◌⦂◌ as BodiesTy, ◌⊢◌⦂◌ as Rule0, ◌⊢◌⦂◌⇒◌ as Rule1, ◌⊢◌⦂◌⇒◌⇒◌ as Rule2, v_unit, v_truth, v_number, is_end, is_more}
use Rattle.calculus.specs.Typing as Typing
use Rattle.calculus_safety.proofs.Inversion.{premises}
use Rattle.image.specs.Program.{op_of}
use Rattle.verdict.specs.WellTyped.{aborts}

-- 0 plus and 1 minus give a number, 2 less and 3 equal truth.
abbrev pub op_ty : ℕ → Ty
op_ty zero = Ty.number
op_ty (suc zero) = Ty.number
op_ty (suc (suc n)) = Ty.truth

-- Each family of rules is matched once, for every form: a match at one form alone has the cases of all the others to rule out.
module _ (D : Policy) (c : Dom) where
  -- What the rule of an operator asks of its own type and those of its operands.
  abbrev Asks0 : Op0 → Ty → Type 0
  Asks0 new_label t = (a : Ty) × (p : Dom) × (t ≡ Ty.label a p) × (D.leq p c ≡ true)
  Asks0 abort t = t ≡ t
  Asks0 (takedown p) t = (t ≡ Ty.unit) × (D.leq p c ≡ true)
  Asks0 the_stack t = t ≡ Ty.stack

  abbrev Asks1 : Op1 → Ty → Ty → Type 0
  Asks1 print t a = (t ≡ Ty.unit) × (a ≡ Ty.number)
  Asks1 install t a = (p : Dom) × (t ≡ Ty.unit) × (a ≡ Ty.advice p) × (D.leq p c ≡ true)
  Asks1 read t a = (p : Dom) × (a ≡ Ty.ref t p) × (D.leq c p ≡ true)
  Asks1 byte t a = (t ≡ Ty.number) × (a ≡ Ty.number)
  Asks1 new_cell t a = (p : Dom) × (t ≡ Ty.ref a p) × (D.leq p c ≡ true)
  Asks1 (call m) t a = (ms : Sigs) × (a ≡ Ty.object ms) × Typing.Has c t ms m

  abbrev Asks2 : Op2 → Ty → Ty → Ty → Type 0
  Asks2 Op2.pair t a b = t ≡ Ty.pair a b
  Asks2 app t a b = a ≡ Ty.fun b c t
  Asks2 mark t a b = (t ≡ Ty.unit) × (a ≡ Ty.label b c)
  Asks2 store t a b = (p : Dom) × (t ≡ Ty.unit) × (a ≡ Ty.ref b p) × (D.leq p c ≡ true)
  Asks2 plus t a b = (t ≡ Ty.number) × (a ≡ Ty.number) × (b ≡ Ty.number)
  Asks2 minus t a b = (t ≡ Ty.number) × (a ≡ Ty.number) × (b ≡ Ty.number)
  Asks2 less t a b = (t ≡ Ty.truth) × (a ≡ Ty.number) × (b ≡ Ty.number)
  Asks2 equal t a b = (t ≡ Ty.truth) × (a ≡ Ty.number) × (b ≡ Ty.number)

asked0 : {D : Policy} {c : Dom} {o : Op0} {t : Ty} → Rule0 D c o t → Asks0 D c o t
asked0 (t_new_label {a = a} {p = p} h) = (a, p, refl, h)
asked0 t_abort = refl
asked0 (t_takedown h) = (refl, h)
asked0 t_stack = refl

asked1 : {D : Policy} {c : Dom} {o : Op1} {t a : Ty} → Rule1 D c o a t → Asks1 D c o t a
asked1 t_print = (refl, refl)
asked1 (t_install {p = p} h) = (p, refl, refl, h)
asked1 (t_read {p = p} h) = (p, refl, h)
asked1 t_byte = (refl, refl)
asked1 (t_new_cell {p = p} h) = (p, refl, h)
asked1 (t_call {ms = ms} h) = (ms, refl, h)

asked2 : {D : Policy} {c : Dom} {o : Op2} {t a b : Ty} → Rule2 D c o a b t → Asks2 D c o t a b
asked2 t_pair = refl
asked2 t_app = refl
asked2 t_mark = (refl, refl)
asked2 (t_store {p = p} h) = (p, refl, refl, h)
asked2 t_plus = (refl, refl, refl)
asked2 t_minus = (refl, refl, refl)
asked2 t_less = (refl, refl, refl)
asked2 t_equal = (refl, refl, refl)

pub more_premises : {D : Policy} {Γ : List Ty} {c : Dom} {e : Tm} {es : Tms} {u : Ty} {us : List Ty} → TmsTy D no_store Γ c (Tms.more e es) (u ∷ us) → TmTy D no_store Γ c e u × TmsTy D no_store Γ c es us
more_premises (is_more d ds) = (d, ds)

-- An abort has the type that it states.
pub of_abort : {D : Policy} {Γ : List Ty} {c : Dom} {a u : Ty} → TmTy D no_store Γ c (op0 abort a) u → a ≡ u
of_abort d = (premises d).0

module _ (D : Policy) (Γ : List Ty) (c : Dom) where
  -- e has type u at Γ and c.
  abbrev Has : Tm → Ty → Type 0
  Has e u = TmTy D no_store Γ c e u

  value_unit : {u : Ty} → ValTy D no_store Val.unit u → u ≡ Ty.unit
  value_unit v_unit = refl

  value_truth : {b : Bool} {u : Ty} → ValTy D no_store (Val.truth b) u → u ≡ Ty.truth
  value_truth v_truth = refl

  value_number : {n : ℕ} {u : Ty} → ValTy D no_store (Val.number n) u → u ≡ Ty.number
  value_number v_number = refl

  pub of_unit : {u : Ty} → Has (val Val.unit) u → u ≡ Ty.unit
  of_unit d = value_unit (premises d)

  pub of_truth : {b : Bool} {u : Ty} → Has (val (Val.truth b)) u → u ≡ Ty.truth
  of_truth d = value_truth (premises d)

  pub of_number : {n : ℕ} {u : Ty} → Has (val (Val.number n)) u → u ≡ Ty.number
  of_number d = value_number (premises d)

  pub of_var : {k : ℕ} {u : Ty} → Has (var k) u → get_elem? Γ k ≡ some u
  of_var d = premises d

  pub of_seq : {a b u : Ty} → Has (seq (op0 abort a) (op0 abort b)) u → (a ≡ Ty.unit) × (b ≡ u)
  of_seq d = let r = premises d in (of_abort r.0, of_abort r.1)

  pub of_print : {t a u : Ty} → Has (op1 print t (op0 abort a)) u → (t ≡ Ty.unit) × (a ≡ Ty.number)
  of_print d = let r = premises d in let s = asked1 r.2 in (s.0, of_abort r.3 ∙ s.1)

  pub of_ite : {a b d u : Ty} → Has (ite (op0 abort a) (op0 abort b) (op0 abort d)) u → (a ≡ Ty.truth) × (b ≡ u) × (d ≡ u)
  of_ite d = let r = premises d in (of_abort r.0, of_abort r.1, of_abort r.2)

  pub of_pair : {t a b u : Ty} → Has (op2 Op2.pair t (op0 abort a) (op0 abort b)) u → t ≡ Ty.pair a b
  of_pair {a = a} d = let r = premises d in asked2 r.3 ∙ ap (λ x. Ty.pair x r.1) (sym (of_abort r.4)) ∙ ap (Ty.pair a) (sym (of_abort r.5))

  pub of_split : {a b u : Ty} → Has (split (op0 abort a) (op0 abort b)) u → (x : Ty) × (y : Ty) × (a ≡ Ty.pair x y) × (b ≡ u)
  of_split d = let r = premises d in (r.0, r.1, of_abort r.2, of_abort r.3)

  pub of_fun : {t b u : Ty} → Has (lam t (op0 abort b)) u → (x : Ty) × (p : Dom) × (t ≡ Ty.fun x p b)
  of_fun d = let r = premises d in (r.0, r.1, r.4 ∙ ap (Ty.fun r.0 r.1) (sym (of_abort r.5)))

  pub of_app : {t a b u : Ty} → Has (op2 app t (op0 abort a) (op0 abort b)) u → a ≡ Ty.fun b c t
  of_app {t = t} d = let r = premises d in of_abort r.4 ∙ asked2 r.3 ∙ ap (λ x. Ty.fun x c t) (sym (of_abort r.5))

  op_types : (x : ℕ) {t a b : Ty} → Asks2 D c (op_of x) t a b → (t ≡ op_ty x) × (a ≡ Ty.number) × (b ≡ Ty.number)
  op_types zero h = h
  op_types (suc zero) h = h
  op_types (suc (suc zero)) h = h
  op_types (suc (suc (suc x))) h = h

  pub of_arith : (x : ℕ) {t a b u : Ty} → Has (op2 (op_of x) t (op0 abort a) (op0 abort b)) u → (t ≡ op_ty x) × (a ≡ Ty.number) × (b ≡ Ty.number)
  of_arith x d = let r = premises d in let o = op_types x (asked2 r.3) in (o.0, of_abort r.4 ∙ o.1, of_abort r.5 ∙ o.2)

  pub of_new_label : {t u : Ty} → Has (op0 new_label t) u → (a : Ty) × (p : Dom) × (t ≡ Ty.label a p) × (D.leq p c ≡ true)
  of_new_label d = asked0 (premises d).1

  pub of_mark : {t a b u : Ty} → Has (op2 mark t (op0 abort a) (op0 abort b)) u → (t ≡ Ty.unit) × (a ≡ Ty.label b c)
  of_mark d = let r = premises d in let s = asked2 r.3 in (s.0, of_abort r.4 ∙ s.1 ∙ ap (λ x. Ty.label x c) (sym (of_abort r.5)))

  pub abort_types : (ts us : List Ty) → TmsTy D no_store Γ c (aborts ts) us → us ≡ ts
  abort_types [] us is_end = refl
  abort_types (t ∷ ts) us (is_more {ts = vs} d ds) = rw (of_abort d, abort_types ts vs ds) refl

  pub of_pcd : (ts : List Ty) {u : Ty} → Has (pcd (aborts ts)) u → (a : Ty) × (p : Dom) × (u ≡ Ty.pointcut a p) × LabelTys D a p ts
  of_pcd ts d = let r = premises d in (r.1, r.2, r.3, subst (λ vs. LabelTys D r.1 r.2 vs) (abort_types ts r.0 r.4) r.5)

  pub of_adv : {p : Dom} {a b u : Ty} → Has (adv p (op0 abort a) (op0 abort b)) u → (x : Ty) × (q : Dom) × (u ≡ Ty.advice p) × (a ≡ Ty.pointcut x q) × (b ≡ Ty.unit) × (D.leq p q ≡ true)
  of_adv d = let r = premises d in (r.0, r.1, r.2, of_abort r.3, of_abort r.5, r.4)

  pub of_install : {t a u : Ty} → Has (op1 install t (op0 abort a)) u → (p : Dom) × (t ≡ Ty.unit) × (a ≡ Ty.advice p) × (D.leq p c ≡ true)
  of_install d = let r = premises d in let s = asked1 r.2 in (s.0, s.1, of_abort r.3 ∙ s.2, s.3)

  pub of_new_cell : {t a u : Ty} → Has (op1 new_cell t (op0 abort a)) u → (p : Dom) × (t ≡ Ty.ref a p) × (D.leq p c ≡ true)
  of_new_cell d = let r = premises d in let s = asked1 r.2 in (s.0, s.1 ∙ ap (λ x. Ty.ref x s.0) (sym (of_abort r.3)), s.2)

  pub of_read : {t a u : Ty} → Has (op1 read t (op0 abort a)) u → (p : Dom) × (a ≡ Ty.ref t p) × (D.leq c p ≡ true)
  of_read d = let r = premises d in let s = asked1 r.2 in (s.0, of_abort r.3 ∙ s.1, s.2)

  pub of_store : {t a b u : Ty} → Has (op2 store t (op0 abort a) (op0 abort b)) u → (p : Dom) × (t ≡ Ty.unit) × (a ≡ Ty.ref b p) × (D.leq p c ≡ true)
  of_store d = let r = premises d in let s = asked2 r.3 in (s.0, s.1, of_abort r.4 ∙ s.2 ∙ ap (λ x. Ty.ref x s.0) (sym (of_abort r.5)), s.3)

  pub of_lower : {p : Dom} {a u : Ty} → Has (lower p (op0 abort a)) u → (u ≡ Ty.unit) × (a ≡ Ty.unit) × (D.leq p c ≡ true)
  of_lower d = let r = premises d in (r.0, of_abort r.2, r.1)

  pub of_byte : {t a u : Ty} → Has (op1 byte t (op0 abort a)) u → (t ≡ Ty.number) × (a ≡ Ty.number)
  of_byte d = let r = premises d in let s = asked1 r.2 in (s.0, of_abort r.3 ∙ s.1)

  -- Card 3.
  pub of_obj : {t u : Ty} {bs : Tms} → Has (obj t bs) u → (ms : Sigs) × (t ≡ Ty.object ms) × BodiesTy D no_store (Ty.object ms ∷ Γ) bs ms
  of_obj d = let r = premises d in (r.0, r.2, r.3)

  pub of_call : {m : ℕ} {t a u : Ty} → Has (op1 (call m) t (op0 abort a)) u → (ms : Sigs) × (a ≡ Ty.object ms) × Typing.Has c t ms m
  of_call d = let r = premises d in let s = asked1 r.2 in (s.0, of_abort r.3 ∙ s.1, s.2)

  -- Card 6.
  pub of_stack : {t u : Ty} → Has (op0 the_stack t) u → t ≡ Ty.stack
  of_stack d = asked0 (premises d).1

  pub of_keep : {a b d u : Ty} → Has (keep (op0 abort a) (op0 abort b) (op0 abort d)) u → (a ≡ Ty.label b c) × (d ≡ u)
  of_keep d = let r = premises d in (of_abort r.1 ∙ ap (λ x. Ty.label x c) (sym (of_abort r.2)), of_abort r.3)

  pub of_match : (p : Pattern) (xs : List Ty) {a b d u : Ty} → Has (match p (Tms.more (op0 abort a) (aborts xs)) (op0 abort b) (op0 abort d)) u
      → (us : List Ty) × (a ≡ Ty.stack) × (b ≡ u) × (d ≡ u) × PatternTy p xs us
  of_match p xs d =
      let r = premises d in
      let s = more_premises r.2 in
      (r.1, of_abort s.0, of_abort r.4, of_abort r.5, subst (λ v. PatternTy p v r.1) (abort_types xs r.0 s.1) r.3)

  pub of_takedown : {p : Dom} {t u : Ty} → Has (op0 (takedown p) t) u → (t ≡ Ty.unit) × (D.leq p c ≡ true)
  of_takedown d = asked0 (premises d).1
