-- A typing read backwards: what the rule of a term's form asks. All forms are matched here, once; a match at one form alone has all others to rule out.
use mathlib.Core.Path.{◌≡◌, refl, sym, subst}
use mathlib.Core.Bool.{true}
use mathlib.Core.List.{List, ◌∷◌, reverse_aux}
use mathlib.Core.Option.{some}
use lib.ListN.{get_elem?}
use Rattle.calculus.specs.Syntax.{Dom, Ty, Sigs, Tm, val, var, lam, op0, op1, op2, seq, ite, split, pcd, adv, lower, obj, keep, match}
use Rattle.calculus.specs.Typing.{Policy, StoreTyping, PatternTy, ◌⊢◌⦂◌ as Rule0, ◌⊢◌⦂◌⇒◌ as Rule1, ◌⊢◌⦂◌⇒◌⇒◌ as Rule2, LabelTys, ⊢◌⦂◌ as ValTy, ◌⨾◌⊢◌⦂◌ as TmTy, ◌⨾◌⊢*◌⦂◌ as TmsTy, ◌⊢ᵐ◌⦂◌ as BodiesTy, is_val, is_var, is_lam, is_op0, is_op1, is_op2, is_seq, is_ite, is_split, is_pcd, is_adv, is_lower, is_obj, is_keep, is_matching}

module _ (D : Policy) (Σ : StoreTyping) (Γ : List Ty) (c : Dom) where
  -- e has type u where the term stands.
  abbrev Here : Tm → Ty → Type 0
  Here e u = TmTy D Σ Γ c e u

  -- The premises of the rule that gives a term the type u: the types and domains that the term does not name, what u and the type that the term states are, and the rest in the rule's order.
  abbrev pub Premises : Tm → Ty → Type 0
  Premises (val v) u = ValTy D Σ v u
  Premises (var k) u = get_elem? Γ k ≡ some u
  Premises (lam t e) u = (a : Ty) × (p : Dom) × (b : Ty) × (t ≡ u) × (t ≡ Ty.fun a p b) × TmTy D Σ (a ∷ Γ) p e b
  Premises (op0 o t) u = (t ≡ u) × Rule0 D c o t
  Premises (op1 o t e) u = (a : Ty) × (t ≡ u) × Rule1 D c o a t × Here e a
  Premises (op2 o t e f) u = (a : Ty) × (b : Ty) × (t ≡ u) × Rule2 D c o a b t × Here e a × Here f b
  Premises (seq e f) u = Here e Ty.unit × Here f u
  Premises (ite e f g) u = Here e Ty.truth × Here f u × Here g u
  Premises (split e f) u = (a : Ty) × (b : Ty) × Here e (Ty.pair a b) × TmTy D Σ (b ∷ a ∷ Γ) c f u
  Premises (pcd es) u = (ts : List Ty) × (a : Ty) × (p : Dom) × (u ≡ Ty.pointcut a p) × TmsTy D Σ Γ c es ts × LabelTys D a p ts
  Premises (adv p e b) u = (a : Ty) × (q : Dom) × (u ≡ Ty.advice p) × Here e (Ty.pointcut a q) × (D.leq p q ≡ true) × TmTy D Σ (a ∷ Γ) p b Ty.unit
  Premises (lower p e) u = (u ≡ Ty.unit) × (D.leq p c ≡ true) × TmTy D Σ Γ p e Ty.unit
  Premises (obj t bs) u = (ms : Sigs) × (t ≡ u) × (t ≡ Ty.object ms) × BodiesTy D Σ (Ty.object ms ∷ Γ) bs ms
  Premises (keep e f g) u = (a : Ty) × Here e (Ty.label a c) × Here f a × Here g u
  Premises (match p es f g) u = (ts : List Ty) × (us : List Ty) × TmsTy D Σ Γ c es (Ty.stack ∷ ts) × PatternTy p ts us × TmTy D Σ (reverse_aux us Γ) c f u × Here g u

module _ {D : Policy} {Σ : StoreTyping} {Γ : List Ty} {c : Dom} where
  pub premises : {e : Tm} {u : Ty} → TmTy D Σ Γ c e u → Premises D Σ Γ c e u
  premises (is_val d) = d
  premises (is_var h) = h
  premises (is_lam {p = p} {a = a} {b = b} d) = (a, p, b, refl, refl, d)
  premises (is_op0 r) = (refl, r)
  premises (is_op1 {a = a} r d) = (a, refl, r, d)
  premises (is_op2 {a = a} {b = b} r d e) = (a, b, refl, r, d, e)
  premises (is_seq d e) = (d, e)
  premises (is_ite d e f) = (d, e, f)
  premises (is_split {a = a} {b = b} d e) = (a, b, d, e)
  premises (is_pcd {ts = ts} {p = p} {a = a} ds ls) = (ts, a, p, refl, ds, ls)
  premises (is_adv {q = q} {a = a} d h e) = (a, q, refl, d, h, e)
  premises (is_lower h d) = (refl, h, d)
  premises (is_obj {ms = ms} d) = (ms, refl, refl, d)
  premises (is_keep {a = a} d e f) = (a, d, e, f)
  premises (is_matching {ts = ts} {us = us} ds o e f) = (ts, us, ds, o, e, f)

  -- And forwards. Where u is only equal to the type that the rule gives, it is carried over here, once.
  pub concluded : (e : Tm) {u : Ty} → Premises D Σ Γ c e u → TmTy D Σ Γ c e u
  concluded (val v) h = is_val h
  concluded (var k) h = is_var h
  concluded (lam t e) h = subst (TmTy D Σ Γ c (lam t e)) h.3 (subst (λ x. TmTy D Σ Γ c (lam x e) x) (sym h.4) (is_lam h.5))
  concluded (op0 o t) h = subst (TmTy D Σ Γ c (op0 o t)) h.0 (is_op0 h.1)
  concluded (op1 o t e) h = subst (TmTy D Σ Γ c (op1 o t e)) h.1 (is_op1 h.2 h.3)
  concluded (op2 o t e f) h = subst (TmTy D Σ Γ c (op2 o t e f)) h.2 (is_op2 h.3 h.4 h.5)
  concluded (seq e f) h = is_seq h.0 h.1
  concluded (ite e f g) h = is_ite h.0 h.1 h.2
  concluded (split e f) h = is_split h.2 h.3
  concluded (pcd es) h = subst (TmTy D Σ Γ c (pcd es)) (sym h.3) (is_pcd h.4 h.5)
  concluded (adv p e b) h = subst (TmTy D Σ Γ c (adv p e b)) (sym h.2) (is_adv h.3 h.4 h.5)
  concluded (lower p e) h = subst (TmTy D Σ Γ c (lower p e)) (sym h.0) (is_lower h.1 h.2)
  concluded (obj t bs) h = subst (TmTy D Σ Γ c (obj t bs)) h.1 (subst (λ x. TmTy D Σ Γ c (obj x bs) x) (sym h.2) (is_obj h.3))
  concluded (keep e f g) h = is_keep h.1 h.2 h.3
  concluded (match p es f g) h = is_matching h.2 h.3 h.4 h.5
