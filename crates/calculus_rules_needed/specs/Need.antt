-- When a domain rule is needed for demand 3 ("Two runs compared"): two programs that differ only in low bodies and violate only this rule, and whose runs show different things at the high domains.
use Rattle.std.specs.Prelude.{ℕ, ◌≡◌, Bool, true, List, [], ◌∷◌, eqb}
use Rattle.calculus.specs.Syntax.{Dom, Ty, Sigs, Tm, op0, op1, op2, pcd, adv, lower, end, more, takedown, install, read, new_cell, call, app, mark, store}
use Rattle.calculus.specs.State.{Given, fresh}
use Rattle.calculus.specs.Run.{Ended, run}
use Rattle.calculus.specs.Typing.{Policy, Has, no_store, ◌⨾◌⊢◌⦂◌ as TmTy}
use Rattle.calculus.specs.Blank.{blank}
use Rattle.calculus.specs.Accepted.{Accepted}
use Rattle.calculus_noninterference.specs.Observe.{Same}

-- Document 01, "Domain rules", but that of new labels, which demand 3 does without, as it does without card 6's rule of keeps; and "the body of lower at its field p"; card 3, "a call needs that domain to be the current one"; card 7, a takedown's domain "must be ≤ the current one".
pub data DomainRule : Type 0 where
  apply_rule call_rule mark_rule cell_rule store_rule install_rule takedown_rule read_rule lower_rule body_rule pointcut_rule advice_rule : DomainRule

module _ (D : Policy) (Γ : List Ty) (c : Dom) where
  -- A term at the current domain c that has its type by figure 3 if the domain premise of its rule is left out.
  pub data Lacks : DomainRule → Tm → Ty → Type 0 where
    -- e1 e2: the function's domain need not be c
    but_apply : {a b : Ty} {p : Dom} {e f : Tm} → TmTy D no_store Γ c e (Ty.fun a p b) → TmTy D no_store Γ c f a → Lacks apply_rule (op2 app b e f) b
    -- e.m: the method's domain need not be c
    but_call : {b : Ty} {p : Dom} {ms : Sigs} {m : ℕ} {e : Tm} → Has p b ms m → TmTy D no_store Γ c e (Ty.object ms) → Lacks call_rule (op1 (call m) b e) b
    -- e1[e2]: the label's domain need not be c
    but_mark : {a : Ty} {p : Dom} {e f : Tm} → TmTy D no_store Γ c e (Ty.label a p) → TmTy D no_store Γ c f a → Lacks mark_rule (op2 mark Ty.unit e f) Ty.unit
    -- ref_p e: no p ≤ c
    but_cell : {a : Ty} {p : Dom} {e : Tm} → TmTy D no_store Γ c e a → Lacks cell_rule (op1 new_cell (Ty.ref a p) e) (Ty.ref a p)
    -- e1 := e2: no p ≤ c
    but_store : {a : Ty} {p : Dom} {e f : Tm} → TmTy D no_store Γ c e (Ty.ref a p) → TmTy D no_store Γ c f a → Lacks store_rule (op2 store Ty.unit e f) Ty.unit
    -- ⇑ e: no p ≤ c
    but_install : {p : Dom} {e : Tm} → TmTy D no_store Γ c e (Ty.advice p) → Lacks install_rule (op1 install Ty.unit e) Ty.unit
    -- a takedown of p: no p ≤ c
    but_takedown : {p : Dom} → Lacks takedown_rule (op0 (takedown p) Ty.unit) Ty.unit
    -- !e: no c ≤ p
    but_read : {a : Ty} {p : Dom} {e : Tm} → TmTy D no_store Γ c e (Ty.ref a p) → Lacks read_rule (op1 read a e) a
    -- p<e>: no p ≤ c
    but_lower : {p : Dom} {e : Tm} → TmTy D no_store Γ p e Ty.unit → Lacks lower_rule (lower p e) Ty.unit
    -- p<e>: e is typed at c, not at p
    but_body : {p : Dom} {e : Tm} → D.leq p c ≡ true → TmTy D no_store Γ c e Ty.unit → Lacks body_rule (lower p e) Ty.unit
    -- {e}_p, of a label of domain q: no p ≤ q
    but_pointcut : {a : Ty} {p q : Dom} {e : Tm} → TmTy D no_store Γ c e (Ty.label a q) → Lacks pointcut_rule (pcd (more e end)) (Ty.pointcut a p)
    -- {e1.x →_p e2}, of a pointcut of domain q: no p ≤ q
    but_advice : {a : Ty} {p q : Dom} {e b : Tm} → TmTy D no_store Γ c e (Ty.pointcut a q) → TmTy D no_store (a ∷ Γ) p b Ty.unit → Lacks advice_rule (adv p e b) (Ty.advice p)

-- Two domains: 0 is high, 1 is low and below it.
pub record Ordered (D : Policy) : Type 0 where
  pub high : D.leq 0 0 ≡ true
  pub low : D.leq 1 1 ≡ true
  pub below : D.leq 1 0 ≡ true

-- "High" is document 01's word ("Two runs compared"): here domain 0 alone is high, and every other domain is low.
abbrev pub is_high : Dom → Bool
is_high p = eqb p 0

-- Runs of at most 100 steps, with room for ten prints.
abbrev pub budget : ℕ
budget = 100

abbrev pub given : Given
given = record { frame = []; log_length = 100 }

abbrev pub ran : Tm → Ended
ran e = run budget given 0 fresh e

-- The rule is needed at the current domain c.
pub record Needed (rule : DomainRule) (c : Dom) : Type 0 where
  -- a term that violates only this rule
  pub context : List Ty
  pub type : Ty
  pub term : Tm
  pub lacks : (D : Policy) → Ordered D → Lacks D context c rule term type
  -- two programs with a hole, accepted with any term of that type in it
  pub left : Tm → Tm
  pub right : Tm → Tm
  pub fits : (D : Policy) → Ordered D → (e : Tm) → TmTy D no_store context c e type → Accepted D (left e) × Accepted D (right e)
  -- with the term in it they differ only in low bodies, and demand 3 fails
  pub alike : blank is_high (left term) ≡ blank is_high (right term)
  pub differ : Same is_high (ran (left term)) (ran (right term)) → ⊥
