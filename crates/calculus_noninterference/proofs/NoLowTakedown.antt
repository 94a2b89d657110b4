-- Card 13: calm values in the place of variables of calm terms, and what is made of calm values.
use Prim.Native.Nat.{ℕ, zero, suc}
use mathlib.Core.Path.{◌≡◌, subst as transp}
use mathlib.Core.Bool.{Bool, true, false}
use mathlib.Core.List.{List, [], ◌∷◌}
use mathlib.Core.Option.{Option, none, some, some-injective}
use lib.ListN.{length, set, get_elem?}
use lib.Dec.{eqb, ltb}
use Rattle.calculus.specs.Combinators.{choose, cases}
use Rattle.calculus.specs.Syntax.{Dom, Sigs, no_method, method, Val, Tm, Tms, Pattern, at_end, at_rest, anything, pointcut, as_value, val, var, lam, op0, op1, op2, seq, ite, split, pcd, adv, lower, obj, keep, match, end, more}
use Rattle.calculus.specs.Subst.{subst, substs, under}
use Rattle.calculus.specs.State.{Advice, Entry, State, fresh}
use Rattle.calculus.specs.View.{labels_of, top_of}
use Rattle.calculus.specs.Plain.{methods_of}
use Rattle.calculus.specs.Place.{kept_on_of}
use Rattle.calculus.specs.Compose.{composed}
use Rattle.calculus.specs.Reduce.{stack_val, hits, cons_found, matched, subst_all}
use Rattle.calculus.specs.Step.{before}
use Rattle.laws.proofs.Lists.{All, All.all_nil, All.all_cons}
use Rattle.calculus_safety.proofs.Safe.{Found, Found.found, Found.nothing}
use Rattle.calculus_noninterference.specs.NoLowTakedown.{NoLowTakedown, NoLowTakedowns, NoLowTakedownBodies, NoLowTakedownVal}
use Rattle.calculus_noninterference.proofs.Clash.{no_some}

-- A fact of each element holds of the one at a place, and of each after one is replaced.
pub all_get : {A : Type 0} {P : A → Type 0} {x : List A} → All P x → (i : ℕ) {a : A} → get_elem? x i ≡ some a → P a
all_get all_nil i e = no_some e
all_get {P} (all_cons {x = b} p ps) zero {a} e = transp P (some-injective b a e) p
all_get (all_cons p ps) (suc i) e = all_get ps i e

pub all_set : {A : Type 0} {P : A → Type 0} {x : List A} {a : A} (i : ℕ) → All P x → P a → All P (set x i a)
all_set i all_nil q = all_nil
all_set zero (all_cons p ps) q = all_cons q ps
all_set (suc i) (all_cons p ps) q = all_cons p (all_set i ps q)

module _ (hi : Dom → Bool) where
  -- A state whose cells and installed advice are calm, and calm kept values.
  pub record NoLowTakedownState (s : State) : Type 0 where
    pub cells : All (λ a. NoLowTakedownVal hi a.held) s.cells
    pub advices : All (λ a. NoLowTakedown hi a.dom a.body) s.advices

  abbrev pub NoLowTakedownKept : List (Entry Val) → Type 0
  NoLowTakedownKept = All (λ a. NoLowTakedownVal hi a.held)

  abbrev pub NoLowTakedownVals : List Val → Type 0
  NoLowTakedownVals = All (NoLowTakedownVal hi)

  pub no_low_takedown_fresh : NoLowTakedownState fresh
  no_low_takedown_fresh = record { cells = all_nil; advices = all_nil }

  -- Substitution.
  no_low_takedown_var : (c : Dom) (v : Val) (i j : ℕ) (b d : Bool) → NoLowTakedownVal hi v → NoLowTakedown hi c (choose b (val v) (choose d (var i) (var j)))
  unfolding NoLowTakedown
  no_low_takedown_var c v i j true d h = h
  no_low_takedown_var c v i j false true h = tt
  no_low_takedown_var c v i j false false h = tt

  module _ (v : Val) (h : NoLowTakedownVal hi v) where
    mutual
      unfolding subst substs NoLowTakedown NoLowTakedowns NoLowTakedownBodies

      pub no_low_takedown_subst : (c : Dom) (k : ℕ) (e : Tm) → NoLowTakedown hi c e → NoLowTakedown hi c (subst k v e)
      no_low_takedown_subst c k (val w) x = x
      no_low_takedown_subst c k (var i) x = no_low_takedown_var c v _ _ (eqb i k) (ltb k i) h
      no_low_takedown_subst c k (lam t b) x = no_low_takedown_subst _ (suc k) b x
      no_low_takedown_subst c k (op0 o t) x = x
      no_low_takedown_subst c k (op1 o t e) x = no_low_takedown_subst c k e x
      no_low_takedown_subst c k (op2 o t e f) x = (no_low_takedown_subst c k e x.0, no_low_takedown_subst c k f x.1)
      no_low_takedown_subst c k (seq e f) x = (no_low_takedown_subst c k e x.0, no_low_takedown_subst c k f x.1)
      no_low_takedown_subst c k (ite e f g) x = (no_low_takedown_subst c k e x.0, no_low_takedown_subst c k f x.1, no_low_takedown_subst c k g x.2)
      no_low_takedown_subst c k (split e f) x = (no_low_takedown_subst c k e x.0, no_low_takedown_subst c (suc (suc k)) f x.1)
      no_low_takedown_subst c k (pcd es) x = no_low_takedown_substs c k es x
      no_low_takedown_subst c k (adv p e b) x = (no_low_takedown_subst c k e x.0, no_low_takedown_subst p (suc k) b x.1)
      no_low_takedown_subst c k (lower p e) x = no_low_takedown_subst p k e x
      no_low_takedown_subst c k (obj t bs) x = no_low_takedown_bodies (suc k) (methods_of t) bs x
      no_low_takedown_subst c k (keep e f g) x = (no_low_takedown_subst c k e x.0, no_low_takedown_subst c k f x.1, no_low_takedown_subst c k g x.2)
      no_low_takedown_subst c k (match p es f g) x = (no_low_takedown_substs c k es x.0, no_low_takedown_subst c (under p k) f x.1, no_low_takedown_subst c k g x.2)

      no_low_takedown_substs : (c : Dom) (k : ℕ) (es : Tms) → NoLowTakedowns hi c es → NoLowTakedowns hi c (substs k v es)
      no_low_takedown_substs c k end x = tt
      no_low_takedown_substs c k (more e es) x = (no_low_takedown_subst c k e x.0, no_low_takedown_substs c k es x.1)

      no_low_takedown_bodies : (k : ℕ) (ms : Sigs) (bs : Tms) → NoLowTakedownBodies hi ms bs → NoLowTakedownBodies hi ms (substs k v bs)
      no_low_takedown_bodies k ms end x = tt
      no_low_takedown_bodies k no_method (more e bs) x = (no_low_takedown_subst 0 k e x.0, no_low_takedown_bodies k no_method bs x.1)
      no_low_takedown_bodies k (method p a ms) (more e bs) x = (no_low_takedown_subst p k e x.0, no_low_takedown_bodies k ms bs x.1)

  pub no_low_takedown_subst_all : (c : Dom) {vs : List Val} → NoLowTakedownVals vs → (f : Tm) → NoLowTakedown hi c f → NoLowTakedown hi c (subst_all vs f)
  no_low_takedown_subst_all c all_nil f x = x
  no_low_takedown_subst_all c (all_cons {x = v} {xs = vs} h hs) f x = no_low_takedown_subst_all c hs (subst (length vs) v f) (no_low_takedown_subst v h c (length vs) f x)

  -- The value that a calm term is, values put back among operands, and the stack of what is kept.
  pub no_low_takedown_value : (c : Dom) (e : Tm) {v : Val} → as_value e ≡ some v → NoLowTakedown hi c e → NoLowTakedownVal hi v
  unfolding NoLowTakedown NoLowTakedownVal
  no_low_takedown_value c (val u) q x = transp (NoLowTakedownVal hi) (some-injective _ _ q) x
  no_low_takedown_value c (var k) q x = no_some q
  no_low_takedown_value c (lam t b) q x = transp (NoLowTakedownVal hi) (some-injective (Val.fun t b) _ q) x
  no_low_takedown_value c (op0 o t) q x = no_some q
  no_low_takedown_value c (op1 o t e) q x = no_some q
  no_low_takedown_value c (op2 o t e f) q x = no_some q
  no_low_takedown_value c (seq e f) q x = no_some q
  no_low_takedown_value c (ite e f g) q x = no_some q
  no_low_takedown_value c (split e f) q x = no_some q
  no_low_takedown_value c (pcd es) q x = no_some q
  no_low_takedown_value c (adv p e b) q x = no_some q
  no_low_takedown_value c (lower p e) q x = no_some q
  no_low_takedown_value c (obj t bs) q x = transp (NoLowTakedownVal hi) (some-injective (Val.object t bs) _ q) x
  no_low_takedown_value c (keep e f g) q x = no_some q
  no_low_takedown_value c (match p es f g) q x = no_some q

  pub no_low_takedown_before : (c : Dom) {vs : List Val} → NoLowTakedownVals vs → (r : Tms) → NoLowTakedowns hi c r → NoLowTakedowns hi c (before vs r)
  unfolding NoLowTakedown NoLowTakedowns
  no_low_takedown_before c all_nil r x = x
  no_low_takedown_before c (all_cons {x = v} h hs) r x = no_low_takedown_before c hs (more (val v) r) (h, x)

  pub no_low_takedown_stack : {k : List (Entry Val)} → NoLowTakedownKept k → NoLowTakedownVal hi (stack_val k)
  unfolding NoLowTakedownVal
  no_low_takedown_stack all_nil = tt
  no_low_takedown_stack (all_cons h hs) = (h, no_low_takedown_stack hs)

  pub no_low_takedown_keeping : (w : Val) {k : List (Entry Val)} (o : Option ℕ) → NoLowTakedownVal hi w → NoLowTakedownKept k → NoLowTakedownKept (kept_on_of o w k)
  no_low_takedown_keeping w none h q = q
  no_low_takedown_keeping w (some l) h q = all_cons h q

  pub no_low_takedown_composed : (c : Dom) (v : Val) {x : List (Advice Tm)} → NoLowTakedownVal hi v → All (λ a. NoLowTakedown hi a.dom a.body) x → NoLowTakedown hi c (composed v x)
  unfolding NoLowTakedown NoLowTakedownVal
  no_low_takedown_composed c v h all_nil = tt
  no_low_takedown_composed c v h (all_cons {x = a} p ps) = (no_low_takedown_subst v h a.dom 0 a.body p, no_low_takedown_composed c v h ps)

  -- What a match binds of a calm stack (card 6).
  no_low_takedown_top : (k : Val) → NoLowTakedownVal hi k → Found (λ (x : Entry Val × Val). NoLowTakedownVal hi x.0.held × NoLowTakedownVal hi x.1) (top_of k)
  unfolding NoLowTakedownVal
  no_low_takedown_top Val.unit h = nothing
  no_low_takedown_top (Val.truth b) h = nothing
  no_low_takedown_top (Val.number n) h = nothing
  no_low_takedown_top (Val.pair v w) h = nothing
  no_low_takedown_top (Val.fun t e) h = nothing
  no_low_takedown_top (Val.label l) h = nothing
  no_low_takedown_top (Val.cell r) h = nothing
  no_low_takedown_top (Val.pointcut ls) h = nothing
  no_low_takedown_top (Val.advice p ls e) h = nothing
  no_low_takedown_top (Val.object t bs) h = nothing
  no_low_takedown_top Val.bottom h = nothing
  no_low_takedown_top (Val.kept l v k) h = found h

  no_low_takedown_found : (v : Val) {o : Option (List Val)} (b : Bool) → NoLowTakedownVal hi v → Found NoLowTakedownVals o → Found NoLowTakedownVals (choose b (cons_found v o) none)
  no_low_takedown_found v true h (found hs) = found (all_cons h hs)
  no_low_takedown_found v true h nothing = nothing
  no_low_takedown_found v false h q = nothing

  pub no_low_takedown_matched : (p : Pattern) (us : List Val) (k : Val) → NoLowTakedownVal hi k → Found NoLowTakedownVals (matched top_of labels_of p us k)
  unfolding cases
  no_low_takedown_matched at_end us k h = pick (no_low_takedown_top k h)
    where
      pick : {P : Entry Val × Val → Type 0} {o : Option (Entry Val × Val)} → Found P o → Found NoLowTakedownVals (cases o (λ x. none) (λ n. some []))
      pick (found x) = nothing
      pick nothing = found all_nil
  no_low_takedown_matched at_rest us k h = found (all_cons h all_nil)
  no_low_takedown_matched (anything p) us k h = pick (no_low_takedown_top k h) (λ j x. no_low_takedown_matched p us j x)
    where
      pick : {o : Option (Entry Val × Val)} → Found (λ (x : Entry Val × Val). NoLowTakedownVal hi x.0.held × NoLowTakedownVal hi x.1) o → ((j : Val) → NoLowTakedownVal hi j → Found NoLowTakedownVals (matched top_of labels_of p us j)) → Found NoLowTakedownVals (cases o (λ x. matched top_of labels_of p us x.1) (λ n. none))
      pick (found x) next = next _ x.1
      pick nothing next = nothing
  no_low_takedown_matched (pointcut p) [] k h = nothing
  no_low_takedown_matched (pointcut p) (u ∷ us) k h = pick (no_low_takedown_top k h) (λ j x. no_low_takedown_matched p us j x)
    where
      pick : {o : Option (Entry Val × Val)} → Found (λ (x : Entry Val × Val). NoLowTakedownVal hi x.0.held × NoLowTakedownVal hi x.1) o → ((j : Val) → NoLowTakedownVal hi j → Found NoLowTakedownVals (matched top_of labels_of p us j)) → Found NoLowTakedownVals (cases o (λ x. choose (hits x.0.label (labels_of u)) (cons_found x.0.held (matched top_of labels_of p us x.1)) none) (λ n. none))
      pick (found {x = a} y) next = no_low_takedown_found a.0.held (hits a.0.label (labels_of u)) y.0 (next a.1 y.1)
      pick nothing next = nothing
