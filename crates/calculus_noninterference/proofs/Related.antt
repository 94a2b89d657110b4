-- When two values, two terms, two states are related: they look the same from the high domains.
use Prim.Native.Nat.{ℕ, suc, ◌≤◌}
use native.Mathlib.Omega.{arith}
use mathlib.Core.Path.{◌≡◌, refl, sym, ◌∙◌}
use mathlib.Core.Bool.{Bool, true, false}
use mathlib.Core.List.{List, []}
use Rattle.calculus.specs.Syntax.{Dom, Ty, Sigs, no_method, method, Val, Tm, Tms, Pattern, Op0, Op1, Op2, val, var, lam, op0, op1, op2, seq, ite, split, pcd, adv, lower, obj, keep, match, end, more}
use Rattle.calculus.specs.Subst.{subst, substs}
use Rattle.calculus.specs.State.{Cell, Advice, Event, Uses, Entry, State}
use Rattle.calculus.specs.Place.{Place, deeper}
use Rattle.calculus.specs.Plain.{dom_of, methods_of}
use Rattle.laws.proofs.Lists.{Prefix, prefix_refl, All2}
use Rattle.calculus_noninterference.specs.Observe.{NoMore}
use Rattle.calculus_noninterference.proofs.NoLowTakedown.{NoLowTakedownKept}
use Rattle.calculus_noninterference.proofs.Interleave.{Side, Matched, Matches, matched_mono, matches_mono, Interleaving}

-- The orders in which the two runs' cells and labels were made; and whether the right's program is the left's, stripped (card 13): then the right has nothing alone, and never lacks room that the left has.
pub record World : Type 0 where
  pub cells : List Side
  pub labels : List Side
  pub stripped : Bool

-- Before the runs there are none.
abbrev pub no_world : Bool → World
no_world b = record { cells = []; labels = []; stripped = b }

-- X has more cells and labels than W.
pub record Grows (W X : World) : Type 0 where
  pub cells : Prefix W.cells X.cells
  pub labels : Prefix W.labels X.labels
  pub same : W.stripped ≡ X.stripped

pub grows_refl : (W : World) → Grows W W
grows_refl W = record { cells = prefix_refl W.cells; labels = prefix_refl W.labels; same = refl }

-- Substitution for a variable further out than the innermost leaves the term alone: the body of a function without free variables.
abbrev pub ClosedBody : Tm → Type 0
ClosedBody e = (k : ℕ) (w : Val) → subst (suc k) w e ≡ e

-- The bodies of an object without free variables (card 3).
abbrev pub ClosedBodies : Tms → Type 0
ClosedBodies bs = (k : ℕ) (w : Val) → substs (suc k) w bs ≡ bs

-- Labels that both runs made have the same domain; those that one run has alone may be of any.
abbrev pub Labels : Bool → List Side → List Dom → List Dom → Type 0
Labels b = Interleaving ◌≡◌ (λ p. Unit {0}) (λ p. b ≡ false)

-- A low body of a lower or of advice, in the right run; b says whether that is stripped (card 13).
abbrev pub Mute : Bool → Tm → Type 0
Mute b e = b ≡ true → e ≡ val Val.unit

-- Domain 0 has used the same (card 9); where the right is stripped, the others have used no more.
pub record SameUse (b : Bool) (u v : Uses) : Type 0 where
  pub mainline : u.mainline ≡ v.mainline
  pub others : b ≡ true → NoMore u.others v.others

module _ (hi : Dom → Bool) where
  -- What may stand in one run alone before the rest of a sequence: advice of a low domain, and what it leaves when it is done.
  pub data Inert : Tm → Type 0 where
    inert_lower : {p : Dom} {e : Tm} → hi p ≡ false → Inert (lower p e)
    inert_unit : Inert (val Val.unit)

  module _ (W : World) where
    mutual
      pub data RelV : Val → Val → Type 0 where
        v_unit : RelV Val.unit Val.unit
        v_truth : {b : Bool} → RelV (Val.truth b) (Val.truth b)
        v_number : {n : ℕ} → RelV (Val.number n) (Val.number n)
        v_pair : {v v' w w' : Val} → RelV v v' → RelV w w' → RelV (Val.pair v w) (Val.pair v' w')
        v_fun : {t : Ty} {e e' : Tm} → RelB (dom_of t) e e' → RelV (Val.fun t e) (Val.fun t e')
        v_label : {l l' : ℕ} → Matched W.labels l l' → RelV (Val.label l) (Val.label l')
        v_cell : {r r' : ℕ} → Matched W.cells r r' → RelV (Val.cell r) (Val.cell r')
        v_pointcut : {ls ls' : List ℕ} → Matches W.labels ls ls' → RelV (Val.pointcut ls) (Val.pointcut ls')
        v_advice : {p : Dom} {ls ls' : List ℕ} {e e' : Tm} → Matches W.labels ls ls' → RelL p e e' → RelV (Val.advice p ls e) (Val.advice p ls' e')
        v_object : {t : Ty} {bs bs' : Tms} → RelBs (methods_of t) bs bs' → RelV (Val.object t bs) (Val.object t bs')
        v_bottom : RelV Val.bottom Val.bottom
        v_kept : {l l' : ℕ} {v v' k k' : Val} → Matched W.labels l l' → RelV v v' → RelV k k' → RelV (Val.kept l v k) (Val.kept l' v' k')

      pub data RelT : Tm → Tm → Type 0 where
        r_val : {v v' : Val} → RelV v v' → RelT (val v) (val v')
        r_var : {k : ℕ} → RelT (var k) (var k)
        r_lam : {t : Ty} {e e' : Tm} → RelB (dom_of t) e e' → RelT (lam t e) (lam t e')
        -- a function that the step of a later operand has put back as a value in one run and not yet in the other
        r_val_lam : {t : Ty} {e e' : Tm} → ClosedBody e' → RelV (Val.fun t e) (Val.fun t e') → RelT (val (Val.fun t e)) (lam t e')
        r_lam_val : {t : Ty} {e e' : Tm} → ClosedBody e → RelV (Val.fun t e) (Val.fun t e') → RelT (lam t e) (val (Val.fun t e'))
        r_op0 : {o : Op0} {t : Ty} → RelT (op0 o t) (op0 o t)
        r_op1 : {o : Op1} {t : Ty} {e e' : Tm} → RelT e e' → RelT (op1 o t e) (op1 o t e')
        r_op2 : {o : Op2} {t : Ty} {e e' f f' : Tm} → RelT e e' → RelT f f' → RelT (op2 o t e f) (op2 o t e' f')
        r_seq : {e e' f f' : Tm} → RelT e e' → RelT f f' → RelT (seq e f) (seq e' f')
        r_ite : {e e' f f' g g' : Tm} → RelT e e' → RelT f f' → RelT g g' → RelT (ite e f g) (ite e' f' g')
        r_split : {e e' f f' : Tm} → RelT e e' → RelT f f' → RelT (split e f) (split e' f')
        r_pcd : {es es' : Tms} → RelTs es es' → RelT (pcd es) (pcd es')
        r_adv : {p : Dom} {e e' b b' : Tm} → RelT e e' → RelL p b b' → RelT (adv p e b) (adv p e' b')
        r_lower : {p : Dom} {e e' : Tm} → RelL p e e' → RelT (lower p e) (lower p e')
        r_obj : {t : Ty} {bs bs' : Tms} → RelBs (methods_of t) bs bs' → RelT (obj t bs) (obj t bs')
        -- an object that has been put back as a value, as a function in r_val_lam and r_lam_val
        r_val_obj : {t : Ty} {bs bs' : Tms} → ClosedBodies bs' → RelV (Val.object t bs) (Val.object t bs') → RelT (val (Val.object t bs)) (obj t bs')
        r_obj_val : {t : Ty} {bs bs' : Tms} → ClosedBodies bs → RelV (Val.object t bs) (Val.object t bs') → RelT (obj t bs) (val (Val.object t bs'))
        r_keep : {e e' f f' g g' : Tm} → RelT e e' → RelT f f' → RelT g g' → RelT (keep e f g) (keep e' f' g')
        r_match : {p : Pattern} {es es' : Tms} {f f' g g' : Tm} → RelTs es es' → RelT f f' → RelT g g' → RelT (match p es f g) (match p es' f' g')
        r_skip_left : {h e e' : Tm} → Inert h → RelT e e' → RelT (seq h e) e'
        r_skip_right : {h e e' : Tm} → W.stripped ≡ false → Inert h → RelT e e' → RelT e (seq h e')

      -- Bodies of functions and methods that run at p: anything where p is low.
      pub data RelB : Dom → Tm → Tm → Type 0 where
        b_rel : {p : Dom} {e e' : Tm} → RelT e e' → RelB p e e'
        b_low : {p : Dom} {e e' : Tm} → hi p ≡ false → RelB p e e'

      -- Bodies of lowers and advice: anything where p is low, but unit in a stripped program.
      pub data RelL : Dom → Tm → Tm → Type 0 where
        l_high : {p : Dom} {e e' : Tm} → hi p ≡ true → RelT e e' → RelL p e e'
        l_low : {p : Dom} {e e' : Tm} → hi p ≡ false → Mute W.stripped e' → RelL p e e'

      pub data RelTs : Tms → Tms → Type 0 where
        r_end : RelTs end end
        r_more : {e e' : Tm} {es es' : Tms} → RelT e e' → RelTs es es' → RelTs (more e es) (more e' es')

      -- The bodies of an object's methods (card 3).
      pub data RelBs : Sigs → Tms → Tms → Type 0 where
        r_no_body : RelBs no_method end end
        r_body : {p : Dom} {a : Ty} {ms : Sigs} {e e' : Tm} {bs bs' : Tms} → RelB p e e' → RelBs ms bs bs' → RelBs (method p a ms) (more e bs) (more e' bs')

    -- Lists of values, related one by one.
    abbrev pub RelVs : List Val → List Val → Type 0
    RelVs = All2 RelV

    -- What is kept around two places (card 6). At a high domain every keep around is high, since code only falls: so both have the same.
    pub record RelEntry (a b : Entry Val) : Type 0 where
      pub label : Matched W.labels a.label b.label
      pub held : RelV a.held b.held

    abbrev pub RelKept : List (Entry Val) → List (Entry Val) → Type 0
    RelKept = All2 RelEntry

    -- The two places; where the right is stripped, its place is no deeper, and what is kept around the left's is calm (card 13).
    pub record RelPlace (P P' : Place) : Type 0 where
      pub kept : RelKept P.kept P'.kept
      pub depth : W.stripped ≡ true → P'.depth ≤ P.depth
      pub no_low_takedown : W.stripped ≡ true → NoLowTakedownKept hi P.kept

    pub inward : {P P' : Place} → RelPlace P P' → RelPlace (deeper P) (deeper P')
    inward Q = record { kept = Q.kept; depth = λ z. (let l = Q.depth z in omega arith); no_low_takedown = Q.no_low_takedown }

    -- What high code made in both runs stands in both, whatever its domain; what it holds is related only where the domain is high.
    pub record RelCell (a b : Cell Val) : Type 0 where
      pub same_dom : a.dom ≡ b.dom
      pub same_plain : a.plain ≡ b.plain
      pub held : hi a.dom ≡ true → RelV a.held b.held

    pub record RelAdvice (a b : Advice Tm) : Type 0 where
      pub same_dom : a.dom ≡ b.dom
      pub labels : Matches W.labels a.labels b.labels
      pub body : RelL a.dom a.body b.body

  pub record RelEvent (a b : Event) : Type 0 where
    pub same : a ≡ b
    pub high : hi a.dom ≡ true

  -- What the left has alone is of a low domain; so is what the right has alone, which is nothing where it is stripped.
  abbrev pub Low : {A : Type 0} → (A → Dom) → A → Type 0
  Low dom a = hi (dom a) ≡ false

  abbrev pub Alone : Bool → {A : Type 0} → (A → Dom) → A → Type 0
  Alone b dom a = (hi (dom a) ≡ false) × (b ≡ false)

  abbrev pub Cells : World → List Side → List (Cell Val) → List (Cell Val) → Type 0
  Cells W = Interleaving (RelCell W) (Low (λ a. a.dom)) (Alone W.stripped (λ a. a.dom))

  abbrev pub Advices : World → List Side → List (Advice Tm) → List (Advice Tm) → Type 0
  Advices W = Interleaving (RelAdvice W) (Low (λ a. a.dom)) (Alone W.stripped (λ a. a.dom))

  abbrev pub Events : Bool → List Side → List Event → List Event → Type 0
  Events b = Interleaving RelEvent (Low (λ a. a.dom)) (Alone b (λ a. a.dom))

  pub record RelS (W : World) (s s' : State) : Type 0 where
    pub cells : Cells W W.cells s.cells s'.cells
    pub labels : Labels W.stripped W.labels s.labels s'.labels
    pub advice_order : List Side
    pub advices : Advices W advice_order s.advices s'.advices
    pub event_order : List Side
    pub trace : Events W.stripped event_order s.trace s'.trace
    pub used : SameUse W.stripped s.used s'.used

  -- Relations last as the world grows.
  mutual
    pub rel_v_mono : {W X : World} {v v' : Val} → RelV W v v' → Grows W X → RelV X v v'
    rel_v_mono v_unit x = v_unit
    rel_v_mono v_truth x = v_truth
    rel_v_mono v_number x = v_number
    rel_v_mono (v_pair r s) x = v_pair (rel_v_mono r x) (rel_v_mono s x)
    rel_v_mono (v_fun r) x = v_fun (rel_b_mono r x)
    rel_v_mono (v_label m) x = v_label (matched_mono m x.labels)
    rel_v_mono (v_cell m) x = v_cell (matched_mono m x.cells)
    rel_v_mono (v_pointcut m) x = v_pointcut (matches_mono m x.labels)
    rel_v_mono (v_advice m r) x = v_advice (matches_mono m x.labels) (rel_l_mono r x)
    rel_v_mono (v_object r) x = v_object (rel_bs_mono r x)
    rel_v_mono v_bottom x = v_bottom
    rel_v_mono (v_kept m r s) x = v_kept (matched_mono m x.labels) (rel_v_mono r x) (rel_v_mono s x)

    pub rel_t_mono : {W X : World} {e e' : Tm} → RelT W e e' → Grows W X → RelT X e e'
    rel_t_mono (r_val r) x = r_val (rel_v_mono r x)
    rel_t_mono r_var x = r_var
    rel_t_mono (r_lam r) x = r_lam (rel_b_mono r x)
    rel_t_mono (r_val_lam c r) x = r_val_lam c (rel_v_mono r x)
    rel_t_mono (r_lam_val c r) x = r_lam_val c (rel_v_mono r x)
    rel_t_mono r_op0 x = r_op0
    rel_t_mono (r_op1 r) x = r_op1 (rel_t_mono r x)
    rel_t_mono (r_op2 r s) x = r_op2 (rel_t_mono r x) (rel_t_mono s x)
    rel_t_mono (r_seq r s) x = r_seq (rel_t_mono r x) (rel_t_mono s x)
    rel_t_mono (r_ite r s t) x = r_ite (rel_t_mono r x) (rel_t_mono s x) (rel_t_mono t x)
    rel_t_mono (r_split r s) x = r_split (rel_t_mono r x) (rel_t_mono s x)
    rel_t_mono (r_pcd r) x = r_pcd (rel_ts_mono r x)
    rel_t_mono (r_adv r s) x = r_adv (rel_t_mono r x) (rel_l_mono s x)
    rel_t_mono (r_lower r) x = r_lower (rel_l_mono r x)
    rel_t_mono (r_obj r) x = r_obj (rel_bs_mono r x)
    rel_t_mono (r_val_obj c r) x = r_val_obj c (rel_v_mono r x)
    rel_t_mono (r_obj_val c r) x = r_obj_val c (rel_v_mono r x)
    rel_t_mono (r_keep r s t) x = r_keep (rel_t_mono r x) (rel_t_mono s x) (rel_t_mono t x)
    rel_t_mono (r_match r s t) x = r_match (rel_ts_mono r x) (rel_t_mono s x) (rel_t_mono t x)
    rel_t_mono (r_skip_left i r) x = r_skip_left i (rel_t_mono r x)
    rel_t_mono (r_skip_right z i r) x = r_skip_right (sym x.same ∙ z) i (rel_t_mono r x)

    pub rel_b_mono : {W X : World} {p : Dom} {e e' : Tm} → RelB W p e e' → Grows W X → RelB X p e e'
    rel_b_mono (b_rel r) x = b_rel (rel_t_mono r x)
    rel_b_mono (b_low l) x = b_low l

    pub rel_l_mono : {W X : World} {p : Dom} {e e' : Tm} → RelL W p e e' → Grows W X → RelL X p e e'
    rel_l_mono (l_high h r) x = l_high h (rel_t_mono r x)
    rel_l_mono (l_low l m) x = l_low l (λ z. m (x.same ∙ z))

    pub rel_ts_mono : {W X : World} {es es' : Tms} → RelTs W es es' → Grows W X → RelTs X es es'
    rel_ts_mono r_end x = r_end
    rel_ts_mono (r_more r s) x = r_more (rel_t_mono r x) (rel_ts_mono s x)

    rel_bs_mono : {W X : World} {ms : Sigs} {bs bs' : Tms} → RelBs W ms bs bs' → Grows W X → RelBs X ms bs bs'
    rel_bs_mono r_no_body x = r_no_body
    rel_bs_mono (r_body r s) x = r_body (rel_b_mono r x) (rel_bs_mono s x)

  pub cell_mono : {W X : World} → Grows W X → (a b : Cell Val) → RelCell W a b → RelCell X a b
  cell_mono x a b r = record { same_dom = r.same_dom; same_plain = r.same_plain; held = λ h. rel_v_mono (r.held h) x }

  pub advice_mono : {W X : World} → Grows W X → (a b : Advice Tm) → RelAdvice W a b → RelAdvice X a b
  advice_mono x a b r = record { same_dom = r.same_dom; labels = matches_mono r.labels x.labels; body = rel_l_mono r.body x }

  pub alone_mono : {W X : World} → Grows W X → {A : Type 0} (dom : A → Dom) (a : A) → Alone W.stripped dom a → Alone X.stripped dom a
  alone_mono x dom a l = (l.0, sym x.same ∙ l.1)
