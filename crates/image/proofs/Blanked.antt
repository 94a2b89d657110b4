-- Programs that differ only in low bodies are terms that do (document 01, "Two runs compared"): blanking a program is blanking its term.
use Prim.Native.Nat.{ℕ, zero, suc}
use mathlib.Core.Path.{◌≡◌, refl, sym, ap, ◌∙◌}
use mathlib.Core.Bool.{Bool, true, false, not}
use mathlib.Core.List.{List}
use lib.ListN.{get_or}
use Rattle.calculus.specs.Combinators.{choose}
use Rattle.calculus.specs.Syntax.{Dom, Ty, Sigs, no_method, method, Val, Tm, Tms, Op2, val, lam, op1, op2, seq, ite, split, pcd, adv, lower, obj, keep, match, print, install, read, byte, new_cell, call, app, mark, store}
use Rattle.calculus.specs.Plain.{dom_of, methods_of, method_dom}
use Rattle.calculus.specs.Blank.{blank as blankTm, blanks, blank_bodies}
use Rattle.image.specs.Kinds.{TermKind, Form, operator, form_of}
use Rattle.image.specs.Program.{Program, Programs, node, blank, end, more, nth, behind, op_of, pattern_of, assemble_as, assemble, to_tm, to_tms, low_body, blanked, blankeds}

pub choose_not : {A : Type 0} (b : Bool) (x y : A) → choose (not b) x y ≡ choose b y x
choose_not true x y = refl
choose_not false x y = refl

pub same_choice : {A : Type 0} (b : Bool) (x : A) → choose b x x ≡ x
same_choice true x = refl
same_choice false x = refl

module _ (high : Dom → Bool) where
  -- Of the subterms fs and es: each of fs is that of es, blanked, or the blank where it is a low body; and all of them are where there is no low body, or where each is a method's.
  record Blanked (low : ℕ → Bool) (fs es : Tms) : Type 0 where
    one : (i : ℕ) → nth fs i ≡ choose (low i) (val Val.unit) (blankTm high (nth es i))
    every : ((i : ℕ) → low i ≡ false) → fs ≡ blanks high es
    bodies : (ms : Sigs) → ((i : ℕ) → low i ≡ not (high (method_dom ms i))) → fs ≡ blank_bodies high ms es

  -- A match has no low body (card 6).
  match_high : (t : Ty) (vs : List ℕ) (i : ℕ) → low_body high TermKind.match t vs i ≡ false
  match_high t vs zero = refl
  match_high t vs (suc zero) = refl
  match_high t vs (suc (suc zero)) = refl
  match_high t vs (suc (suc (suc i))) = refl

  blanks_behind : (n : ℕ) (es : Tms) → behind n (blanks high es) ≡ blanks high (behind n es)
  unfolding blankTm
  blanks_behind zero es = refl
  blanks_behind (suc n) Tms.end = refl
  blanks_behind (suc n) (Tms.more e es) = blanks_behind n es

  -- Terms of the same parts.
  same2 : {A : Type 0} (f : A → Tm → Tm) {a b : A} {c d : Tm} → a ≡ b → c ≡ d → f a c ≡ f b d
  same2 f {b = b} {c = c} h k = ap (λ x. f x c) h ∙ ap (f b) k

  same3 : {A : Type 0} (f : A → Tm → Tm → Tm) {a b : A} {c d e g : Tm} → a ≡ b → c ≡ d → e ≡ g → f a c e ≡ f b d g
  same3 f {b = b} {c = c} {e = e} h k l = ap (λ x. f x c e) h ∙ same2 (f b) k l

  assembled : {k : TermKind} (φ : Form k) (t : Ty) (vs : List ℕ) (fs es : Tms) → Blanked (low_body high k t vs) fs es → assemble_as φ t vs fs ≡ blankTm high (assemble_as φ t vs es)
  unfolding blankTm
  assembled (operator o n r) t vs fs es h = refl
  assembled Form.unit t vs fs es h = refl
  assembled Form.truth t vs fs es h = refl
  assembled Form.number t vs fs es h = refl
  assembled Form.var t vs fs es h = refl
  assembled Form.seq t vs fs es h = same2 seq (h.one 0) (h.one 1)
  assembled Form.print t vs fs es h = ap (op1 print t) (h.one 0)
  assembled Form.ite t vs fs es h = same3 ite (h.one 0) (h.one 1) (h.one 2)
  assembled Form.pair t vs fs es h = same2 (op2 Op2.pair t) (h.one 0) (h.one 1)
  assembled Form.split t vs fs es h = same2 split (h.one 0) (h.one 1)
  assembled Form.fun t vs fs es h = ap (lam t) (h.one 0 ∙ choose_not (high (dom_of t)) (val Val.unit) (blankTm high (nth es 0)))
  assembled Form.app t vs fs es h = same2 (op2 app t) (h.one 0) (h.one 1)
  assembled Form.arith t vs fs es h = same2 (op2 (op_of (get_or vs 0 0)) t) (h.one 0) (h.one 1)
  assembled Form.mark t vs fs es h = same2 (op2 mark t) (h.one 0) (h.one 1)
  assembled Form.pcd t vs fs es h = ap pcd (h.every (λ i. refl))
  assembled Form.adv t vs fs es h =
      ap (λ x. adv (dom_of t) x (nth fs 1)) (h.one 0)
      ∙ ap (adv (dom_of t) (blankTm high (nth es 0))) (h.one 1 ∙ choose_not (high (dom_of t)) (val Val.unit) (blankTm high (nth es 1)))
  assembled Form.install t vs fs es h = ap (op1 install t) (h.one 0)
  assembled Form.new_cell t vs fs es h = ap (op1 new_cell t) (h.one 0)
  assembled Form.read t vs fs es h = ap (op1 read t) (h.one 0)
  assembled Form.store t vs fs es h = same2 (op2 store t) (h.one 0) (h.one 1)
  assembled Form.lower t vs fs es h = ap (lower (get_or vs 0 0)) (h.one 0 ∙ choose_not (high (get_or vs 0 0)) (val Val.unit) (blankTm high (nth es 0)))
  assembled Form.byte t vs fs es h = ap (op1 byte t) (h.one 0)
  assembled Form.obj t vs fs es h = ap (obj t) (h.bodies (methods_of t) (λ i. refl))
  assembled Form.call t vs fs es h = ap (op1 (call (get_or vs 0 0)) t) (h.one 0)
  assembled Form.keep t vs fs es h = same3 keep (h.one 0) (h.one 1) (h.one 2)
  assembled Form.match t vs fs es h =
      let r = ap (behind 3) (h.every (match_high t vs)) ∙ blanks_behind 3 es in
      ap (λ x. match (pattern_of vs) (Tms.more x (behind 3 fs)) (nth fs 1) (nth fs 2)) (h.one 0) ∙ same3 (λ x y z. match (pattern_of vs) (Tms.more (blankTm high (nth es 0)) x) y z) r (h.one 1) (h.one 2)
  assembled Form.takedown t vs fs es h = refl

  -- One more subterm, which stands first.
  first_blanked : (low : ℕ → Bool) (e : Program) (es : Programs) → to_tm (blanked high e) ≡ blankTm high (to_tm e) → Blanked (λ i. low (suc i)) (to_tms (blankeds high es (λ i. low (suc i)))) (to_tms es)
      → Blanked low (to_tms (blankeds high (more e es) low)) (to_tms (more e es))
  unfolding to_tm blanked blankTm
  first_blanked low e es h r = record { one = one; every = every; bodies = bodies }
    where
      head : (b : Bool) → to_tm (elim b [ true ↦ blank | false ↦ blanked high e ]) ≡ choose b (val Val.unit) (blankTm high (to_tm e))
      head true = refl
      head false = h

      one : (i : ℕ) → nth (to_tms (blankeds high (more e es) low)) i ≡ choose (low i) (val Val.unit) (blankTm high (nth (to_tms (more e es)) i))
      one zero = head (low 0)
      one (suc i) = r.one i

      every : ((i : ℕ) → low i ≡ false) → to_tms (blankeds high (more e es) low) ≡ blanks high (to_tms (more e es))
      every n = let q = n 0 in let y = r.every (λ i. n (suc i)) in rw q (cc (h, y))

      first : (p : Dom) → low 0 ≡ not (high p) → to_tm (elim (low 0) [ true ↦ blank | false ↦ blanked high e ]) ≡ choose (high p) (blankTm high (to_tm e)) (val Val.unit)
      first p q = head (low 0) ∙ ap (λ b. choose b (val Val.unit) (blankTm high (to_tm e))) q ∙ choose_not (high p) (val Val.unit) (blankTm high (to_tm e))

      bodies : (ms : Sigs) → ((i : ℕ) → low i ≡ not (high (method_dom ms i))) → to_tms (blankeds high (more e es) low) ≡ blank_bodies high ms (to_tms (more e es))
      bodies no_method n = let x = first 0 (n 0) in let y = r.bodies no_method (λ i. n (suc i)) in cc (x, y)
      bodies (method p a ms) n = let x = first p (n 0) in let y = r.bodies ms (λ i. n (suc i)) in cc (x, y)

  mutual
    unfolding to_tm blanked blankTm assemble

    -- The term of a blanked program is the program's term, blanked.
    pub blanked_term : (e : Program) → to_tm (blanked high e) ≡ blankTm high (to_tm e)
    blanked_term (node k t vs es) = assembled (form_of k) t vs (to_tms (blankeds high es (low_body high k t vs))) (to_tms es) (blanked_terms es (low_body high k t vs))
    blanked_term blank = refl

    blanked_terms : (es : Programs) (low : ℕ → Bool) → Blanked low (to_tms (blankeds high es low)) (to_tms es)
    blanked_terms end low = record { one = λ i. sym (same_choice (low i) (val Val.unit)); every = λ n. refl; bodies = λ ms n. refl }
    blanked_terms (more e es) low = first_blanked low e es (blanked_term e) (blanked_terms es (λ i. low (suc i)))

  -- Programs that become equal once every low body gives way to one and the same blank are terms that do.
  pub same_but_low : (e f : Program) → blanked high e ≡ blanked high f → blankTm high (to_tm e) ≡ blankTm high (to_tm f)
  same_but_low e f h = sym (blanked_term e) ∙ ap to_tm h ∙ blanked_term f
