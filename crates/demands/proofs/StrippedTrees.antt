-- Card 13: the term of a program without its watches is the program's term, stripped.
use Prim.Native.Nat.{ℕ, zero, suc}
use mathlib.Core.Path.{◌≡◌, refl, sym, ap, ◌∙◌}
use mathlib.Core.Bool.{Bool, true, false}
use mathlib.Core.List.{List}
use lib.ListN.{get_or}
use Rattle.calculus.specs.Combinators.{choose}
use Rattle.calculus.specs.Syntax.{Dom, Ty, Val, Tms, val, pcd, adv, lower, obj}
use Rattle.calculus.specs.Plain.{dom_of}
use Rattle.calculus_stripped.specs.Strip.{strip, strips, strip_val}
use Rattle.image.specs.Kinds.{TermKind, Form, operator, form_of}
use Rattle.image.specs.Program.{Program, Programs, node, blank, end, more, nth, behind, assemble, to_tm, to_tms, assemble_as}
use Rattle.image.proofs.Blanked.{choose_not, same_choice}
use Rattle.image_written.specs.Stripped.{as_unit, gives_way, stripped, strippeds}

module _ (high : Dom → Bool) where
  -- Of the subterms fs and es: each of fs is that of es, stripped, or unit where it gives way; and all of them are where none does.
  record Stripped (low : ℕ → Bool) (fs es : Tms) : Type 0 where
    one : (i : ℕ) → nth fs i ≡ choose (low i) (val Val.unit) (strip high (nth es i))
    every : ((i : ℕ) → low i ≡ false) → fs ≡ strips high es

  match_stays : (t : Ty) (vs : List ℕ) (i : ℕ) → gives_way high TermKind.match t vs i ≡ false
  match_stays t vs zero = refl
  match_stays t vs (suc zero) = refl
  match_stays t vs (suc (suc zero)) = refl
  match_stays t vs (suc (suc (suc i))) = refl

  strips_behind : (n : ℕ) (es : Tms) → behind n (strips high es) ≡ strips high (behind n es)
  unfolding strips
  strips_behind zero es = refl
  strips_behind (suc n) Tms.end = refl
  strips_behind (suc n) (Tms.more e es) = strips_behind n es

  assembled : {k : TermKind} (φ : Form k) (t : Ty) (vs : List ℕ) (fs es : Tms) → Stripped (gives_way high k t vs) fs es → assemble_as φ t vs fs ≡ strip high (assemble_as φ t vs es)
  unfolding strip strips strip_val
  assembled (operator o n r) t vs fs es h = refl
  assembled Form.unit t vs fs es h = refl
  assembled Form.truth t vs fs es h = refl
  assembled Form.number t vs fs es h = refl
  assembled Form.var t vs fs es h = refl
  assembled Form.seq t vs fs es h = cc (h.one 0, h.one 1)
  assembled Form.print t vs fs es h = cc (h.one 0)
  assembled Form.ite t vs fs es h = cc (h.one 0, h.one 1, h.one 2)
  assembled Form.pair t vs fs es h = cc (h.one 0, h.one 1)
  assembled Form.split t vs fs es h = cc (h.one 0, h.one 1)
  assembled Form.fun t vs fs es h = cc (h.one 0)
  assembled Form.app t vs fs es h = cc (h.one 0, h.one 1)
  assembled Form.arith t vs fs es h = cc (h.one 0, h.one 1)
  assembled Form.mark t vs fs es h = cc (h.one 0, h.one 1)
  assembled Form.pcd t vs fs es h = ap pcd (h.every (λ i. refl))
  assembled Form.adv t vs fs es h =
      ap (λ x. adv (dom_of t) x (nth fs 1)) (h.one 0)
      ∙ ap (adv (dom_of t) (strip high (nth es 0))) (h.one 1 ∙ choose_not (high (dom_of t)) (val Val.unit) (strip high (nth es 1)))
  assembled Form.install t vs fs es h = cc (h.one 0)
  assembled Form.new_cell t vs fs es h = cc (h.one 0)
  assembled Form.read t vs fs es h = cc (h.one 0)
  assembled Form.store t vs fs es h = cc (h.one 0, h.one 1)
  assembled Form.lower t vs fs es h = ap (lower (get_or vs 0 0)) (h.one 0 ∙ choose_not (high (get_or vs 0 0)) (val Val.unit) (strip high (nth es 0)))
  assembled Form.byte t vs fs es h = cc (h.one 0)
  assembled Form.obj t vs fs es h = ap (obj t) (h.every (λ i. refl))
  assembled Form.call t vs fs es h = cc (h.one 0)
  assembled Form.keep t vs fs es h = cc (h.one 0, h.one 1, h.one 2)
  assembled Form.match t vs fs es h = let r = ap (behind 3) (h.every (match_stays t vs)) ∙ strips_behind 3 es in cc (h.one 0, h.one 1, h.one 2, r)
  assembled Form.takedown t vs fs es h = refl

  -- One more subterm, which stands first.
  first_stripped : (low : ℕ → Bool) (e : Program) (es : Programs) → to_tm (stripped high e) ≡ strip high (to_tm e) → Stripped (λ i. low (suc i)) (to_tms (strippeds high es (λ i. low (suc i)))) (to_tms es)
      → Stripped low (to_tms (strippeds high (more e es) low)) (to_tms (more e es))
  unfolding to_tm to_tms stripped strippeds assemble strip strips
  first_stripped low e es h r = record { one = one; every = every }
    where
      head : (b : Bool) → to_tm (choose b (as_unit e) (stripped high e)) ≡ choose b (val Val.unit) (strip high (to_tm e))
      head true = refl
      head false = h

      one : (i : ℕ) → nth (to_tms (strippeds high (more e es) low)) i ≡ choose (low i) (val Val.unit) (strip high (nth (to_tms (more e es)) i))
      one zero = head (low 0)
      one (suc i) = r.one i

      every : ((i : ℕ) → low i ≡ false) → to_tms (strippeds high (more e es) low) ≡ strips high (to_tms (more e es))
      every n = let q = n 0 in let y = r.every (λ i. n (suc i)) in rw q (cc (h, y))

  mutual
    unfolding to_tm to_tms assemble stripped strippeds strip strips strip_val

    pub stripped_term : (e : Program) → to_tm (stripped high e) ≡ strip high (to_tm e)
    stripped_term (node k t vs es) = assembled (form_of k) t vs (to_tms (strippeds high es (gives_way high k t vs))) (to_tms es) (stripped_terms es (gives_way high k t vs))
    stripped_term blank = refl

    stripped_terms : (es : Programs) (low : ℕ → Bool) → Stripped low (to_tms (strippeds high es low)) (to_tms es)
    stripped_terms end low = record { one = λ i. sym (same_choice (low i) (val Val.unit)); every = λ n. refl }
    stripped_terms (more e es) low = first_stripped low e es (stripped_term e) (stripped_terms es (λ i. low (suc i)))
