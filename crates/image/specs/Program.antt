-- The program of an image (document 01, "Two runs compared"): "the tree of its terms from the root, each with its kind and fields, with every type number replaced by that type written out in full and every term number by its subtree"; and the same as a term of the calculus.
use Rattle.std.specs.Prelude.{ℕ, zero, suc, ◌+◌, ◌*◌, Bool, true, false, not, List, [], ◌∷◌, length, get_or, eqb}
use Rattle.std.proofs.Math.Option.{Option, none, some}
use Rattle.calculus.specs.Syntax.{Dom, Ty, Val, Tm, Tms, Pattern, at_end, at_rest, anything, pointcut, Op2, val, var, lam, op0, op1, op2, seq, ite, split, pcd, adv, lower, obj, keep, match, takedown, print, install, read, byte, new_cell, call, app, mark, store, plus, minus, less, equal}
use Rattle.calculus.specs.Plain.{dom_of, methods_of, method_dom}
use Rattle.image.specs.Kinds.{Body, here, function_body, advice_body, split_body, lower_body, object_body, match_body, TermKind, Form, operator, form_of, body_of}
use Rattle.image.specs.Records.{Layout}
use Rattle.image.specs.Types.{term_kind, stated_type, others, children, root_of}

-- A program: a term's kind, its type, its fields that are neither type nor child, and its subtrees; or the blank.
mutual
  pub data Program : Type 0 where
    node : TermKind → Ty → List ℕ → Programs → Program
    blank : Program

  pub data Programs : Type 0 where
    end : Programs
    more : Program → Programs → Programs

abbrev pub subtrees : (ℕ → Program) → List ℕ → Programs
subtrees g [] = end
subtrees g (e ∷ es) = more (g e) (subtrees g es)

-- The tree of term n. A term's children have lower numbers, so a fuel of n + 1 is enough.
unfoldable pub tree : Layout → ℕ → ℕ → Program
tree L zero n = blank
tree L (suc f) n = node (term_kind L n) (stated_type L n) (others L n) (subtrees (λ e. tree L f e) (children L n))

unfoldable pub program : Layout → Program
program L = tree L (length L.terms) (root_of L)

-- Subterm i.
abbrev pub nth : Tms → ℕ → Tm
nth Tms.end i = val Val.unit
nth (Tms.more e es) zero = e
nth (Tms.more e es) (suc i) = nth es i

-- 0 plus, 1 minus, 2 less, 3 equal.
abbrev pub op_of : ℕ → Op2
op_of zero = plus
op_of (suc zero) = minus
op_of (suc (suc zero)) = less
op_of (suc (suc (suc n))) = equal

-- The pattern of a match (card 6) from its other fields: an entry is 0 for anything, else a pointcut; the close, which stands last, is 0 for the empty stack, else it binds the rest.
abbrev pub close_of : ℕ → Pattern
close_of zero = at_end
close_of (suc n) = at_rest

abbrev pub entry_of : ℕ → Pattern → Pattern
entry_of zero p = anything p
entry_of (suc n) p = pointcut p

abbrev pub pattern_of : List ℕ → Pattern
pattern_of [] = at_end
pattern_of (v ∷ []) = close_of v
pattern_of (v ∷ w ∷ vs) = entry_of v (pattern_of (w ∷ vs))

-- The subterms behind the first n.
abbrev pub behind : ℕ → Tms → Tms
behind zero es = es
behind (suc n) Tms.end = Tms.end
behind (suc n) (Tms.more e es) = behind n es

-- A term of type t, with the other fields vs, over its subterms, by its form; and by its kind.
abbrev pub assemble_as : {k : TermKind} → Form k → Ty → List ℕ → Tms → Tm
assemble_as (operator o n r) t vs es = op0 o t
assemble_as Form.unit t vs es = val Val.unit
assemble_as Form.truth t vs es = val (Val.truth (eqb (get_or vs 0 0) 1))
assemble_as Form.number t vs es = val (Val.number (get_or vs 0 0 + 65536 * get_or vs 1 0))
assemble_as Form.var t vs es = var (get_or vs 0 0)
assemble_as Form.seq t vs es = seq (nth es 0) (nth es 1)
assemble_as Form.print t vs es = op1 print t (nth es 0)
assemble_as Form.ite t vs es = ite (nth es 0) (nth es 1) (nth es 2)
assemble_as Form.pair t vs es = op2 Op2.pair t (nth es 0) (nth es 1)
assemble_as Form.split t vs es = split (nth es 0) (nth es 1)
assemble_as Form.fun t vs es = lam t (nth es 0)
assemble_as Form.app t vs es = op2 app t (nth es 0) (nth es 1)
assemble_as Form.arith t vs es = op2 (op_of (get_or vs 0 0)) t (nth es 0) (nth es 1)
assemble_as Form.mark t vs es = op2 mark t (nth es 0) (nth es 1)
assemble_as Form.pcd t vs es = pcd es
assemble_as Form.adv t vs es = adv (dom_of t) (nth es 0) (nth es 1)
assemble_as Form.install t vs es = op1 install t (nth es 0)
assemble_as Form.new_cell t vs es = op1 new_cell t (nth es 0)
assemble_as Form.read t vs es = op1 read t (nth es 0)
assemble_as Form.store t vs es = op2 store t (nth es 0) (nth es 1)
assemble_as Form.lower t vs es = lower (get_or vs 0 0) (nth es 0)
assemble_as Form.byte t vs es = op1 byte t (nth es 0)
assemble_as Form.obj t vs es = obj t es
assemble_as Form.call t vs es = op1 (call (get_or vs 0 0)) t (nth es 0)
assemble_as Form.keep t vs es = keep (nth es 0) (nth es 1) (nth es 2)
assemble_as Form.match t vs es = match (pattern_of vs) (Tms.more (nth es 0) (behind 3 es)) (nth es 1) (nth es 2)
assemble_as Form.takedown t vs es = op0 (takedown (get_or vs 0 0)) t

unfoldable pub assemble : TermKind → Ty → List ℕ → Tms → Tm
assemble k t vs es = assemble_as (form_of k) t vs es

unfoldable mutual
  pub to_tm : Program → Tm
  to_tm (node k t vs es) = assemble k t vs (to_tms es)
  to_tm blank = val Val.unit

  pub to_tms : Programs → Tms
  to_tms end = Tms.end
  to_tms (more e es) = Tms.more (to_tm e) (to_tms es)

-- The domain that child i of a term of type t has of its own, if it has one: a body of function or advice its type's p, a body of lower its field p, a body of an object its method's (card 3).
abbrev pub own_domain : Body → Ty → List ℕ → ℕ → Option Dom
own_domain here t vs i = none
own_domain function_body t vs i = some (dom_of t)
own_domain advice_body t vs i = some (dom_of t)
own_domain split_body t vs i = none
own_domain lower_body t vs i = some (get_or vs 0 0)
own_domain object_body t vs i = some (method_dom (methods_of t) i)
own_domain match_body t vs i = none

module _ (high : Dom → Bool) where
  -- "High" and "low" are document 01's words ("Two runs compared"): a domain outside the set of high domains is low. A child without a domain of its own is not low.
  abbrev pub is_low : Option Dom → Bool
  is_low none = false
  is_low (some p) = not (high p)

  -- "A low body is the body of a function or advice whose type's p is low, or of a lower whose field p is low": whether child i is one.
  abbrev pub low_body : TermKind → Ty → List ℕ → ℕ → Bool
  low_body k t vs i = is_low (own_domain (body_of k i) t vs i)

  -- "Every low body, with all inside it, gives way to one and the same blank." low says of each child, from the left, whether it is a low body.
  unfoldable mutual
    pub blanked : Program → Program
    blanked (node k t vs es) = node k t vs (blankeds es (low_body k t vs))
    blanked blank = blank

    pub blankeds : Programs → (ℕ → Bool) → Programs
    blankeds end low = end
    blankeds (more e es) low = more (elim (low 0) [ true ↦ blank | false ↦ blanked e ]) (blankeds es (λ i. low (suc i)))
