-- The typing rules (document 003, section 2.2, figures 2 and 3; where the figures are damaged, document 01, "Typing"). The judgements are written as in the figures here, where policy and store typing are given; elsewhere, with both as arguments, they are called TmTy, ValTy and so on (`use .. as`).
use Rattle.std.specs.Prelude.{ℕ, zero, suc, ◌≡◌, Bool, true}
use mathlib.Core.List.{List, [], ◌∷◌, reverse_aux}
use Rattle.std.proofs.Math.Option.{some}
use Rattle.std.proofs.Math.ListN.{get_elem?}
use Rattle.calculus.specs.Syntax.{Dom, Ty, Sigs, no_method, method, Val, Tm, Tms, Pattern, at_end, at_rest, anything, pointcut, Op0, Op1, Op2, val, var, lam, op0, op1, op2, seq, ite, split, pcd, adv, lower, obj, keep, match, end, more, new_label, abort, takedown, the_stack, print, install, read, byte, new_cell, call, app, mark, store, plus, minus, less, equal}

-- A store typing: the types of the cells and labels that there are, of each cell `ref a p`, of each label `label a p` (the part of figure 2's Γ that is not variables).
pub record StoreTyping : Type 0 where
  pub cells : List Ty
  pub labels : List Ty

-- Before a run.
abbrev pub no_store : StoreTyping
no_store = record { cells = []; labels = [] }

-- What the protection domains permit: their order, leq p q for p ≤ q.
pub record Policy : Type 0 where
  pub leq : Dom → Dom → Bool

-- The figures' Γ(x) = τ: the entry at k is there, and is t.
infix 4 ◌at◌is◌
abbrev ◌at◌is◌ : List Ty → ℕ → Ty → Type 0
x at k is t = get_elem? x k ≡ some t

-- Card 3: method m runs at p and gives b.
pub data Has (p : Dom) (b : Ty) : Sigs → ℕ → Type 0 where
  has_first : {ms : Sigs} → Has p b (method p b ms) zero
  has_later : {q : Dom} {a : Ty} {ms : Sigs} {m : ℕ} → Has p b ms m → Has p b (method q a ms) (suc m)

-- Card 6: a pattern, the types of its pointcuts, and the types that it binds, the first outermost.
pub data PatternTy : Pattern → List Ty → List Ty → Type 0 where
  p_end : PatternTy at_end [] []
  p_rest : PatternTy at_rest [] (Ty.stack ∷ [])
  p_any : {p : Pattern} {ts us : List Ty} → PatternTy p ts us → PatternTy (anything p) ts us
  p_cut : {p : Pattern} {ts us : List Ty} {a : Ty} {q : Dom} → PatternTy p ts us → PatternTy (pointcut p) (Ty.pointcut a q ∷ ts) (a ∷ us)

module _ (D : Policy) where
  -- The figures' p ≤ q; the symbol ≤ is that of numbers.
  infix 4 ◌⊑◌
  abbrev ◌⊑◌ : Dom → Dom → Type 0
  p ⊑ q = D.leq p q ≡ true

  -- Figure 3, the operators: at the current domain c, the types of the operands and the operator's own, c ⊢ o ⦂ a ⇒ b ⇒ t.
  infix 4 ◌⊢◌⦂◌ ◌⊢◌⦂◌⇒◌ ◌⊢◌⦂◌⇒◌⇒◌
  pub data ◌⊢◌⦂◌ (c : Dom) : Op0 → Ty → Type 0 where
    -- new_p : τ
    t_new_label : {a : Ty} {p : Dom} → p ⊑ c → c ⊢ new_label ⦂ Ty.label a p
    -- document 01: abort has any type
    t_abort : {a : Ty} → c ⊢ abort ⦂ a
    -- card 7
    t_takedown : {p : Dom} → p ⊑ c → c ⊢ takedown p ⦂ Ty.unit
    -- stack() (card 6)
    t_stack : c ⊢ the_stack ⦂ Ty.stack

  pub data ◌⊢◌⦂◌⇒◌ (c : Dom) : Op1 → Ty → Ty → Type 0 where
    -- print e; document 01: of a number
    t_print : c ⊢ print ⦂ Ty.number ⇒ Ty.unit
    -- ⇑ e
    t_install : {p : Dom} → p ⊑ c → c ⊢ install ⦂ Ty.advice p ⇒ Ty.unit
    -- !e
    t_read : {a : Ty} {p : Dom} → c ⊑ p → c ⊢ read ⦂ Ty.ref a p ⇒ a
    -- document 01
    t_byte : c ⊢ byte ⦂ Ty.number ⇒ Ty.number
    -- ref_p e
    t_new_cell : {a : Ty} {p : Dom} → p ⊑ c → c ⊢ new_cell ⦂ a ⇒ Ty.ref a p
    -- e.m (card 3): the method runs at the current domain
    t_call : {b : Ty} {ms : Sigs} {m : ℕ} → Has c b ms m → c ⊢ call m ⦂ Ty.object ms ⇒ b

  pub data ◌⊢◌⦂◌⇒◌⇒◌ (c : Dom) : Op2 → Ty → Ty → Ty → Type 0 where
    -- (e1, e2)
    t_pair : {a b : Ty} → c ⊢ Op2.pair ⦂ a ⇒ b ⇒ Ty.pair a b
    -- e1 e2: the function runs at the current domain
    t_app : {a b : Ty} → c ⊢ app ⦂ Ty.fun a c b ⇒ a ⇒ b
    -- e1[e2]: the label is of the current domain
    t_mark : {a : Ty} → c ⊢ mark ⦂ Ty.label a c ⇒ a ⇒ Ty.unit
    -- e1 := e2
    t_store : {a : Ty} {p : Dom} → p ⊑ c → c ⊢ store ⦂ Ty.ref a p ⇒ a ⇒ Ty.unit
    -- document 01
    t_plus : c ⊢ plus ⦂ Ty.number ⇒ Ty.number ⇒ Ty.number
    t_minus : c ⊢ minus ⦂ Ty.number ⇒ Ty.number ⇒ Ty.number
    t_less : c ⊢ less ⦂ Ty.number ⇒ Ty.number ⇒ Ty.truth
    t_equal : c ⊢ equal ⦂ Ty.number ⇒ Ty.number ⇒ Ty.truth

  -- {e1 .. en}_p: the types of a pointcut's labels, all of the value type a, at domains at or above p.
  pub data LabelTys (a : Ty) (p : Dom) : List Ty → Type 0 where
    no_types : LabelTys a p []
    a_type : {q : Dom} {ts : List Ty} → p ⊑ q → LabelTys a p ts → LabelTys a p (Ty.label a q ∷ ts)

  module _ (Σ : StoreTyping) where
    -- Figure 2, {l1 .. ln}_p: labels of the value type a, at domains at or above p.
    pub data LabelsOf (a : Ty) (p : Dom) : List ℕ → Type 0 where
      no_labels : LabelsOf a p []
      one_label : {l : ℕ} {q : Dom} {ls : List ℕ} →
          Σ.labels at l is Ty.label a q →
          p ⊑ q →
          LabelsOf a p ls →
          LabelsOf a p (l ∷ ls)

    -- Figure 2's Γ ⊢ v : τ is ⊢ v ⦂ t, for values that name no variable; figure 3's Γ; p ⊢ e : τ is Γ ⨾ c ⊢ e ⦂ t. Premises stand under each other, the conclusion last.
    infix 4 ⊢◌⦂◌ ◌⨾◌⊢◌⦂◌ ◌⨾◌⊢*◌⦂◌ ◌⊢ᵐ◌⦂◌
    mutual
      -- Figure 2: v has type t.
      pub data ⊢◌⦂◌ : Val → Ty → Type 0 where
        -- ()
        v_unit : ⊢ Val.unit ⦂ Ty.unit
        -- true, false
        v_truth : {b : Bool} → ⊢ Val.truth b ⦂ Ty.truth
        -- document 01, in the place of strings
        v_number : {n : ℕ} → ⊢ Val.number n ⦂ Ty.number
        -- (v1, v2)
        v_pair : {v w : Val} {a b : Ty} →
            ⊢ v ⦂ a →
            ⊢ w ⦂ b →
            ⊢ Val.pair v w ⦂ Ty.pair a b
        -- λ_p x:τ.e
        v_fun : {a b : Ty} {p : Dom} {e : Tm} →
            a ∷ [] ⨾ p ⊢ e ⦂ b →
            ⊢ Val.fun (Ty.fun a p b) e ⦂ Ty.fun a p b
        -- l
        v_label : {l : ℕ} {a : Ty} {p : Dom} →
            Σ.labels at l is Ty.label a p →
            ⊢ Val.label l ⦂ Ty.label a p
        -- r
        v_cell : {r : ℕ} {a : Ty} {p : Dom} →
            Σ.cells at r is Ty.ref a p →
            ⊢ Val.cell r ⦂ Ty.ref a p
        -- {l1 .. ln}_p
        v_pointcut : {ls : List ℕ} {a : Ty} {p : Dom} →
            LabelsOf a p ls →
            ⊢ Val.pointcut ls ⦂ Ty.pointcut a p
        -- {v.x →_p e}
        v_advice : {ls : List ℕ} {a : Ty} {p q : Dom} {e : Tm} →
            LabelsOf a q ls →
            p ⊑ q →
            a ∷ [] ⨾ p ⊢ e ⦂ Ty.unit →
            ⊢ Val.advice p ls e ⦂ Ty.advice p
        -- [m_i = ς_p x.e_i] (card 3)
        v_object : {ms : Sigs} {bs : Tms} →
            Ty.object ms ∷ [] ⊢ᵐ bs ⦂ ms →
            ⊢ Val.object (Ty.object ms) bs ⦂ Ty.object ms
        -- stacks (card 6): a kept value is of its label's type
        v_bottom : ⊢ Val.bottom ⦂ Ty.stack
        v_kept : {l : ℕ} {v k : Val} {a : Ty} {q : Dom} →
            Σ.labels at l is Ty.label a q →
            ⊢ v ⦂ a →
            ⊢ k ⦂ Ty.stack →
            ⊢ Val.kept l v k ⦂ Ty.stack

      -- Figure 3: in the context Γ of variables, innermost first, at the current domain c, e has type t.
      pub data ◌⨾◌⊢◌⦂◌ : List Ty → Dom → Tm → Ty → Type 0 where
        -- v
        is_val : {Γ : List Ty} {c : Dom} {v : Val} {t : Ty} →
            ⊢ v ⦂ t →
            Γ ⨾ c ⊢ val v ⦂ t
        -- x
        is_var : {Γ : List Ty} {c : Dom} {k : ℕ} {t : Ty} →
            Γ at k is t →
            Γ ⨾ c ⊢ var k ⦂ t
        -- λ_p x:τ.e, by figure 2 under outer variables
        is_lam : {Γ : List Ty} {c p : Dom} {a b : Ty} {e : Tm} →
            a ∷ Γ ⨾ p ⊢ e ⦂ b →
            Γ ⨾ c ⊢ lam (Ty.fun a p b) e ⦂ Ty.fun a p b
        -- the operators
        is_op0 : {Γ : List Ty} {c : Dom} {o : Op0} {t : Ty} →
            c ⊢ o ⦂ t →
            Γ ⨾ c ⊢ op0 o t ⦂ t
        is_op1 : {Γ : List Ty} {c : Dom} {o : Op1} {t a : Ty} {e : Tm} →
            c ⊢ o ⦂ a ⇒ t →
            Γ ⨾ c ⊢ e ⦂ a →
            Γ ⨾ c ⊢ op1 o t e ⦂ t
        is_op2 : {Γ : List Ty} {c : Dom} {o : Op2} {t a b : Ty} {e f : Tm} →
            c ⊢ o ⦂ a ⇒ b ⇒ t →
            Γ ⨾ c ⊢ e ⦂ a →
            Γ ⨾ c ⊢ f ⦂ b →
            Γ ⨾ c ⊢ op2 o t e f ⦂ t
        -- e1; e2
        is_seq : {Γ : List Ty} {c : Dom} {t : Ty} {e f : Tm} →
            Γ ⨾ c ⊢ e ⦂ Ty.unit →
            Γ ⨾ c ⊢ f ⦂ t →
            Γ ⨾ c ⊢ seq e f ⦂ t
        -- if e1 then e2 else e3
        is_ite : {Γ : List Ty} {c : Dom} {t : Ty} {e f g : Tm} →
            Γ ⨾ c ⊢ e ⦂ Ty.truth →
            Γ ⨾ c ⊢ f ⦂ t →
            Γ ⨾ c ⊢ g ⦂ t →
            Γ ⨾ c ⊢ ite e f g ⦂ t
        -- split (x, y) = e1 in e2
        is_split : {Γ : List Ty} {c : Dom} {t a b : Ty} {e f : Tm} →
            Γ ⨾ c ⊢ e ⦂ Ty.pair a b →
            b ∷ a ∷ Γ ⨾ c ⊢ f ⦂ t →
            Γ ⨾ c ⊢ split e f ⦂ t
        -- {e1 .. en}_p
        is_pcd : {Γ ts : List Ty} {c p : Dom} {a : Ty} {es : Tms} →
            Γ ⨾ c ⊢* es ⦂ ts →
            LabelTys a p ts →
            Γ ⨾ c ⊢ pcd es ⦂ Ty.pointcut a p
        -- {e1.x →_p e2}
        is_adv : {Γ : List Ty} {c p q : Dom} {a : Ty} {e b : Tm} →
            Γ ⨾ c ⊢ e ⦂ Ty.pointcut a q →
            p ⊑ q →
            a ∷ Γ ⨾ p ⊢ b ⦂ Ty.unit →
            Γ ⨾ c ⊢ adv p e b ⦂ Ty.advice p
        -- p<e>
        is_lower : {Γ : List Ty} {c p : Dom} {e : Tm} →
            p ⊑ c →
            Γ ⨾ p ⊢ e ⦂ Ty.unit →
            Γ ⨾ c ⊢ lower p e ⦂ Ty.unit
        -- [m_i = ς_p x.e_i] (card 3), by figure 2 under outer variables
        is_obj : {Γ : List Ty} {c : Dom} {ms : Sigs} {bs : Tms} →
            Ty.object ms ∷ Γ ⊢ᵐ bs ⦂ ms →
            Γ ⨾ c ⊢ obj (Ty.object ms) bs ⦂ Ty.object ms
        -- store e1[e2] in e3 (card 6): the label is of the current domain
        is_keep : {Γ : List Ty} {c : Dom} {a t : Ty} {e f g : Tm} →
            Γ ⨾ c ⊢ e ⦂ Ty.label a c →
            Γ ⨾ c ⊢ f ⦂ a →
            Γ ⨾ c ⊢ g ⦂ t →
            Γ ⨾ c ⊢ keep e f g ⦂ t
        -- stackcase (card 6)
        is_matching : {Γ ts us : List Ty} {c : Dom} {t : Ty} {p : Pattern} {es : Tms} {f g : Tm} →
            Γ ⨾ c ⊢* es ⦂ Ty.stack ∷ ts →
            PatternTy p ts us →
            reverse_aux us Γ ⨾ c ⊢ f ⦂ t →
            Γ ⨾ c ⊢ g ⦂ t →
            Γ ⨾ c ⊢ match p es f g ⦂ t

      -- A list of operands, each with its type.
      pub data ◌⨾◌⊢*◌⦂◌ : List Ty → Dom → Tms → List Ty → Type 0 where
        is_end : {Γ : List Ty} {c : Dom} → Γ ⨾ c ⊢* end ⦂ []
        is_more : {Γ ts : List Ty} {c : Dom} {a : Ty} {e : Tm} {es : Tms} →
            Γ ⨾ c ⊢ e ⦂ a →
            Γ ⨾ c ⊢* es ⦂ ts →
            Γ ⨾ c ⊢* more e es ⦂ a ∷ ts

      -- The bodies of an object, each at its method's domain (card 3).
      pub data ◌⊢ᵐ◌⦂◌ : List Ty → Tms → Sigs → Type 0 where
        no_body : {Γ : List Ty} → Γ ⊢ᵐ end ⦂ no_method
        a_body : {Γ : List Ty} {p : Dom} {a : Ty} {e : Tm} {bs : Tms} {ms : Sigs} →
            Γ ⨾ p ⊢ e ⦂ a →
            Γ ⊢ᵐ bs ⦂ ms →
            Γ ⊢ᵐ more e bs ⦂ method p a ms
