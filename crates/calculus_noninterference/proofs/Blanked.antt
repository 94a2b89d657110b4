-- Two programs that are equal once their low bodies are blanked are related (document 01, "Two runs compared").
use Prim.Native.Nat.{ℕ}
use mathlib.Core.Path.{◌≡◌, refl, sym}
use mathlib.Core.Bool.{Bool, true, false}
use mathlib.Core.List.{List}
use Rattle.calculus.specs.Syntax.{Dom, Ty, Sigs, no_method, method, Val, Tm, Tms, Pattern, Op0, Op1, Op2, val, var, lam, op0, op1, op2, seq, ite, split, pcd, adv, lower, obj, keep, match, end, more}
use Rattle.calculus.specs.Plain.{dom_of, methods_of}
use Rattle.calculus.specs.Blank.{body, blank, blanks, blank_bodies}
use Rattle.calculus.specs.Typing.{Policy, no_store, LabelsOf, no_labels, one_label, ⊢◌⦂◌ as ValTy, ◌⨾◌⊢◌⦂◌ as TmTy, ◌⨾◌⊢*◌⦂◌ as TmsTy, ◌⊢ᵐ◌⦂◌ as BodiesTy, is_val, is_var, is_lam, is_op0, is_op1, is_op2, is_seq, is_ite, is_split, is_pcd, is_adv, is_lower, is_obj, is_keep, is_matching, is_end, is_more, no_body, a_body}
use Rattle.laws.proofs.Lists.{none_some, All2.all2_nil}
use Rattle.calculus_noninterference.proofs.Clash.{clash}
use Rattle.calculus_noninterference.proofs.Interleave.{Side, Matches}
use Rattle.calculus_noninterference.proofs.Related.{World, RelV, RelT, RelB, RelL, l_high, l_low, RelTs, RelBs, b_rel, b_low, v_unit, v_truth, v_number, v_pair, v_fun, v_pointcut, v_advice, v_object, v_bottom, r_val, r_var, r_lam, r_op0, r_op1, r_op2, r_seq, r_ite, r_split, r_pcd, r_adv, r_lower, r_obj, r_keep, r_match, r_end, r_more, r_no_body, r_body}

module _ (hi : Dom → Bool) where
  -- x is e with low bodies blanked: the graph of `blank`, which says nothing of a low body.
  mutual
    data Blanked : Tm → Tm → Type 0 where
      b_val : {v : Val} → Blanked (val v) (val v)
      b_var : {k : ℕ} → Blanked (var k) (var k)
      b_lam : {t : Ty} {b x : Tm} → (hi (dom_of t) ≡ true → Blanked b x) → Blanked (lam t b) (lam t x)
      b_op0 : {o : Op0} {t : Ty} → Blanked (op0 o t) (op0 o t)
      b_op1 : {o : Op1} {t : Ty} {e x : Tm} → Blanked e x → Blanked (op1 o t e) (op1 o t x)
      b_op2 : {o : Op2} {t : Ty} {e x f y : Tm} → Blanked e x → Blanked f y → Blanked (op2 o t e f) (op2 o t x y)
      b_seq : {e x f y : Tm} → Blanked e x → Blanked f y → Blanked (seq e f) (seq x y)
      b_ite : {e x f y g z : Tm} → Blanked e x → Blanked f y → Blanked g z → Blanked (ite e f g) (ite x y z)
      b_split : {e x f y : Tm} → Blanked e x → Blanked f y → Blanked (split e f) (split x y)
      b_pcd : {es xs : Tms} → Blankeds es xs → Blanked (pcd es) (pcd xs)
      b_adv : {p : Dom} {e x b y : Tm} → Blanked e x → (hi p ≡ true → Blanked b y) → Blanked (adv p e b) (adv p x y)
      b_lower : {p : Dom} {e x : Tm} → (hi p ≡ true → Blanked e x) → Blanked (lower p e) (lower p x)
      b_obj : {t : Ty} {bs xs : Tms} → BlankedBs (methods_of t) bs xs → Blanked (obj t bs) (obj t xs)
      b_keep : {e x f y g z : Tm} → Blanked e x → Blanked f y → Blanked g z → Blanked (keep e f g) (keep x y z)
      b_match : {p : Pattern} {es xs : Tms} {f y g z : Tm} → Blankeds es xs → Blanked f y → Blanked g z → Blanked (match p es f g) (match p xs y z)

    data Blankeds : Tms → Tms → Type 0 where
      b_end : Blankeds end end
      b_more : {e x : Tm} {es xs : Tms} → Blanked e x → Blankeds es xs → Blankeds (more e es) (more x xs)

    data BlankedBs : Sigs → Tms → Tms → Type 0 where
      b_none : {ms : Sigs} → BlankedBs ms end end
      b_over : {e x : Tm} {bs xs : Tms} → (hi 0 ≡ true → Blanked e x) → BlankedBs no_method bs xs → BlankedBs no_method (more e bs) (more x xs)
      b_body : {p : Dom} {a : Ty} {ms : Sigs} {e x : Tm} {bs xs : Tms} → (hi p ≡ true → Blanked e x) → BlankedBs ms bs xs → BlankedBs (method p a ms) (more e bs) (more x xs)

  body_high : {p : Dom} {e : Tm} → hi p ≡ true → body hi p e ≡ e
  body_high h = rw h

  blanked_body : (p : Dom) {b x : Tm} → Blanked b x → hi p ≡ true → Blanked b (body hi p x)
  blanked_body p r h = rw (body_high h) r

  mutual
    unfolding blank blanks blank_bodies

    blanked : (e : Tm) → Blanked e (blank hi e)
    blanked (val v) = b_val
    blanked (var k) = b_var
    blanked (lam t b) = b_lam (blanked_body (dom_of t) (blanked b))
    blanked (op0 o t) = b_op0
    blanked (op1 o t e) = b_op1 (blanked e)
    blanked (op2 o t e f) = b_op2 (blanked e) (blanked f)
    blanked (seq e f) = b_seq (blanked e) (blanked f)
    blanked (ite e f g) = b_ite (blanked e) (blanked f) (blanked g)
    blanked (split e f) = b_split (blanked e) (blanked f)
    blanked (pcd es) = b_pcd (blankeds es)
    blanked (adv p e b) = b_adv (blanked e) (blanked_body p (blanked b))
    blanked (lower p e) = b_lower (blanked_body p (blanked e))
    blanked (obj t bs) = b_obj (blanked_bs (methods_of t) bs)
    blanked (keep e f g) = b_keep (blanked e) (blanked f) (blanked g)
    blanked (match p es f g) = b_match (blankeds es) (blanked f) (blanked g)

    blankeds : (es : Tms) → Blankeds es (blanks hi es)
    blankeds end = b_end
    blankeds (more e es) = b_more (blanked e) (blankeds es)

    blanked_bs : (ms : Sigs) (bs : Tms) → BlankedBs ms bs (blank_bodies hi ms bs)
    blanked_bs ms end = b_none
    blanked_bs no_method (more e bs) = b_over (blanked_body 0 (blanked e)) (blanked_bs no_method bs)
    blanked_bs (method p a ms) (more e bs) = b_body (blanked_body p (blanked e)) (blanked_bs ms bs)

  module _ {W : World} where
    body_rel : (p : Dom) {b b' : Tm} (x : Tm) → (hi p ≡ true → Blanked b' (body hi p x)) → (Blanked b' x → RelT hi W b b') → RelB hi W p b b'
    body_rel p {b} {b'} x f g = pick (hi p) refl
      where
        pick : (o : Bool) → hi p ≡ o → RelB hi W p b b'
        pick true h = b_rel (g (rw (body_high h) at (f h)))
        pick false h = b_low h

    -- Of a lower or of advice, in two programs of which neither is stripped.
    low_rel : W.stripped ≡ false → (p : Dom) {b b' : Tm} (x : Tm) → (hi p ≡ true → Blanked b' (body hi p x)) → (Blanked b' x → RelT hi W b b') → RelL hi W p b b'
    low_rel z p {b} {b'} x f g = pick (hi p) refl
      where
        pick : (o : Bool) → hi p ≡ o → RelL hi W p b b'
        pick true h = l_high h (g (rw (body_high h) at (f h)))
        pick false h = l_low h (λ t. clash t z)

  -- Before a run there is no label.
  pub labels_rel : {D : Policy} {w : List Side} {a : Ty} {p : Dom} {ls : List ℕ} → LabelsOf D no_store a p ls → Matches w ls ls
  labels_rel no_labels = all2_nil
  labels_rel (one_label x l y) = absurd (none_some x)

  -- What holds of every term that is x with low bodies blanked holds of e, which is one.
  module _ (P : Tm → Type 0) (e : Tm) where
    abbrev OfTerm : Tm → Type 0
    OfTerm (val v) = P (val v) → P e
    OfTerm (var k) = P (var k) → P e
    OfTerm (lam t x) = ((b : Tm) → (hi (dom_of t) ≡ true → Blanked b x) → P (lam t b)) → P e
    OfTerm (op0 o t) = P (op0 o t) → P e
    OfTerm (op1 o t x) = ((f : Tm) → Blanked f x → P (op1 o t f)) → P e
    OfTerm (op2 o t x y) = ((f g : Tm) → Blanked f x → Blanked g y → P (op2 o t f g)) → P e
    OfTerm (seq x y) = ((f g : Tm) → Blanked f x → Blanked g y → P (seq f g)) → P e
    OfTerm (ite x y z) = ((f g h : Tm) → Blanked f x → Blanked g y → Blanked h z → P (ite f g h)) → P e
    OfTerm (split x y) = ((f g : Tm) → Blanked f x → Blanked g y → P (split f g)) → P e
    OfTerm (pcd xs) = ((fs : Tms) → Blankeds fs xs → P (pcd fs)) → P e
    OfTerm (adv p x y) = ((f b : Tm) → Blanked f x → (hi p ≡ true → Blanked b y) → P (adv p f b)) → P e
    OfTerm (lower p x) = ((b : Tm) → (hi p ≡ true → Blanked b x) → P (lower p b)) → P e
    OfTerm (obj t xs) = ((bs : Tms) → BlankedBs (methods_of t) bs xs → P (obj t bs)) → P e
    OfTerm (keep x y z) = ((f g h : Tm) → Blanked f x → Blanked g y → Blanked h z → P (keep f g h)) → P e
    OfTerm (match p xs y z) = ((fs : Tms) (g h : Tm) → Blankeds fs xs → Blanked g y → Blanked h z → P (match p fs g h)) → P e

  -- `Blanked` is matched here alone.
  of_term : (P : Tm → Type 0) {e x : Tm} → Blanked e x → OfTerm P e x
  of_term P b_val = λ k. k
  of_term P b_var = λ k. k
  of_term P (b_lam f) = λ k. k _ f
  of_term P b_op0 = λ k. k
  of_term P (b_op1 a) = λ k. k _ a
  of_term P (b_op2 a b) = λ k. k _ _ a b
  of_term P (b_seq a b) = λ k. k _ _ a b
  of_term P (b_ite a b c) = λ k. k _ _ _ a b c
  of_term P (b_split a b) = λ k. k _ _ a b
  of_term P (b_pcd a) = λ k. k _ a
  of_term P (b_adv a f) = λ k. k _ _ a f
  of_term P (b_lower f) = λ k. k _ f
  of_term P (b_obj a) = λ k. k _ a
  of_term P (b_keep a b c) = λ k. k _ _ _ a b c
  of_term P (b_match a b c) = λ k. k _ _ _ a b c

  module _ {D : Policy} {W : World} (z : W.stripped ≡ false) where
    mutual
      unfolding blank blanks blank_bodies

      -- The values of a program are related to themselves.
      val_rel : {v : Val} {t : Ty} → ValTy D no_store v t → RelV hi W v v
      val_rel ValTy.v_unit = v_unit
      val_rel ValTy.v_truth = v_truth
      val_rel ValTy.v_number = v_number
      val_rel (ValTy.v_pair x y) = v_pair (val_rel x) (val_rel y)
      val_rel (ValTy.v_fun {e} x) = v_fun (b_rel (tm_rel x (blanked e)))
      val_rel (ValTy.v_label x) = absurd (none_some x)
      val_rel (ValTy.v_cell x) = absurd (none_some x)
      val_rel (ValTy.v_pointcut x) = v_pointcut (labels_rel x)
      val_rel (ValTy.v_advice {p} {e} x l y) = v_advice (labels_rel x) (low_rel z p _ (blanked_body p (blanked e)) (λ b. tm_rel y b))
      val_rel (ValTy.v_object {bs} x) = v_object (bodies_rel x (blanked_bs _ bs))
      val_rel ValTy.v_bottom = v_bottom
      val_rel (ValTy.v_kept x y z) = absurd (none_some x)

      tm_rel : {Γ : List Ty} {c : Dom} {e e' : Tm} {t : Ty} → TmTy D no_store Γ c e t → Blanked e' (blank hi e) → RelT hi W e e'
      tm_rel (is_val x) b = of_term (RelT hi W _) b (r_val (val_rel x))
      tm_rel (is_var x) b = of_term (RelT hi W _) b r_var
      tm_rel (is_lam {p} x) b = of_term (RelT hi W _) b (λ y f. r_lam (body_rel p _ f (λ a. tm_rel x a)))
      tm_rel (is_op0 r) b = of_term (RelT hi W _) b r_op0
      tm_rel (is_op1 r x) b = of_term (RelT hi W _) b (λ f a. r_op1 (tm_rel x a))
      tm_rel (is_op2 r x y) b = of_term (RelT hi W _) b (λ f g i j. r_op2 (tm_rel x i) (tm_rel y j))
      tm_rel (is_seq x y) b = of_term (RelT hi W _) b (λ f g i j. r_seq (tm_rel x i) (tm_rel y j))
      tm_rel (is_ite x y u) b = of_term (RelT hi W _) b (λ f g h i j k. r_ite (tm_rel x i) (tm_rel y j) (tm_rel u k))
      tm_rel (is_split x y) b = of_term (RelT hi W _) b (λ f g i j. r_split (tm_rel x i) (tm_rel y j))
      tm_rel (is_pcd x l) b = of_term (RelT hi W _) b (λ fs i. r_pcd (tms_rel x i))
      tm_rel (is_adv {p} x l y) b = of_term (RelT hi W _) b (λ f g i j. r_adv (tm_rel x i) (low_rel z p _ j (λ a. tm_rel y a)))
      tm_rel (is_lower {p} l x) b = of_term (RelT hi W _) b (λ f j. r_lower (low_rel z p _ j (λ a. tm_rel x a)))
      tm_rel (is_obj x) b = of_term (RelT hi W _) b (λ bs i. r_obj (bodies_rel x i))
      tm_rel (is_keep x y u) b = of_term (RelT hi W _) b (λ f g h i j k. r_keep (tm_rel x i) (tm_rel y j) (tm_rel u k))
      tm_rel (is_matching x l y u) b = of_term (RelT hi W _) b (λ fs g h i j k. r_match (tms_rel x i) (tm_rel y j) (tm_rel u k))

      tms_rel : {Γ ts : List Ty} {c : Dom} {es es' : Tms} → TmsTy D no_store Γ c es ts → Blankeds es' (blanks hi es) → RelTs hi W es es'
      tms_rel is_end b_end = r_end
      tms_rel (is_more x y) (b_more a b) = r_more (tm_rel x a) (tms_rel y b)

      bodies_rel : {Γ : List Ty} {bs bs' : Tms} {ms : Sigs} → BodiesTy D no_store Γ bs ms → BlankedBs ms bs' (blank_bodies hi ms bs) → RelBs hi W ms bs bs'
      bodies_rel no_body b_none = r_no_body
      bodies_rel (a_body {p} x y) (b_body f b) = r_body (body_rel p _ f (λ z. tm_rel x z)) (bodies_rel y b)

    pub blank_rel : {Γ : List Ty} {c : Dom} {e e' : Tm} {t : Ty} → TmTy D no_store Γ c e t → blank hi e ≡ blank hi e' → RelT hi W e e'
    blank_rel {e'} x same = tm_rel x (rw (sym same) at (blanked e'))
