-- Card 13: a program and the same stripped are related.
use mathlib.Core.Path.{◌≡◌, refl}
use mathlib.Core.Bool.{Bool, true, false}
use mathlib.Core.List.{List}
use Rattle.calculus.specs.Combinators.{choose}
use Rattle.calculus.specs.Syntax.{Dom, Ty, Sigs, Val, Tm, Tms, val}
use Rattle.calculus.specs.Typing.{Policy, no_store, ⊢◌⦂◌ as ValTy, ◌⨾◌⊢◌⦂◌ as TmTy, ◌⨾◌⊢*◌⦂◌ as TmsTy, ◌⊢ᵐ◌⦂◌ as BodiesTy, is_val, is_var, is_lam, is_op0, is_op1, is_op2, is_seq, is_ite, is_split, is_pcd, is_adv, is_lower, is_obj, is_keep, is_matching, is_end, is_more, no_body, a_body}
use Rattle.laws.proofs.Lists.{none_some}
use Rattle.calculus_noninterference.proofs.Related.{World, RelV, RelT, RelL, RelTs, RelBs, b_rel, l_high, l_low, v_unit, v_truth, v_number, v_pair, v_fun, v_pointcut, v_advice, v_object, v_bottom, r_val, r_var, r_lam, r_op0, r_op1, r_op2, r_seq, r_ite, r_split, r_pcd, r_adv, r_lower, r_obj, r_keep, r_match, r_end, r_more, r_no_body, r_body}
use Rattle.calculus_noninterference.proofs.Blanked.{labels_rel}
use Rattle.calculus_stripped.specs.Strip.{strip, strips, strip_val}

module _ (hi : Dom → Bool) {W : World} where
  low_rel : {p : Dom} {e x : Tm} (b : Bool) → hi p ≡ b → RelT hi W e x → RelL hi W p e (choose b x (val Val.unit))
  low_rel true h r = l_high h r
  low_rel false h r = l_low h (λ z. refl)

  module _ {D : Policy} where
    mutual
      unfolding strip strips strip_val

      strip_val_rel : {v : Val} {t : Ty} → ValTy D no_store v t → RelV hi W v (strip_val hi v)
      strip_val_rel ValTy.v_unit = v_unit
      strip_val_rel ValTy.v_truth = v_truth
      strip_val_rel ValTy.v_number = v_number
      strip_val_rel (ValTy.v_pair x y) = v_pair (strip_val_rel x) (strip_val_rel y)
      strip_val_rel (ValTy.v_fun x) = v_fun (b_rel (strip_rel x))
      strip_val_rel (ValTy.v_label x) = absurd (none_some x)
      strip_val_rel (ValTy.v_cell x) = absurd (none_some x)
      strip_val_rel (ValTy.v_pointcut x) = v_pointcut (labels_rel hi x)
      strip_val_rel (ValTy.v_advice {p} x l y) = v_advice (labels_rel hi x) (low_rel (hi p) refl (strip_rel y))
      strip_val_rel (ValTy.v_object x) = v_object (bodies_rel x)
      strip_val_rel ValTy.v_bottom = v_bottom
      strip_val_rel (ValTy.v_kept x y z) = absurd (none_some x)

      pub strip_rel : {Γ : List Ty} {c : Dom} {e : Tm} {t : Ty} → TmTy D no_store Γ c e t → RelT hi W e (strip hi e)
      strip_rel (is_val x) = r_val (strip_val_rel x)
      strip_rel (is_var x) = r_var
      strip_rel (is_lam x) = r_lam (b_rel (strip_rel x))
      strip_rel (is_op0 r) = r_op0
      strip_rel (is_op1 r x) = r_op1 (strip_rel x)
      strip_rel (is_op2 r x y) = r_op2 (strip_rel x) (strip_rel y)
      strip_rel (is_seq x y) = r_seq (strip_rel x) (strip_rel y)
      strip_rel (is_ite x y z) = r_ite (strip_rel x) (strip_rel y) (strip_rel z)
      strip_rel (is_split x y) = r_split (strip_rel x) (strip_rel y)
      strip_rel (is_pcd x l) = r_pcd (strips_rel x)
      strip_rel (is_adv {p} x l y) = r_adv (strip_rel x) (low_rel (hi p) refl (strip_rel y))
      strip_rel (is_lower {p} l x) = r_lower (low_rel (hi p) refl (strip_rel x))
      strip_rel (is_obj x) = r_obj (bodies_rel x)
      strip_rel (is_keep x y z) = r_keep (strip_rel x) (strip_rel y) (strip_rel z)
      strip_rel (is_matching x p y z) = r_match (strips_rel x) (strip_rel y) (strip_rel z)

      strips_rel : {Γ ts : List Ty} {c : Dom} {es : Tms} → TmsTy D no_store Γ c es ts → RelTs hi W es (strips hi es)
      strips_rel is_end = r_end
      strips_rel (is_more x y) = r_more (strip_rel x) (strips_rel y)

      bodies_rel : {Γ : List Ty} {bs : Tms} {ms : Sigs} → BodiesTy D no_store Γ bs ms → RelBs hi W ms bs (strips hi bs)
      bodies_rel no_body = r_no_body
      bodies_rel (a_body x y) = r_body (b_rel (strip_rel x)) (bodies_rel y)
