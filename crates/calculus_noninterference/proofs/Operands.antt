-- An operand that is a value, put back as that value, stays related to the operand of the other run, which may still be a function or object term.
use mathlib.Core.Path.{◌≡◌, subst as transp}
use mathlib.Core.Bool.{Bool}
use mathlib.Core.List.{[]}
use mathlib.Core.Option.{some}
use Rattle.calculus.specs.Syntax.{Dom, Ty, Val, Tm, Tms, as_value, val, lam, obj}
use Rattle.calculus.specs.Typing.{Policy, StoreTyping, ◌⨾◌⊢◌⦂◌ as TmTy, is_val, is_var, is_lam, is_op0, is_op1, is_op2, is_seq, is_ite, is_split, is_pcd, is_adv, is_lower, is_obj, is_keep, is_matching}
use Rattle.calculus_noninterference.proofs.Clash.{no_some}
use Rattle.calculus_noninterference.proofs.Closed.{closed_body, closed_bodies}
use Rattle.calculus_noninterference.proofs.Related.{World, ClosedBody, ClosedBodies, RelV, RelT, v_fun, v_object, r_val, r_val_lam, r_lam_val, r_val_obj, r_obj_val}

-- A term that is the value v.
data IsValue : Tm → Val → Type 0 where
  as_val : {v : Val} → IsValue (val v) v
  as_lam : {t : Ty} {e : Tm} → ClosedBody e → IsValue (lam t e) (Val.fun t e)
  as_obj : {t : Ty} {bs : Tms} → ClosedBodies bs → IsValue (obj t bs) (Val.object t bs)

is_value : {D : Policy} {Σ : StoreTyping} {c : Dom} {e : Tm} {t : Ty} {v : Val} → TmTy D Σ [] c e t → as_value e ≡ some v → IsValue e v
is_value (is_val {v = u} h) p = transp (IsValue (val u)) (cc) as_val
is_value (is_var h) p = no_some p
is_value (is_lam {p = q} {a} {b} {e} h) p = transp (IsValue (lam (Ty.fun a q b) e)) (cc) (as_lam (closed_body h))
is_value (is_op0 h) p = no_some p
is_value (is_op1 h k) p = no_some p
is_value (is_op2 h k l) p = no_some p
is_value (is_seq h k) p = no_some p
is_value (is_ite h k l) p = no_some p
is_value (is_split h k) p = no_some p
is_value (is_pcd h l) p = no_some p
is_value (is_adv h k l) p = no_some p
is_value (is_lower h k) p = no_some p
is_value (is_obj {ms} {bs} h) p = transp (IsValue (obj (Ty.object ms) bs)) (cc) (as_obj (closed_bodies h))
is_value (is_keep h k l) p = no_some p
is_value (is_matching h k l m) p = no_some p

module _ (hi : Dom → Bool) {W : World} where
  back_left : {v v' : Val} {e : Tm} → IsValue e v' → RelV hi W v v' → RelT hi W (val v) e
  back_left as_val r = r_val r
  back_left (as_lam c) (v_fun b) = r_val_lam c (v_fun b)
  back_left (as_obj c) (v_object b) = r_val_obj c (v_object b)

  back_right : {v v' : Val} {e : Tm} → IsValue e v → RelV hi W v v' → RelT hi W e (val v')
  back_right as_val r = r_val r
  back_right (as_lam c) (v_fun b) = r_lam_val c (v_fun b)
  back_right (as_obj c) (v_object b) = r_obj_val c (v_object b)

  module _ {D : Policy} {Σ : StoreTyping} {c : Dom} {e : Tm} {t : Ty} {v v' : Val} where
    -- v stands in the left run, the operand e in the right.
    pub value_left : TmTy D Σ [] c e t → as_value e ≡ some v' → RelV hi W v v' → RelT hi W (val v) e
    value_left T p r = back_left (is_value T p) r

    -- The operand e stands in the left run, v' in the right.
    pub value_right : TmTy D Σ [] c e t → as_value e ≡ some v → RelV hi W v v' → RelT hi W e (val v')
    value_right T p r = back_right (is_value T p) r
