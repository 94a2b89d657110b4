-- Card 13: a stripped program keeps its type, so it is always accepted.
use mathlib.Core.Bool.{Bool, true, false}
use mathlib.Core.List.{List}
use Rattle.calculus.specs.Combinators.{choose}
use Rattle.calculus.specs.Syntax.{Dom, Ty, Sigs, Val, Tm, Tms, val}
use Rattle.calculus.specs.Typing.{StoreTyping, Policy, ⊢◌⦂◌ as ValTy, ◌⨾◌⊢◌⦂◌ as TmTy, ◌⨾◌⊢*◌⦂◌ as TmsTy, ◌⊢ᵐ◌⦂◌ as BodiesTy, is_val, is_var, is_lam, is_op0, is_op1, is_op2, is_seq, is_ite, is_split, is_pcd, is_adv, is_lower, is_obj, is_keep, is_matching, is_end, is_more, no_body, a_body}
use Rattle.calculus_stripped.specs.Strip.{strip, strips, strip_val}

module _ {D : Policy} {Σ : StoreTyping} (high : Dom → Bool) where
  unit_typed : {Γ : List Ty} {p : Dom} {e : Tm} (b : Bool) → TmTy D Σ Γ p e Ty.unit → TmTy D Σ Γ p (choose b e (val Val.unit)) Ty.unit
  unit_typed true h = h
  unit_typed false h = is_val ValTy.v_unit

  mutual
    unfolding strip strips strip_val

    strip_val_typed : {v : Val} {t : Ty} → ValTy D Σ v t → ValTy D Σ (strip_val high v) t
    strip_val_typed ValTy.v_unit = ValTy.v_unit
    strip_val_typed ValTy.v_truth = ValTy.v_truth
    strip_val_typed ValTy.v_number = ValTy.v_number
    strip_val_typed (ValTy.v_pair h k) = ValTy.v_pair (strip_val_typed h) (strip_val_typed k)
    strip_val_typed (ValTy.v_fun h) = ValTy.v_fun (strip_typed h)
    strip_val_typed (ValTy.v_label g) = ValTy.v_label g
    strip_val_typed (ValTy.v_cell g) = ValTy.v_cell g
    strip_val_typed (ValTy.v_pointcut h) = ValTy.v_pointcut h
    strip_val_typed (ValTy.v_advice {p} h o b) = ValTy.v_advice h o (unit_typed (high p) (strip_typed b))
    strip_val_typed (ValTy.v_object h) = ValTy.v_object (strip_bodies h)
    strip_val_typed ValTy.v_bottom = ValTy.v_bottom
    strip_val_typed (ValTy.v_kept g h k) = ValTy.v_kept g (strip_val_typed h) (strip_val_typed k)

    pub strip_typed : {Γ : List Ty} {c : Dom} {e : Tm} {t : Ty} → TmTy D Σ Γ c e t → TmTy D Σ Γ c (strip high e) t
    strip_typed (is_val h) = is_val (strip_val_typed h)
    strip_typed (is_var g) = is_var g
    strip_typed (is_lam h) = is_lam (strip_typed h)
    strip_typed (is_op0 r) = is_op0 r
    strip_typed (is_op1 r h) = is_op1 r (strip_typed h)
    strip_typed (is_op2 r h k) = is_op2 r (strip_typed h) (strip_typed k)
    strip_typed (is_seq h k) = is_seq (strip_typed h) (strip_typed k)
    strip_typed (is_ite h k l) = is_ite (strip_typed h) (strip_typed k) (strip_typed l)
    strip_typed (is_split h k) = is_split (strip_typed h) (strip_typed k)
    strip_typed (is_pcd h o) = is_pcd (strips_typed h) o
    strip_typed (is_adv {p} h o b) = is_adv (strip_typed h) o (unit_typed (high p) (strip_typed b))
    strip_typed (is_lower {p} o h) = is_lower o (unit_typed (high p) (strip_typed h))
    strip_typed (is_obj h) = is_obj (strip_bodies h)
    strip_typed (is_keep h k l) = is_keep (strip_typed h) (strip_typed k) (strip_typed l)
    strip_typed (is_matching h p k l) = is_matching (strips_typed h) p (strip_typed k) (strip_typed l)

    strips_typed : {Γ ts : List Ty} {c : Dom} {es : Tms} → TmsTy D Σ Γ c es ts → TmsTy D Σ Γ c (strips high es) ts
    strips_typed is_end = is_end
    strips_typed (is_more h k) = is_more (strip_typed h) (strips_typed k)

    strip_bodies : {Γ : List Ty} {bs : Tms} {ms : Sigs} → BodiesTy D Σ Γ bs ms → BodiesTy D Σ Γ (strips high bs) ms
    strip_bodies no_body = no_body
    strip_bodies (a_body h k) = a_body (strip_typed h) (strip_bodies k)
