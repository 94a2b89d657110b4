-- Related terms with related values substituted are related.
use Prim.Native.Nat.{ℕ, suc}
use mathlib.Core.Path.{ap}
use mathlib.Core.Bool.{Bool, true, false}
use lib.Dec.{eqb, ltb}
use Rattle.calculus.specs.Combinators.{choose}
use Rattle.calculus.specs.Syntax.{Dom, Sigs, Ty, Val, Tm, Tms, val, lam, obj}
use Rattle.calculus.specs.Subst.{subst, substs, under}
use Rattle.calculus_noninterference.proofs.Related.{World, ClosedBody, ClosedBodies, Inert, inert_lower, inert_unit, RelV, RelT, RelB, RelL, l_high, l_low, Mute, RelTs, RelBs, b_rel, b_low, r_val, r_var, r_lam, r_val_lam, r_lam_val, r_op0, r_op1, r_op2, r_seq, r_ite, r_split, r_pcd, r_adv, r_lower, r_obj, r_val_obj, r_obj_val, r_keep, r_match, r_skip_left, r_skip_right, r_end, r_more, r_no_body, r_body}

mute_subst : {b : Bool} (k : ℕ) (v : Val) {e : Tm} → Mute b e → Mute b (subst k v e)
unfolding subst
mute_subst k v m z = ap (subst k v) (m z)

module _ (hi : Dom → Bool) where
  inert_subst : {h : Tm} (k : ℕ) (v : Val) → Inert hi h → Inert hi (subst k v h)
  unfolding subst
  inert_subst k v (inert_lower l) = inert_lower l
  inert_subst k v inert_unit = inert_unit

  module _ {W : World} where
    pub rel_choose : (b : Bool) {e e' f f' : Tm} → RelT hi W e e' → RelT hi W f f' → RelT hi W (choose b e f) (choose b e' f')
    rel_choose true r s = r
    rel_choose false r s = s

    val_lam : {t : Ty} {e e' : Tm} (k : ℕ) (w : Val) → ClosedBody e' → RelV hi W (Val.fun t e) (Val.fun t e') → RelT hi W (val (Val.fun t e)) (lam t (subst (suc k) w e'))
    val_lam k w c r = rw (c k w) (r_val_lam c r)

    lam_val : {t : Ty} {e e' : Tm} (k : ℕ) (w : Val) → ClosedBody e → RelV hi W (Val.fun t e) (Val.fun t e') → RelT hi W (lam t (subst (suc k) w e)) (val (Val.fun t e'))
    lam_val k w c r = rw (c k w) (r_lam_val c r)

    val_obj : {t : Ty} {bs bs' : Tms} (k : ℕ) (w : Val) → ClosedBodies bs' → RelV hi W (Val.object t bs) (Val.object t bs') → RelT hi W (val (Val.object t bs)) (obj t (substs (suc k) w bs'))
    val_obj k w c r = rw (c k w) (r_val_obj c r)

    obj_val : {t : Ty} {bs bs' : Tms} (k : ℕ) (w : Val) → ClosedBodies bs → RelV hi W (Val.object t bs) (Val.object t bs') → RelT hi W (obj t (substs (suc k) w bs)) (val (Val.object t bs'))
    obj_val k w c r = rw (c k w) (r_obj_val c r)

    mutual
      unfolding subst substs

      pub rel_t_subst : {v v' : Val} {e e' : Tm} → RelT hi W e e' → (k : ℕ) → RelV hi W v v' → RelT hi W (subst k v e) (subst k v' e')
      rel_t_subst (r_val r) k u = r_val r
      rel_t_subst (r_var {k = i}) k u = rel_choose (eqb i k) (r_val u) (rel_choose (ltb k i) r_var r_var)
      rel_t_subst (r_lam r) k u = r_lam (rel_b_subst r (suc k) u)
      rel_t_subst {v'} (r_val_lam {t} {e} c r) k u = val_lam k v' c r
      rel_t_subst {v} (r_lam_val {t} {e'} c r) k u = lam_val k v c r
      rel_t_subst r_op0 k u = r_op0
      rel_t_subst (r_op1 r) k u = r_op1 (rel_t_subst r k u)
      rel_t_subst (r_op2 r s) k u = r_op2 (rel_t_subst r k u) (rel_t_subst s k u)
      rel_t_subst (r_seq r s) k u = r_seq (rel_t_subst r k u) (rel_t_subst s k u)
      rel_t_subst (r_ite r s t) k u = r_ite (rel_t_subst r k u) (rel_t_subst s k u) (rel_t_subst t k u)
      rel_t_subst (r_split r s) k u = r_split (rel_t_subst r k u) (rel_t_subst s (suc (suc k)) u)
      rel_t_subst (r_pcd r) k u = r_pcd (rel_ts_subst r k u)
      rel_t_subst (r_adv r s) k u = r_adv (rel_t_subst r k u) (rel_l_subst s (suc k) u)
      rel_t_subst (r_lower r) k u = r_lower (rel_l_subst r k u)
      rel_t_subst (r_obj r) k u = r_obj (rel_bs_subst r (suc k) u)
      rel_t_subst {v'} (r_val_obj c r) k u = val_obj k v' c r
      rel_t_subst {v} (r_obj_val c r) k u = obj_val k v c r
      rel_t_subst (r_keep r s t) k u = r_keep (rel_t_subst r k u) (rel_t_subst s k u) (rel_t_subst t k u)
      rel_t_subst (r_match {p} r s t) k u = r_match (rel_ts_subst r k u) (rel_t_subst s (under p k) u) (rel_t_subst t k u)
      rel_t_subst {v} (r_skip_left i r) k u = r_skip_left (inert_subst k v i) (rel_t_subst r k u)
      rel_t_subst {v'} (r_skip_right z i r) k u = r_skip_right z (inert_subst k v' i) (rel_t_subst r k u)

      pub rel_b_subst : {p : Dom} {v v' : Val} {e e' : Tm} → RelB hi W p e e' → (k : ℕ) → RelV hi W v v' → RelB hi W p (subst k v e) (subst k v' e')
      rel_b_subst (b_rel r) k u = b_rel (rel_t_subst r k u)
      rel_b_subst (b_low l) k u = b_low l

      pub rel_l_subst : {p : Dom} {v v' : Val} {e e' : Tm} → RelL hi W p e e' → (k : ℕ) → RelV hi W v v' → RelL hi W p (subst k v e) (subst k v' e')
      rel_l_subst (l_high h r) k u = l_high h (rel_t_subst r k u)
      rel_l_subst {v'} (l_low l m) k u = l_low l (mute_subst k v' m)

      rel_ts_subst : {v v' : Val} {es es' : Tms} → RelTs hi W es es' → (k : ℕ) → RelV hi W v v' → RelTs hi W (substs k v es) (substs k v' es')
      rel_ts_subst r_end k u = r_end
      rel_ts_subst (r_more r s) k u = r_more (rel_t_subst r k u) (rel_ts_subst s k u)

      rel_bs_subst : {ms : Sigs} {v v' : Val} {bs bs' : Tms} → RelBs hi W ms bs bs' → (k : ℕ) → RelV hi W v v' → RelBs hi W ms (substs k v bs) (substs k v' bs')
      rel_bs_subst r_no_body k u = r_no_body
      rel_bs_subst (r_body r s) k u = r_body (rel_b_subst r k u) (rel_bs_subst s k u)
