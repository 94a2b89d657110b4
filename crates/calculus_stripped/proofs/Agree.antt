-- Card 13: two sets of domains that agree on all domains which the order relates. By both a typed program is stripped to the same, and is calm or not.
use mathlib.Core.Path.{◌≡◌, refl, sym, ap, ap₂, ◌∙◌}
use mathlib.Core.Bool.{Bool, true}
use mathlib.Core.List.{List}
use Rattle.calculus.specs.Combinators.{choose}
use Rattle.calculus.specs.Syntax.{Dom, Ty, Sigs, Val, Tm, Tms, Op0, val, lam, op1, op2, seq, split, pcd, adv, lower, obj, more}
use Rattle.calculus.specs.Typing.{StoreTyping, Policy, ◌⊢◌⦂◌ as Rule0, ⊢◌⦂◌ as ValTy, ◌⨾◌⊢◌⦂◌ as TmTy, ◌⨾◌⊢*◌⦂◌ as TmsTy, ◌⊢ᵐ◌⦂◌ as BodiesTy, t_new_label, t_abort, t_takedown, t_stack, is_val, is_var, is_lam, is_op0, is_op1, is_op2, is_seq, is_ite, is_split, is_pcd, is_adv, is_lower, is_obj, is_keep, is_matching, is_end, is_more, no_body, a_body}
use Rattle.calculus_noninterference.specs.NoLowTakedown.{NoLowTakedownOp, NoLowTakedown, NoLowTakedowns, NoLowTakedownBodies, NoLowTakedownVal}
use Rattle.calculus_stripped.specs.Strip.{strip, strips, strip_val}

body_same : (f g : Dom → Bool) {p : Dom} {e e' : Tm} → f p ≡ g p → e ≡ e' → choose (f p) e (val Val.unit) ≡ choose (g p) e' (val Val.unit)
body_same f g h k = ap₂ (λ b e. choose b e (val Val.unit)) h k

module _ {D : Policy} (f g : Dom → Bool) (same : (p q : Dom) → D.leq p q ≡ true → (f p ≡ g p) × (f q ≡ g q)) where
  no_low_takedown_op : {c : Dom} {o : Op0} {t : Ty} → Rule0 D c o t → NoLowTakedownOp f c o → NoLowTakedownOp g c o
  no_low_takedown_op (t_new_label l) x = tt
  no_low_takedown_op t_abort x = tt
  no_low_takedown_op {c} (t_takedown {p} l) x = sym (same p c l).1 ∙ x
  no_low_takedown_op t_stack x = tt

  module _ {Σ : StoreTyping} where
    mutual
      unfolding strip strips strip_val

      strip_val_lem : {v : Val} {t : Ty} → ValTy D Σ v t → strip_val f v ≡ strip_val g v
      strip_val_lem ValTy.v_unit = refl
      strip_val_lem ValTy.v_truth = refl
      strip_val_lem ValTy.v_number = refl
      strip_val_lem (ValTy.v_pair h k) = ap₂ Val.pair (strip_val_lem h) (strip_val_lem k)
      strip_val_lem (ValTy.v_fun {a} {b} {p} h) = ap (Val.fun (Ty.fun a p b)) (strip_same h)
      strip_val_lem (ValTy.v_label x) = refl
      strip_val_lem (ValTy.v_cell x) = refl
      strip_val_lem (ValTy.v_pointcut h) = refl
      strip_val_lem (ValTy.v_advice {ls} {p} {q} h l k) = ap (Val.advice p ls) (body_same f g (same p q l).0 (strip_same k))
      strip_val_lem (ValTy.v_object {ms} h) = ap (Val.object (Ty.object ms)) (strip_bodies h)
      strip_val_lem ValTy.v_bottom = refl
      strip_val_lem (ValTy.v_kept {l} x h k) = ap₂ (Val.kept l) (strip_val_lem h) (strip_val_lem k)

      pub strip_same : {Γ : List Ty} {c : Dom} {e : Tm} {t : Ty} → TmTy D Σ Γ c e t → strip f e ≡ strip g e
      strip_same (is_val h) = ap val (strip_val_lem h)
      strip_same (is_var x) = refl
      strip_same (is_lam {p} {a} {b} h) = ap (lam (Ty.fun a p b)) (strip_same h)
      strip_same (is_op0 r) = refl
      strip_same (is_op1 {o} {t} r h) = ap (op1 o t) (strip_same h)
      strip_same (is_op2 {o} {t} r h k) = ap₂ (op2 o t) (strip_same h) (strip_same k)
      strip_same (is_seq h k) = ap₂ seq (strip_same h) (strip_same k)
      strip_same (is_ite h k l) = let x = strip_same h in let y = strip_same k in let z = strip_same l in cc
      strip_same (is_split h k) = ap₂ split (strip_same h) (strip_same k)
      strip_same (is_pcd h l) = ap pcd (strips_same h)
      strip_same (is_adv {p} {q} h l k) = ap₂ (adv p) (strip_same h) (body_same f g (same p q l).0 (strip_same k))
      strip_same (is_lower {c} {p} l h) = ap (lower p) (body_same f g (same p c l).0 (strip_same h))
      strip_same (is_obj {ms} h) = ap (obj (Ty.object ms)) (strip_bodies h)
      strip_same (is_keep h k l) = let x = strip_same h in let y = strip_same k in let z = strip_same l in cc
      strip_same (is_matching h p k l) = let x = strips_same h in let y = strip_same k in let z = strip_same l in cc

      strips_same : {Γ ts : List Ty} {c : Dom} {es : Tms} → TmsTy D Σ Γ c es ts → strips f es ≡ strips g es
      strips_same is_end = refl
      strips_same (is_more h k) = ap₂ more (strip_same h) (strips_same k)

      strip_bodies : {Γ : List Ty} {bs : Tms} {ms : Sigs} → BodiesTy D Σ Γ bs ms → strips f bs ≡ strips g bs
      strip_bodies no_body = refl
      strip_bodies (a_body h k) = ap₂ more (strip_same h) (strip_bodies k)

    mutual
      unfolding NoLowTakedown NoLowTakedowns NoLowTakedownBodies NoLowTakedownVal

      no_low_takedown_val : {v : Val} {t : Ty} → ValTy D Σ v t → NoLowTakedownVal f v → NoLowTakedownVal g v
      no_low_takedown_val ValTy.v_unit x = tt
      no_low_takedown_val ValTy.v_truth x = tt
      no_low_takedown_val ValTy.v_number x = tt
      no_low_takedown_val (ValTy.v_pair h k) x = (no_low_takedown_val h x.0, no_low_takedown_val k x.1)
      no_low_takedown_val (ValTy.v_fun h) x = no_low_takedown_same h x
      no_low_takedown_val (ValTy.v_label y) x = tt
      no_low_takedown_val (ValTy.v_cell y) x = tt
      no_low_takedown_val (ValTy.v_pointcut h) x = tt
      no_low_takedown_val (ValTy.v_advice h l k) x = no_low_takedown_same k x
      no_low_takedown_val (ValTy.v_object h) x = no_low_takedown_bodies h x
      no_low_takedown_val ValTy.v_bottom x = tt
      no_low_takedown_val (ValTy.v_kept y h k) x = (no_low_takedown_val h x.0, no_low_takedown_val k x.1)

      pub no_low_takedown_same : {Γ : List Ty} {c : Dom} {e : Tm} {t : Ty} → TmTy D Σ Γ c e t → NoLowTakedown f c e → NoLowTakedown g c e
      no_low_takedown_same (is_val h) x = no_low_takedown_val h x
      no_low_takedown_same (is_var y) x = tt
      no_low_takedown_same (is_lam h) x = no_low_takedown_same h x
      no_low_takedown_same (is_op0 r) x = no_low_takedown_op r x
      no_low_takedown_same (is_op1 r h) x = no_low_takedown_same h x
      no_low_takedown_same (is_op2 r h k) x = (no_low_takedown_same h x.0, no_low_takedown_same k x.1)
      no_low_takedown_same (is_seq h k) x = (no_low_takedown_same h x.0, no_low_takedown_same k x.1)
      no_low_takedown_same (is_ite h k l) x = (no_low_takedown_same h x.0, no_low_takedown_same k x.1, no_low_takedown_same l x.2)
      no_low_takedown_same (is_split h k) x = (no_low_takedown_same h x.0, no_low_takedown_same k x.1)
      no_low_takedown_same (is_pcd h l) x = no_low_takedowns_same h x
      no_low_takedown_same (is_adv h l k) x = (no_low_takedown_same h x.0, no_low_takedown_same k x.1)
      no_low_takedown_same (is_lower l h) x = no_low_takedown_same h x
      no_low_takedown_same (is_obj h) x = no_low_takedown_bodies h x
      no_low_takedown_same (is_keep h k l) x = (no_low_takedown_same h x.0, no_low_takedown_same k x.1, no_low_takedown_same l x.2)
      no_low_takedown_same (is_matching h p k l) x = (no_low_takedowns_same h x.0, no_low_takedown_same k x.1, no_low_takedown_same l x.2)

      no_low_takedowns_same : {Γ ts : List Ty} {c : Dom} {es : Tms} → TmsTy D Σ Γ c es ts → NoLowTakedowns f c es → NoLowTakedowns g c es
      no_low_takedowns_same is_end x = tt
      no_low_takedowns_same (is_more h k) x = (no_low_takedown_same h x.0, no_low_takedowns_same k x.1)

      no_low_takedown_bodies : {Γ : List Ty} {bs : Tms} {ms : Sigs} → BodiesTy D Σ Γ bs ms → NoLowTakedownBodies f ms bs → NoLowTakedownBodies g ms bs
      no_low_takedown_bodies no_body x = tt
      no_low_takedown_bodies (a_body h k) x = (no_low_takedown_same h x.0, no_low_takedown_bodies k x.1)
