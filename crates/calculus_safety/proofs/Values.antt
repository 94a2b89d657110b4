-- The value that a closed typed term is has the term's type; so do values that are put back among a list of operands.
use mathlib.Core.Path.{◌≡◌}
use mathlib.Core.List.{List, [], ◌∷◌, reverse_aux}
use mathlib.Core.Option.{Option, some, some-injective}
use Rattle.calculus.specs.Syntax.{Dom, Ty, Val, Tm, Tms, as_value}
use Rattle.calculus.specs.Step.{before}
use Rattle.calculus.specs.Typing.{StoreTyping, Policy, LabelTys, ⊢◌⦂◌ as ValTy, ◌⨾◌⊢◌⦂◌ as TmTy, ◌⨾◌⊢*◌⦂◌ as TmsTy}
use Rattle.laws.proofs.Lists.{none_some, All2, All2.all2_nil, All2.all2_cons}
use Rattle.calculus_safety.proofs.Extend.{Extends, grow_val}
use Rattle.calculus_safety.proofs.Safe.{Found, Found.found, Found.nothing}

module _ (D : Policy) (Σ : StoreTyping) where
  -- The value that a closed term of a type is, if it is one, has that type.
  pub as_value_lem : {c : Dom} {e : Tm} {t : Ty} → TmTy D Σ [] c e t → Found (λ v. ValTy D Σ v t) (as_value e)
  as_value_lem (TmTy.is_val h) = found h
  as_value_lem (TmTy.is_var e) = absurd (none_some e)
  as_value_lem (TmTy.is_lam h) = found (ValTy.v_fun h)
  as_value_lem (TmTy.is_op0 r) = nothing
  as_value_lem (TmTy.is_op1 r h) = nothing
  as_value_lem (TmTy.is_op2 r h k) = nothing
  as_value_lem (TmTy.is_seq h k) = nothing
  as_value_lem (TmTy.is_ite h k l) = nothing
  as_value_lem (TmTy.is_split h k) = nothing
  as_value_lem (TmTy.is_pcd h o) = nothing
  as_value_lem (TmTy.is_adv h o b) = nothing
  as_value_lem (TmTy.is_lower o h) = nothing
  as_value_lem (TmTy.is_obj h) = found (ValTy.v_object h)
  as_value_lem (TmTy.is_keep h k l) = nothing
  as_value_lem (TmTy.is_matching h p k l) = nothing

found_some : {A : Type 0} {R : A → Type 0} {o : Option A} → Found R o → (x : A) → o ≡ some x → R x
found_some (found {x = y} h) x e = rw (some-injective y x e) at h
found_some nothing x e = absurd (none_some e)

pub val_ty : {D : Policy} {Σ : StoreTyping} {c : Dom} {e : Tm} {t : Ty} {v : Val} → TmTy D Σ [] c e t → as_value e ≡ some v → ValTy D Σ v t
val_ty {D} {Σ} {v} h e = found_some (as_value_lem D Σ h) v e

-- Values that stand latest first are put back in front of operands, and their types, latest first, in front of the operands' types.
pub before_typed : {D : Policy} {Σ Σ' : StoreTyping} → Extends Σ Σ' → {c : Dom} {vs : List Val} {us ts : List Ty} {es : Tms} → All2 (ValTy D Σ) vs us → TmsTy D Σ' [] c es ts → TmsTy D Σ' [] c (before vs es) (reverse_aux us ts)
before_typed x all2_nil r = r
before_typed {D} x (all2_cons h hs) r = before_typed x hs (TmsTy.is_more (TmTy.is_val (grow_val D x h)) r)

-- The types of a pointcut's labels, told apart again.
pass_type : {D : Policy} {a u : Ty} {p : Dom} {us ts : List Ty} → LabelTys D a p us → LabelTys D a p (u ∷ ts) → LabelTys D a p (u ∷ us) × LabelTys D a p ts
pass_type h (LabelTys.a_type o k) = (LabelTys.a_type o h, k)

pub labels_back : {D : Policy} {a : Ty} {p : Dom} (us : List Ty) {ts : List Ty} → LabelTys D a p (reverse_aux us ts) → LabelTys D a p us × LabelTys D a p ts
labels_back [] h = (LabelTys.no_types, h)
labels_back (u ∷ us) h = let x = labels_back us h in pass_type x.0 x.1
