-- Weakening: a store typing that grows keeps every type.
use Prim.Native.Nat.{ℕ}
use mathlib.Core.List.{List, [], ◌∷◌, ◌++◌}
use Rattle.calculus.specs.Syntax.{Dom, Ty, Sigs, Val, Tm, Tms}
use Rattle.calculus.specs.Typing.{StoreTyping, Policy, LabelsOf, ⊢◌⦂◌ as ValTy, ◌⨾◌⊢◌⦂◌ as TmTy, ◌⨾◌⊢*◌⦂◌ as TmsTy, ◌⊢ᵐ◌⦂◌ as BodiesTy, LabelsOf.no_labels, LabelsOf.one_label}
use Rattle.laws.proofs.Lists.{Prefix, prefix_refl, prefix_append, prefix_get, prefix_trans}

pub record Extends (Σ Σ' : StoreTyping) : Type 0 where
  pub cells : Prefix Σ.cells Σ'.cells
  pub labels : Prefix Σ.labels Σ'.labels

abbrev pub extends_refl : (Σ : StoreTyping) → Extends Σ Σ
extends_refl Σ = record { cells = prefix_refl Σ.cells; labels = prefix_refl Σ.labels }

pub extends_trans : {Σ Σ' Σ'' : StoreTyping} → Extends Σ Σ' → Extends Σ' Σ'' → Extends Σ Σ''
extends_trans x y = record { cells = prefix_trans x.cells y.cells; labels = prefix_trans x.labels y.labels }

abbrev pub plus_cell : StoreTyping → Ty → StoreTyping
plus_cell Σ t = record { cells = Σ.cells ++ (t ∷ []); labels = Σ.labels }

abbrev pub plus_label : StoreTyping → Ty → StoreTyping
plus_label Σ t = record { cells = Σ.cells; labels = Σ.labels ++ (t ∷ []) }

pub extends_cell : (Σ : StoreTyping) (t : Ty) → Extends Σ (plus_cell Σ t)
extends_cell Σ t = record { cells = prefix_append Σ.cells (t ∷ []); labels = prefix_refl Σ.labels }

pub extends_label : (Σ : StoreTyping) (t : Ty) → Extends Σ (plus_label Σ t)
extends_label Σ t = record { cells = prefix_refl Σ.cells; labels = prefix_append Σ.labels (t ∷ []) }

module _ (D : Policy) {Σ Σ' : StoreTyping} (x : Extends Σ Σ') where
  pub grow_labels : {a : Ty} {p : Dom} {ls : List ℕ} → LabelsOf D Σ a p ls → LabelsOf D Σ' a p ls
  grow_labels no_labels = no_labels
  grow_labels (one_label {l} g h r) = one_label (prefix_get x.labels l g) h (grow_labels r)

  mutual
    pub grow_val : {v : Val} {t : Ty} → ValTy D Σ v t → ValTy D Σ' v t
    grow_val ValTy.v_unit = ValTy.v_unit
    grow_val ValTy.v_truth = ValTy.v_truth
    grow_val ValTy.v_number = ValTy.v_number
    grow_val (ValTy.v_pair h k) = ValTy.v_pair (grow_val h) (grow_val k)
    grow_val (ValTy.v_fun h) = ValTy.v_fun (grow_tm h)
    grow_val (ValTy.v_label {l} g) = ValTy.v_label (prefix_get x.labels l g)
    grow_val (ValTy.v_cell {r} g) = ValTy.v_cell (prefix_get x.cells r g)
    grow_val (ValTy.v_pointcut h) = ValTy.v_pointcut (grow_labels h)
    grow_val (ValTy.v_advice h o b) = ValTy.v_advice (grow_labels h) o (grow_tm b)
    grow_val (ValTy.v_object h) = ValTy.v_object (grow_bodies h)
    grow_val ValTy.v_bottom = ValTy.v_bottom
    grow_val (ValTy.v_kept {l} g h k) = ValTy.v_kept (prefix_get x.labels l g) (grow_val h) (grow_val k)

    pub grow_tm : {Γ : List Ty} {c : Dom} {e : Tm} {t : Ty} → TmTy D Σ Γ c e t → TmTy D Σ' Γ c e t
    grow_tm (TmTy.is_val h) = TmTy.is_val (grow_val h)
    grow_tm (TmTy.is_var g) = TmTy.is_var g
    grow_tm (TmTy.is_lam h) = TmTy.is_lam (grow_tm h)
    grow_tm (TmTy.is_op0 r) = TmTy.is_op0 r
    grow_tm (TmTy.is_op1 r h) = TmTy.is_op1 r (grow_tm h)
    grow_tm (TmTy.is_op2 r h k) = TmTy.is_op2 r (grow_tm h) (grow_tm k)
    grow_tm (TmTy.is_seq h k) = TmTy.is_seq (grow_tm h) (grow_tm k)
    grow_tm (TmTy.is_ite h k l) = TmTy.is_ite (grow_tm h) (grow_tm k) (grow_tm l)
    grow_tm (TmTy.is_split h k) = TmTy.is_split (grow_tm h) (grow_tm k)
    grow_tm (TmTy.is_pcd h k) = TmTy.is_pcd (grow_tms h) k
    grow_tm (TmTy.is_adv h o b) = TmTy.is_adv (grow_tm h) o (grow_tm b)
    grow_tm (TmTy.is_lower o h) = TmTy.is_lower o (grow_tm h)
    grow_tm (TmTy.is_obj h) = TmTy.is_obj (grow_bodies h)
    grow_tm (TmTy.is_keep h k l) = TmTy.is_keep (grow_tm h) (grow_tm k) (grow_tm l)
    grow_tm (TmTy.is_matching h p k l) = TmTy.is_matching (grow_tms h) p (grow_tm k) (grow_tm l)

    pub grow_tms : {Γ ts : List Ty} {c : Dom} {es : Tms} → TmsTy D Σ Γ c es ts → TmsTy D Σ' Γ c es ts
    grow_tms TmsTy.is_end = TmsTy.is_end
    grow_tms (TmsTy.is_more h k) = TmsTy.is_more (grow_tm h) (grow_tms k)

    grow_bodies : {Γ : List Ty} {bs : Tms} {ms : Sigs} → BodiesTy D Σ Γ bs ms → BodiesTy D Σ' Γ bs ms
    grow_bodies BodiesTy.no_body = BodiesTy.no_body
    grow_bodies (BodiesTy.a_body h k) = BodiesTy.a_body (grow_tm h) (grow_bodies k)
