-- Type safety: a step of a closed typed term that is no value is not wrong, and keeps the type (document 003, theorems 2.3 and 2.4, there of the calculus of two runs). Both are one induction, since no safe answer is wrong.
use mathlib.Core.Path.{◌≡◌, refl, sym}
use mathlib.Core.List.{List, [], ◌∷◌, reverse, reverse_aux}
use mathlib.Core.Option.{none}
use Rattle.calculus.specs.Syntax.{Dom, Ty, Val, Tm, Tms, as_value, val, var, lam, op0, op1, op2, seq, ite, split, pcd, adv, lower, obj, keep, match}
use Rattle.calculus.specs.State.{State, Given}
use Rattle.calculus.specs.Answer.{Answer, reduct, wrong}
use Rattle.calculus.specs.Place.{Place, at, deeper, keeping}
use Rattle.calculus.specs.Step.{step, step_first}
use Rattle.calculus.specs.Typing.{StoreTyping, Policy, ⊢◌⦂◌ as ValTy, ◌⨾◌⊢◌⦂◌ as TmTy, ◌⨾◌⊢*◌⦂◌ as TmsTy}
use Rattle.laws.proofs.Lists.{none_some, All2, All2.all2_nil, All2.all2_cons, all2_reverse}
use Rattle.calculus.specs.Accepted.{Transitive}
use Rattle.calculus_safety.proofs.Extend.{Extends, grow_val, grow_tm, grow_tms}
use Rattle.calculus_safety.proofs.StoreFits.{StateFits, KeptFits}
use Rattle.calculus_safety.proofs.Safe.{Safe, Safe.safe_go, safe_capacity, safe_within, safe_cases}
use Rattle.calculus_safety.proofs.Reductions.{safe0, safe1, safe2, safe_seq, safe_ite, safe_split, safe_adv, safe_lower, safe_pcd, keeping_fits, safe_keep, safe_match}
use Rattle.calculus_safety.proofs.Values.{as_value_lem, before_typed, labels_back}

module _ (D : Policy) (Σ : StoreTyping) where
  pub close : {Γ : List Ty} {c : Dom} {e : Tm} {t : Ty} → Γ ≡ [] → TmTy D Σ Γ c e t → TmTy D Σ [] c e t
  close nil h = rw nil at h

  closes : {Γ ts : List Ty} {c : Dom} {es : Tms} → Γ ≡ [] → TmsTy D Σ Γ c es ts → TmsTy D Σ [] c es ts
  closes nil h = rw nil at h

  module _ (trans : Transitive D) (G : Given) where
    -- What is to be shown of a term.
    abbrev Steps : Dom → Tm → Ty → Type 0
    Steps c e t = as_value e ≡ none → (P : Place) → KeptFits D Σ P.kept → (s : State) → StateFits D Σ s → Safe D Σ c t (step e G (at c P) s)

    -- What is to be shown of operands, after values of the types us, latest first: k makes a term of type t of operands of these types, and r reduces such values safely.
    abbrev StepsFirst : Dom → Tms → List Ty → Type 0
    StepsFirst c es ts =
        (t : Ty) (P : Place) → KeptFits D Σ P.kept → (s : State) → StateFits D Σ s → (vs : List Val) (us : List Ty) → All2 (ValTy D Σ) vs us
        → (k : Tms → Tm) → ((Σ' : StoreTyping) → Extends Σ Σ' → (fs : Tms) → TmsTy D Σ' [] c fs (reverse_aux us ts) → TmTy D Σ' [] c (k fs) t)
        → (r : List Val → Answer State Tm) → ((ws : List Val) (xs : List Ty) → All2 (ValTy D Σ) ws xs → reverse_aux us ts ≡ reverse xs → Safe D Σ c t (r ws))
        → Safe D Σ c t (step_first es G (at c P) s vs k r)

    mutual
      unfolding step

      pub safe : {Γ : List Ty} {c : Dom} {e : Tm} {t : Ty} → TmTy D Σ Γ c e t → Γ ≡ [] → Steps c e t
      safe (TmTy.is_val h) nil = λ n P q s f. absurd (none_some (sym n))
      safe (TmTy.is_var e) nil = λ n P q s f. absurd (none_some (rw nil at e))
      safe (TmTy.is_lam h) nil = λ n P q s f. absurd (none_some (sym n))
      safe (TmTy.is_op0 r) nil = λ n P q s f. safe_capacity D _ _ tt (safe0 D s f G P q r)
      safe (TmTy.is_op1 r h) nil =
          λ n P q s f. safe_cases D _ _ (as_value_lem D Σ (close nil h))
          (λ v hv. safe_capacity D _ _ tt (safe1 D s f G P r hv))
          (λ e. safe_within D _ (λ Σ' x e' h'. TmTy.is_op1 r h') (safe h nil e (deeper P) q s f))
      safe (TmTy.is_op2 r h k) nil =
          λ n P q s f. safe_cases D _ _ (as_value_lem D Σ (close nil h))
          (λ v hv. safe_cases D _ _ (as_value_lem D Σ (close nil k))
          (λ w hw. safe_capacity D _ _ tt (safe2 D s f G P trans r hv hw))
          (λ e. safe_within D _ (λ Σ' x e' k'. TmTy.is_op2 r (TmTy.is_val (grow_val D x hv)) k') (safe k nil e (deeper P) q s f)))
          (λ e. safe_within D _ (λ Σ' x e' h'. TmTy.is_op2 r h' (grow_tm D x (close nil k))) (safe h nil e (deeper P) q s f))
      safe (TmTy.is_seq h k) nil =
          λ n P q s f. safe_cases D _ _ (as_value_lem D Σ (close nil h))
          (λ v hv. safe_capacity D _ _ tt (safe_seq D s f hv (close nil k)))
          (λ e. safe_within D _ (λ Σ' x e' h'. TmTy.is_seq h' (grow_tm D x (close nil k))) (safe h nil e (deeper P) q s f))
      safe (TmTy.is_ite h k l) nil =
          λ n P q s f. safe_cases D _ _ (as_value_lem D Σ (close nil h))
          (λ v hv. safe_capacity D _ _ tt (safe_ite D s f hv (close nil k) (close nil l)))
          (λ e. safe_within D _ (λ Σ' x e' h'. TmTy.is_ite h' (grow_tm D x (close nil k)) (grow_tm D x (close nil l))) (safe h nil e (deeper P) q s f))
      safe (TmTy.is_split {c} h k) nil =
          λ n P q s f. safe_cases D _ _ (as_value_lem D Σ (close nil h))
          (λ v hv. safe_capacity D _ _ tt (safe_split D s f (at c P) hv (rw nil at k)))
          (λ e. safe_within D _ (λ Σ' x e' h'. TmTy.is_split h' (grow_tm D x (rw nil at k))) (safe h nil e (deeper P) q s f))
      safe (TmTy.is_pcd {c} h o) nil =
          λ n P q s f. safes h nil _ P q s f [] [] all2_nil pcd
          (λ Σ' x fs hs. TmTy.is_pcd hs o)
          _
          (λ ws xs hs e. safe_pcd D s f (at c P) hs (labels_back xs (rw e at o)).0)
      safe (TmTy.is_adv {c} h o b) nil =
          λ n P q s f. safe_cases D _ _ (as_value_lem D Σ (close nil h))
          (λ v hv. safe_capacity D _ _ tt (safe_adv D s f (at c P) hv o (rw nil at b)))
          (λ e. safe_within D _ (λ Σ' x e' h'. TmTy.is_adv h' o (grow_tm D x (rw nil at b))) (safe h nil e (deeper P) q s f))
      safe (TmTy.is_lower o h) nil =
          λ n P q s f. safe_cases D _ _ (as_value_lem D Σ (close nil h))
          (λ v hv. safe_capacity D _ _ tt (safe_lower D s f hv))
          (λ e. safe_within D _ (λ Σ' x e' h'. TmTy.is_lower o h') (safe h nil e (deeper P) q s f))
      safe (TmTy.is_obj h) nil = λ n P q s f. absurd (none_some (sym n))
      safe (TmTy.is_keep h k l) nil =
          λ n P q s f. safe_cases D _ _ (as_value_lem D Σ (close nil h))
          (λ v hv. safe_cases D _ _ (as_value_lem D Σ (close nil k))
          (λ w hw. safe_cases D _ _ (as_value_lem D Σ (close nil l))
          (λ u hu. safe_capacity D _ _ tt (safe_keep D s f hu))
          (λ e. safe_within D _ (λ Σ' x e' l'. TmTy.is_keep (TmTy.is_val (grow_val D x hv)) (TmTy.is_val (grow_val D x hw)) l') (safe l nil e (keeping v w (deeper P)) (keeping_fits D (deeper P) hv hw q) s f)))
          (λ e. safe_within D _ (λ Σ' x e' k'. TmTy.is_keep (TmTy.is_val (grow_val D x hv)) k' (grow_tm D x (close nil l))) (safe k nil e (deeper P) q s f)))
          (λ e. safe_within D _ (λ Σ' x e' h'. TmTy.is_keep h' (grow_tm D x (close nil k)) (grow_tm D x (close nil l))) (safe h nil e (deeper P) q s f))
      safe (TmTy.is_matching {c} h p k l) nil =
          λ n P q s f. safes h nil _ P q s f [] [] all2_nil _
          (λ Σ' x fs hs. TmTy.is_matching hs p (grow_tm D x (rw nil at k)) (grow_tm D x (close nil l)))
          _
          (λ ws xs hs e. safe_match D s f (at c P) ws (rw (← e) at (all2_reverse hs)) p (rw nil at k) (close nil l))

      pub safes : {Γ ts : List Ty} {c : Dom} {es : Tms} → TmsTy D Σ Γ c es ts → Γ ≡ [] → StepsFirst c es ts
      safes TmsTy.is_end nil = λ t P q s f vs us hs k hk r hr. safe_capacity D _ _ tt (hr vs us hs refl)
      safes (TmsTy.is_more {a} h l) nil =
          λ t P q s f vs us hs k hk r hr. safe_cases D _ _ (as_value_lem D Σ (close nil h))
          (λ v hv. safes l nil t P q s f (v ∷ vs) (a ∷ us) (all2_cons hv hs) k hk r hr)
          (λ e. safe_within D _ (λ Σ' x e' h'. hk Σ' x _ (before_typed x hs (TmsTy.is_more h' (grow_tms D x (closes nil l))))) (safe h nil e (deeper P) q s f))

  -- A value makes no step.
  step_none : (e : Tm) (G : Given) (P : Place) (s : State) {s' : State} {e' : Tm} → step e G P s ≡ reduct s' e' → as_value e ≡ none
  unfolding step
  step_none (val v) G P s m = cc
  step_none (var k) G P s m = refl
  step_none (lam t b) G P s m = cc
  step_none (op0 o t) G P s m = refl
  step_none (op1 o t e) G P s m = refl
  step_none (op2 o t e f) G P s m = refl
  step_none (seq e f) G P s m = refl
  step_none (ite e f g) G P s m = refl
  step_none (split e f) G P s m = refl
  step_none (pcd es) G P s m = refl
  step_none (adv p e b) G P s m = refl
  step_none (lower p e) G P s m = refl
  step_none (obj t bs) G P s m = cc
  step_none (keep e f g) G P s m = refl
  step_none (match p es f g) G P s m = refl

  made : {c : Dom} {t : Ty} {s' : State} {e' : Tm} → Safe D Σ c t (reduct s' e') → (Σ' : StoreTyping) × Extends Σ Σ' × StateFits D Σ' s' × TmTy D Σ' [] c e' t
  made (safe_go {Σ'} x f h) = (Σ', x, f, h)

  not_wrong : {c : Dom} {t : Ty} → Safe D Σ c t wrong → ⊥
  not_wrong = elim [ ]

  module _ (trans : Transitive D) (G : Given) where
    -- Preservation.
    pub preservation : {c : Dom} {e : Tm} {t : Ty} → TmTy D Σ [] c e t → (P : Place) → KeptFits D Σ P.kept → (s : State) → StateFits D Σ s
        → (s' : State) (e' : Tm) → step e G (at c P) s ≡ reduct s' e'
        → (Σ' : StoreTyping) × Extends Σ Σ' × StateFits D Σ' s' × TmTy D Σ' [] c e' t
    preservation {c} {e} h P q s f s' e' m = made (rw m at (safe trans G h refl (step_none e G (at c P) s m) P q s f))

    -- Progress: no rule is missing, so what a typed term reads, stores to or marks is in the store.
    pub progress : {c : Dom} {e : Tm} {t : Ty} → TmTy D Σ [] c e t → as_value e ≡ none → (P : Place) → KeptFits D Σ P.kept → (s : State) → StateFits D Σ s
        → ¬ (step e G (at c P) s ≡ wrong)
    progress h n P q s f w = not_wrong (rw w at (safe trans G h refl n P q s f))
