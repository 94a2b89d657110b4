-- The advice that a label triggers, composed (document 003, section 2.3, figure 5), is a unit term at the label's domain.
use Prim.Native.Nat.{ℕ}
use mathlib.Core.Path.{◌≡◌, refl}
use mathlib.Core.Bool.{Bool, true, false, ◌||◌}
use mathlib.Core.List.{List, [], ◌∷◌}
use mathlib.Core.Option.{some}
use lib.ListN.{get_elem?}
use lib.Dec.{T, eqb, eqb→eq}
use Rattle.calculus.specs.Syntax.{Dom, Ty, Val, Tm}
use Rattle.calculus.specs.State.{Advice}
use Rattle.calculus.specs.Combinators.{choose}
use Rattle.calculus.specs.Compose.{member, matching, composed}
use Rattle.calculus.specs.Typing.{StoreTyping, Policy, LabelsOf, ⊢◌⦂◌ as ValTy, ◌⨾◌⊢◌⦂◌ as TmTy}
use Rattle.laws.proofs.Lists.{All, All.all_nil, All.all_cons}
use Rattle.calculus.specs.Accepted.{Transitive}
use Rattle.calculus_safety.proofs.Substitute.{Without.here, subst_tm}
use Rattle.calculus_safety.proofs.StoreFits.{AdviceFits, AdviceFits.advice_fits}

module _ (D : Policy) {Σ : StoreTyping} where
  -- A label among a pointcut's labels.
  pub member_label : {a : Ty} {q : Dom} {ls : List ℕ} → LabelsOf D Σ a q ls → (l : ℕ) → T (member l ls)
      → (r : Dom) × (get_elem? Σ.labels l ≡ some (Ty.label a r)) × (D.leq q r ≡ true)
  member_label LabelsOf.no_labels l m = absurd m
  member_label {a} {q} (LabelsOf.one_label {l = k} {q = r} {ls} g o rest) l m = look (eqb l k) refl m (member_label rest l)
    where
      Found : Type 0
      Found = (r : Dom) × (get_elem? Σ.labels l ≡ some (Ty.label a r)) × (D.leq q r ≡ true)

      look : (b : Bool) → eqb l k ≡ b → T (b || member l ls) → (T (member l ls) → Found) → Found
      look true e m' next = let same : l ≡ k = eqb→eq l k (rw e tt) in (r, rw same g, o)
      look false e m' next = next m'

  pub composed_typed : Transitive D → {a : Ty} {c : Dom} {v : Val} {as' : List (Advice Tm)} → ValTy D Σ v a → (l : ℕ) → get_elem? Σ.labels l ≡ some (Ty.label a c)
      → All (AdviceFits D Σ) as' → TmTy D Σ [] c (composed v (matching l as')) Ty.unit
  composed_typed trans hv l g all_nil = TmTy.is_val ValTy.v_unit
  composed_typed trans {a} {c} {v} hv l g (all_cons {xs} (advice_fits {p} {q} {a = b} {ls} {e} labels o body) rest) =
      look (member l ls) refl (composed_typed trans hv l g rest)
    where
      this : Advice Tm
      this = record { dom = p; labels = ls; body = e }

      look : (m : Bool) → member l ls ≡ m → TmTy D Σ [] c (composed v (matching l xs)) Ty.unit
          → TmTy D Σ [] c (composed v (choose m (this ∷ matching l xs) (matching l xs))) Ty.unit
      look true e next =
          let found = member_label labels l (rw e tt) in
          let same_type_lem : a ≡ b = cc in
          let same_dom : found.0 ≡ c = cc in
          TmTy.is_seq (TmTy.is_lower (trans p q c o (rw same_dom at found.2)) (subst_tm D (rw same_type_lem at hv) body here)) next
      look false e next = next
