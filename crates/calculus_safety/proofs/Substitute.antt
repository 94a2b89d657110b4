-- Substitution: a closed value in the place of a variable of its type keeps the type.
use Prim.Native.Nat.{ℕ, zero, suc, ◌-◌, ◌<◌, ◌≤◌}
use native.Mathlib.Omega.{arith}
use mathlib.Core.Path.{◌≡◌, refl, ◌∙◌}
use mathlib.Core.Bool.{Bool, true, false}
use mathlib.Core.List.{List, ◌∷◌, reverse_aux}
use mathlib.Core.Option.{some}
use lib.ListN.{get_elem?}
use lib.Dec.{T, eqb, ltb, eqb→eq, eqb_refl, ltb→lt, nltb→le}
use Rattle.calculus.specs.Syntax.{Dom, Ty, Sigs, Val, Tm, Tms, Pattern, val, var}
use Rattle.calculus.specs.Combinators.{choose}
use Rattle.calculus.specs.Subst.{subst_var, under, subst, substs}
use Rattle.calculus.specs.Typing.{StoreTyping, Policy, PatternTy, ⊢◌⦂◌ as ValTy, ◌⨾◌⊢◌⦂◌ as TmTy, ◌⨾◌⊢*◌⦂◌ as TmsTy, ◌⊢ᵐ◌⦂◌ as BodiesTy}

-- Δ is Γ without its place k, where a stands.
pub data Without (a : Ty) : ℕ → List Ty → List Ty → Type 0 where
  here : {Γ : List Ty} → Without a zero (a ∷ Γ) Γ
  there : {k : ℕ} {b : Ty} {Γ Δ : List Ty} → Without a k Γ Δ → Without a (suc k) (b ∷ Γ) (b ∷ Δ)

at_place : {a : Ty} {k : ℕ} {Γ Δ : List Ty} → Without a k Γ Δ → get_elem? Γ k ≡ some a
at_place here = refl
at_place (there w) = at_place w

before_place : {a : Ty} {k : ℕ} {Γ Δ : List Ty} → Without a k Γ Δ → (i : ℕ) → i < k → get_elem? Δ i ≡ get_elem? Γ i
before_place here i h = absurd (omega arith)
before_place (there w) zero h = refl
before_place (there w) (suc i) h = before_place w i (omega arith)

after_place : {a : Ty} {k : ℕ} {Γ Δ : List Ty} → Without a k Γ Δ → (i : ℕ) → k ≤ i → get_elem? Δ i ≡ get_elem? Γ (suc i)
after_place here i h = refl
after_place (there w) zero h = absurd (omega arith)
after_place (there w) (suc i) h = after_place w i (omega arith)

-- Under the variables that a pattern binds (card 6).
pub without_under : {a : Ty} {k : ℕ} {Γ Δ ts us : List Ty} {p : Pattern} → PatternTy p ts us → Without a k Γ Δ → Without a (under p k) (reverse_aux us Γ) (reverse_aux us Δ)
without_under PatternTy.p_end w = w
without_under PatternTy.p_rest w = there w
without_under (PatternTy.p_any h) w = without_under h w
without_under (PatternTy.p_cut h) w = without_under h (there w)

module _ (D : Policy) {Σ : StoreTyping} where
  subst_var_lem : {a t : Ty} {k : ℕ} {Γ Δ : List Ty} {c : Dom} {v : Val} → ValTy D Σ v a → Without a k Γ Δ → (i : ℕ) → get_elem? Γ i ≡ some t → TmTy D Σ Δ c (subst_var k v i) t
  subst_var_lem {a} {t} {k} {Γ} {Δ} {c} {v} hv w i g = go (eqb i k) refl (ltb k i) refl
    where
      go : (b : Bool) → eqb i k ≡ b → (b' : Bool) → ltb k i ≡ b' → TmTy D Σ Δ c (choose b (val v) (choose b' (var (i - 1)) (var i))) t
      go true e b' e' =
          let same : i ≡ k = eqb→eq i k (rw e tt) in
          let same_type_lem : a ≡ t = cc (at_place w) in
          TmTy.is_val (rw same_type_lem at hv)
      go false e true e' =
          let more : k < i = ltb→lt k i (rw e' tt) in
          let back : suc (i - 1) ≡ i = omega arith in
          let place : get_elem? Δ (i - 1) ≡ some t = cc (after_place w (i - 1) (omega arith)) in
          TmTy.is_var place
      go false e false e' =
          let most : i ≤ k = nltb→le k i (rw e' tt) in
          let other : ¬ (i ≡ k) = λ same. let t : T (eqb i k) = rw same (eqb_refl k) in rw e at t in
          TmTy.is_var (before_place w i (omega arith) ∙ g)

  mutual
    unfolding subst

    pub subst_tm : {a t : Ty} {k : ℕ} {Γ Δ : List Ty} {c : Dom} {v : Val} {e : Tm} → ValTy D Σ v a → TmTy D Σ Γ c e t → Without a k Γ Δ → TmTy D Σ Δ c (subst k v e) t
    subst_tm hv (TmTy.is_val h) w = TmTy.is_val h
    subst_tm hv (TmTy.is_var {k = i} g) w = subst_var_lem hv w i g
    subst_tm hv (TmTy.is_lam h) w = TmTy.is_lam (subst_tm hv h (there w))
    subst_tm hv (TmTy.is_op0 r) w = TmTy.is_op0 r
    subst_tm hv (TmTy.is_op1 r h) w = TmTy.is_op1 r (subst_tm hv h w)
    subst_tm hv (TmTy.is_op2 r h k) w = TmTy.is_op2 r (subst_tm hv h w) (subst_tm hv k w)
    subst_tm hv (TmTy.is_seq h k) w = TmTy.is_seq (subst_tm hv h w) (subst_tm hv k w)
    subst_tm hv (TmTy.is_ite h k l) w = TmTy.is_ite (subst_tm hv h w) (subst_tm hv k w) (subst_tm hv l w)
    subst_tm hv (TmTy.is_split h k) w = TmTy.is_split (subst_tm hv h w) (subst_tm hv k (there (there w)))
    subst_tm hv (TmTy.is_pcd h o) w = TmTy.is_pcd (subst_tms hv h w) o
    subst_tm hv (TmTy.is_adv h o b) w = TmTy.is_adv (subst_tm hv h w) o (subst_tm hv b (there w))
    subst_tm hv (TmTy.is_lower o h) w = TmTy.is_lower o (subst_tm hv h w)
    subst_tm hv (TmTy.is_obj h) w = TmTy.is_obj (subst_bodies hv h (there w))
    subst_tm hv (TmTy.is_keep h k l) w = TmTy.is_keep (subst_tm hv h w) (subst_tm hv k w) (subst_tm hv l w)
    subst_tm hv (TmTy.is_matching h p k l) w = TmTy.is_matching (subst_tms hv h w) p (subst_tm hv k (without_under p w)) (subst_tm hv l w)

    pub subst_tms : {a : Ty} {k : ℕ} {Γ Δ ts : List Ty} {c : Dom} {v : Val} {es : Tms} → ValTy D Σ v a → TmsTy D Σ Γ c es ts → Without a k Γ Δ → TmsTy D Σ Δ c (substs k v es) ts
    subst_tms hv TmsTy.is_end w = TmsTy.is_end
    subst_tms hv (TmsTy.is_more h r) w = TmsTy.is_more (subst_tm hv h w) (subst_tms hv r w)

    subst_bodies : {a : Ty} {k : ℕ} {Γ Δ : List Ty} {v : Val} {bs : Tms} {ms : Sigs} → ValTy D Σ v a → BodiesTy D Σ Γ bs ms → Without a k Γ Δ → BodiesTy D Σ Δ (substs k v bs) ms
    subst_bodies hv BodiesTy.no_body w = BodiesTy.no_body
    subst_bodies hv (BodiesTy.a_body h r) w = BodiesTy.a_body (subst_tm hv h w) (subst_bodies hv r w)
