-- Substitution leaves a term without free variables alone.
use Prim.Native.Nat.{ℕ, suc, ◌-◌, ◌≤◌, ◌<◌}
use native.Mathlib.Omega.{arith}
use mathlib.Core.Path.{◌≡◌, refl, ap, ap₂}
use mathlib.Core.Bool.{Bool, true, false}
use mathlib.Core.List.{List, [], ◌∷◌, reverse_aux}
use lib.ListN.{length}
use lib.Dec.{eqb, ltb, eqb→eq, ltb→lt}
use Rattle.calculus.specs.Combinators.{choose}
use Rattle.calculus.specs.Syntax.{Dom, Ty, Sigs, Val, Tm, Tms, val, var, lam, op1, op2, seq, split, pcd, adv, lower, obj, more, Pattern}
use Rattle.calculus.specs.Subst.{subst, substs, subst_var, under}
use Rattle.calculus.specs.Typing.{Policy, StoreTyping, ◌⨾◌⊢◌⦂◌ as TmTy, ◌⨾◌⊢*◌⦂◌ as TmsTy, ◌⊢ᵐ◌⦂◌ as BodiesTy, is_val, is_var, is_lam, is_op0, is_op1, is_op2, is_seq, is_ite, is_split, is_pcd, is_adv, is_lower, is_obj, is_end, is_more, no_body, a_body, PatternTy, p_end, p_rest, p_any, p_cut, is_keep, is_matching}
use Rattle.laws.proofs.Lookup.{place_below}
use Rattle.calculus_noninterference.proofs.Related.{ClosedBody, ClosedBodies}

nearer_var : (k i : ℕ) (v : Val) → i < k → subst_var k v i ≡ var i
nearer_var k i v h = pick (eqb i k) refl (ltb k i) refl
  where
    pick : (b : Bool) → eqb i k ≡ b → (d : Bool) → ltb k i ≡ d → choose b (val v) (choose d (var (i - 1)) (var i)) ≡ var i
    pick true e d f = let z : i ≡ k = eqb→eq i k (rw e tt) in absurd (omega arith)
    pick false e true f = let z : k < i = ltb→lt k i (rw f tt) in absurd (omega arith)
    pick false e false f = refl

length_under : {p : Pattern} {ts us : List Ty} → PatternTy p ts us → (Γ : List Ty) (k : ℕ) → length Γ ≤ k → length (reverse_aux us Γ) ≤ under p k
length_under p_end Γ k l = l
length_under p_rest Γ k l = omega arith
length_under (p_any h) Γ k l = length_under h Γ k l
length_under (p_cut {a} h) Γ k l = length_under h (a ∷ Γ) (suc k) (omega arith)

module _ {D : Policy} {Σ : StoreTyping} (v : Val) where
  mutual
    unfolding subst substs

    closed_tm : {Γ : List Ty} {c : Dom} {e : Tm} {t : Ty} → TmTy D Σ Γ c e t → (k : ℕ) → length Γ ≤ k → subst k v e ≡ e
    closed_tm (is_val h) k l = refl
    closed_tm (is_var {Γ} {k = i} h) k l = let z = place_below Γ i h in nearer_var k i v (omega arith)
    closed_tm (is_lam {p} {a} {b} h) k l = ap (lam (Ty.fun a p b)) (closed_tm h (suc k) (omega arith))
    closed_tm (is_op0 r) k l = refl
    closed_tm (is_op1 {o} {t} r h) k l = ap (op1 o t) (closed_tm h k l)
    closed_tm (is_op2 {o} {t} r h g) k l = ap₂ (op2 o t) (closed_tm h k l) (closed_tm g k l)
    closed_tm (is_seq h g) k l = ap₂ seq (closed_tm h k l) (closed_tm g k l)
    closed_tm (is_ite h g f) k l = let x = closed_tm h k l in let y = closed_tm g k l in let z = closed_tm f k l in cc
    closed_tm (is_split h g) k l = ap₂ split (closed_tm h k l) (closed_tm g (suc (suc k)) (omega arith))
    closed_tm (is_pcd h o) k l = ap pcd (closed_tms h k l)
    closed_tm (is_adv {p} h o g) k l = ap₂ (adv p) (closed_tm h k l) (closed_tm g (suc k) (omega arith))
    closed_tm (is_lower {p} o h) k l = ap (lower p) (closed_tm h k l)
    closed_tm (is_obj {ms} h) k l = ap (obj (Ty.object ms)) (closed_bs h (suc k) (omega arith))
    closed_tm (is_keep h g f) k l = let x = closed_tm h k l in let y = closed_tm g k l in let z = closed_tm f k l in cc
    closed_tm (is_matching {Γ} {p} h o g f) k l = let x = closed_tms h k l in let y = closed_tm g (under p k) (length_under o Γ k l) in let z = closed_tm f k l in cc

    closed_tms : {Γ ts : List Ty} {c : Dom} {es : Tms} → TmsTy D Σ Γ c es ts → (k : ℕ) → length Γ ≤ k → substs k v es ≡ es
    closed_tms is_end k l = refl
    closed_tms (is_more h g) k l = ap₂ more (closed_tm h k l) (closed_tms g k l)

    closed_bs : {Γ : List Ty} {bs : Tms} {ms : Sigs} → BodiesTy D Σ Γ bs ms → (k : ℕ) → length Γ ≤ k → substs k v bs ≡ bs
    closed_bs no_body k l = refl
    closed_bs (a_body h g) k l = ap₂ more (closed_tm h k l) (closed_bs g k l)

pub closed_body : {D : Policy} {Σ : StoreTyping} {a t : Ty} {p : Dom} {e : Tm} → TmTy D Σ (a ∷ []) p e t → ClosedBody e
closed_body h k w = closed_tm w h (suc k) (omega arith)

pub closed_bodies : {D : Policy} {Σ : StoreTyping} {a : Ty} {bs : Tms} {ms : Sigs} → BodiesTy D Σ (a ∷ []) bs ms → ClosedBodies bs
closed_bodies h k w = closed_bs w h (suc k) (omega arith)
