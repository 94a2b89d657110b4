-- There is room for variables at the root, and at a child where there is at the term whose child it is.
use Prim.Native.Nat.{ℕ, zero, suc, ◌+◌, ◌-◌, ◌≤◌, ◌<◌}
use native.Mathlib.Omega.{arith}
use mathlib.Core.Path.{◌≡◌, refl, sym, ap, subst, ◌∙◌}
use mathlib.Core.List.{List, [], ◌∷◌}
use lib.ListN.{length, get_or}
use Rattle.image.specs.Records.{Layout}
use Rattle.image.specs.Layout.{records_of}
use Rattle.image.specs.Types.{children}
use Rattle.laws.proofs.Booleans.{of_eq}
use Rattle.verdict.specs.Shape.{count, depths, Shaped}
use Rattle.verdict.proofs.Depth.{depth_root, depth_child}
use Rattle.read_terms.specs.Lent.{Terms, IsTerm}
use Rattle.read_terms.proofs.Located.{good_of}
use Rattle.check_rules.specs.Scopes.{bind_limit, scope_length}
use Rattle.check_typing.specs.Turns.{Capacity}

-- What stands in a list stands there once at least.
stands_in : (es : List ℕ) (i : ℕ) → i < length es → 0 < count (get_or es i 0) es
unfolding count
stands_in [] i h = absurd (omega arith)
stands_in (e ∷ es) zero h = rw (of_eq {m = e} {n = e} refl) (omega arith)
stands_in (e ∷ es) (suc i) h = let z = stands_in es i (omega arith) in omega arith

-- There are so many places more.
pub more_capacity : {b scope : List ℕ} {len n : ℕ} → Capacity b scope len n → IsTerm b n → len + bind_limit ≤ scope_length
more_capacity {b} {scope} {len} {n} R t = let d = R.shaped.shallow n t in let u = R.few in omega arith

module _ {b table : List ℕ} (T : Terms b table) where
  pub root_capacity : (scope : List ℕ) (terms : ℕ) → Shaped (records_of b) → terms ≡ length (records_of b).terms → length scope ≡ scope_length → Capacity b scope 0 (terms - 1)
  root_capacity scope terms S e p =
      let some = S.has_terms in
      let d : get_or (depths (records_of b)) (terms - 1) 0 ≡ 1 = ap (λ n. get_or (depths (records_of b)) (n - 1) 0) e ∙ depth_root (records_of b) (good_of b T.laid_out) S.used (omega arith) in
      record { places = p; shaped = S; few = omega arith }

  -- Child i is one deeper, and stands under so many variables more at most.
  pub child_capacity : {scope : List ℕ} {len n : ℕ} → Capacity b scope len n → IsTerm b n → (after : List ℕ) (i m e : ℕ) → i < length (children (records_of b) n) → e ≡ get_or (children (records_of b) n) i 0 → m ≤ len + bind_limit → length after ≡ length scope
      → Capacity b after m e
  child_capacity {scope} {len} {n} R t after i m e h q little same =
      let L : Layout = records_of b in
      let d : get_or (depths L) e 0 ≡ suc (get_or (depths L) n 0) = depth_child L (good_of b T.laid_out) R.shaped.used n e t (subst (λ k. 0 < count k (children L n)) (sym q) (stands_in (children L n) i h)) in
      let u = R.few in
      record { places = same ∙ R.places; shaped = R.shaped; few = omega arith }
