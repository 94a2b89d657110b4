-- The depths that the pass finds are the terms' depths.
use Prim.Native.Nat.{ℕ, zero, suc, ◌+◌, ◌≤◌, ◌<◌}
use native.Mathlib.Omega.{arith}
use mathlib.Core.Path.{◌≡◌, refl, sym, ap, subst, ◌∙◌}
use mathlib.Core.Logic.{◌↔◌}
use mathlib.Core.Bool.{Bool, true, false}
use lib.ListN.{length, get_or}
use lib.Dec.{ltb}
use Rattle.image.specs.Limits.{depth_limit}
use Rattle.image.specs.Records.{Layout}
use Rattle.image.specs.Types.{children, root_of}
use Rattle.laws.proofs.Booleans.{lt_of, ge_of}
use Rattle.image.proofs.Laid.{LayoutOk, below_at}
use Rattle.verdict.specs.Shape.{used_once, depths}
use Rattle.verdict.specs.Acceptable.{IsChild, Depth, at_root, at_child}
use Rattle.verdict.proofs.Depth.{depth_root, depth_child}
use Rattle.verdict.proofs.Uses.{child_counts, once_iff}

module _ (L : Layout) (good : LayoutOk L) (some : 0 < length L.terms) (once : (n : ℕ) → n < root_of L → used_once L n ≡ true) where
  child_depth : {n i e : ℕ} → IsChild L n i e → get_or (depths L) e 0 ≡ suc (get_or (depths L) n 0)
  child_depth {n} {i} {e} c = depth_child L good once n e c.there (child_counts L c)

  pub depth_is : {n d : ℕ} → Depth L n d → get_or (depths L) n 0 ≡ d
  depth_is at_root = depth_root L good once (omega arith)
  depth_is (at_child h c) = child_depth c ∙ ap suc (depth_is h)

  -- A child is below the term whose child it is.
  child_below : {n i e : ℕ} → IsChild L n i e → e < n
  child_below {n} {i} {e} c = subst (λ x. x < n) c.is (below_at n (children L n) i (good.terms n c.there).below c.place)

  -- From the root down, every term has a depth.
  depth_from : (f n : ℕ) → n < length L.terms → length L.terms ≤ n + f → Depth L n (get_or (depths L) n 0)
  depth_from zero n l m = absurd (omega arith)
  depth_from (suc f) n l m = go (ltb n (root_of L)) refl (λ u k h. depth_from f u h (omega arith))
    where
      go : (t : Bool) → ltb n (root_of L) ≡ t → ((u : ℕ) → n < u → u < length L.terms → Depth L u (get_or (depths L) u 0)) → Depth L n (get_or (depths L) n 0)
      go true q up =
          let u = (once_iff L n).0 (once n (lt_of q)) in
          subst (λ d. Depth L n d) (sym (child_depth u.uses)) (at_child (up u.user (child_below u.uses) u.uses.there) u.uses)
      go false q up =
          let z : root_of L ≤ n = ge_of q in
          let r : root_of L ≡ n = omega arith in
          subst (λ k. Depth L k (get_or (depths L) k 0)) r (subst (λ d. Depth L (root_of L) d) (sym (depth_root L good once (omega arith))) at_root)

  pub depth_of_lem : (n : ℕ) → n < length L.terms → Depth L n (get_or (depths L) n 0)
  depth_of_lem n l = depth_from (length L.terms) n l (omega arith)

  depth_there : {n d : ℕ} → Depth L n d → n < length L.terms
  depth_there at_root = omega arith
  depth_there (at_child h c) = let l = child_below c in let t = c.there in omega arith

  pub shallow_iff : ((n : ℕ) → n < length L.terms → get_or (depths L) n 0 ≤ depth_limit) ↔ ((n d : ℕ) → Depth L n d → d ≤ depth_limit)
  shallow_iff = (λ h n d p. subst (λ x. x ≤ depth_limit) (depth_is p) (h n (depth_there p)), λ h n l. h n (get_or (depths L) n 0) (depth_of_lem n l))
