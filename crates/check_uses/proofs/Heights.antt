-- Where each term but the root is used once, no term is deeper than the root is high: refusal 12.
use Prim.Native.Nat.{ℕ, zero, suc, ◌+◌, ◌≤◌, ◌<◌, max}
use native.Mathlib.Omega.{arith}
use mathlib.Core.Path.{◌≡◌, refl, subst}
use mathlib.Core.Bool.{Bool, true, false}
use mathlib.Core.List.{List, [], ◌∷◌}
use lib.ListN.{length, get_or, length-set}
use lib.Dec.{eqb, ltb}
use Rattle.image.specs.Limits.{depth_limit}
use Rattle.image.specs.Records.{Layout}
use Rattle.image.specs.Types.{children, root_of}
use Rattle.image.proofs.Laid.{LayoutOk, below_at}
use Rattle.laws.proofs.Booleans.{eq_of, lt_of, by_test}
use Rattle.verdict.specs.Shape.{count, uses, used_once, depths}
use Rattle.verdict.specs.Acceptable.{IsChild, Depth, at_root, at_child}
use Rattle.verdict.proofs.Changes.{change_at}
use Rattle.verdict.proofs.Uses.{child_counts}
use Rattle.verdict.proofs.Depths.{depth_of_lem}
use Rattle.check_uses.specs.Marks.{height_in, used_mark, used, highest, marks_of, first_use}
use Rattle.check_uses.proofs.UseCounts.{mark_of, height, marks_length, mark_is}

-- A use does not lower the height in a mark, nor does it lower that of another term.
used_high : (m : ℕ) → height_in m ≤ height_in (used_mark m)
used_high m = by_test (ltb m first_use) (λ t. let z : m < first_use = lt_of t in rw t (omega arith)) λ t. rw t (omega arith)

used_kept : (ms : List ℕ) (x e h : ℕ) → e < length ms → h ≤ height_in (get_or ms e 0) → h ≤ height_in (get_or (used ms x) e 0)
used_kept ms x e h p l = change_at used_mark (λ _ m. h ≤ height_in m) (λ _ m q. let z = used_high m in omega arith) (x ∷ []) ms e 0 p l

-- The greatest height is no less than any.
high_above : (es ms : List ℕ) (h : ℕ) → h ≤ highest es ms h
unfolding highest
high_above [] ms h = omega arith
high_above (e ∷ es) ms h = let z = high_above es (used ms e) (max h (height_in (get_or ms e 0))) in omega arith

high_child : (es ms : List ℕ) (e h g : ℕ) → e < length ms → h ≤ height_in (get_or ms e 0) → 0 < count e es → h ≤ highest es ms g
unfolding highest count
high_child [] ms e h g p l c = absurd (omega arith)
high_child (x ∷ es) ms e h g p l c = go (λ k. high_child es (used ms x) e h next (rw length-set p) (used_kept ms x e h p l) k) (eqb e x) refl
  where
    next : ℕ
    next = max g (height_in (get_or ms x 0))

    go : (0 < count e es → h ≤ highest es (used ms x) next) → (t : Bool) → eqb e x ≡ t → h ≤ highest es (used ms x) next
    go ih true t = let z : e ≡ x = eq_of t in let q = high_above es (used ms x) next in let r : h ≤ height_in (get_or ms x 0) = subst (λ y. h ≤ height_in (get_or ms y 0)) z l in omega arith
    go ih false t = let k : 0 < 0 + count e es = rw t at c in ih (omega arith)

mark_high : (h u : ℕ) → h ≤ suc depth_limit → h ≤ height_in (mark_of h u)
mark_high h zero l = omega arith
mark_high h (suc zero) l = omega arith
mark_high h (suc (suc u)) l = omega arith

module _ (L : Layout) (good : LayoutOk L) where
  -- A term that is not too high is higher than each of its children.
  child_lower : {n i e : ℕ} → IsChild L n i e → height L n ≤ depth_limit → height L e < height L n
  child_lower {n} {i} {e} c h =
      let b : e < n = subst (λ x. x < n) c.is (below_at n (children L n) i (good.terms n c.there).below c.place) in
      let t = c.there in
      let m : get_or (marks_of L n) e 0 ≡ mark_of (height L e) (uses L n e) = mark_is L good n e (omega arith) b in
      let k : height L e ≤ height_in (get_or (marks_of L n) e 0) = rw m (mark_high (height L e) (uses L n e) (omega arith)) in
      let p : e < length (marks_of L n) = let z = marks_length L n in let f = good.few_terms in omega arith in
      let q = high_child (children L n) (marks_of L n) e (height L e) 0 p k (child_counts L c) in
      omega arith

  -- So a depth and a height are together at most one more than the root's height.
  together : (height L (root_of L) ≤ depth_limit) → {n d : ℕ} → Depth L n d → (0 < d) × (d + height L n ≤ suc (height L (root_of L)))
  together h at_root = (omega arith, omega arith)
  together h (at_child p c) =
      let t = together h p in
      let x = t.0 in
      let y = t.1 in
      let z = child_lower c (omega arith) in
      (omega arith, omega arith)

  pub shallow : 0 < length L.terms → ((n : ℕ) → n < root_of L → used_once L n ≡ true) → height L (root_of L) ≤ depth_limit → (n : ℕ) → n < length L.terms → get_or (depths L) n 0 ≤ depth_limit
  shallow some once h n l = let t = (together h (depth_of_lem L good some once n l)).1 in omega arith
