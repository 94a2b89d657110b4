-- The depths are what document 01 says: the root has depth 1, and a child one more than the term whose child it is.
use Prim.Native.Nat.{ℕ, zero, suc, ◌+◌, ◌≤◌, ◌<◌}
use native.Mathlib.Omega.{arith}
use mathlib.Core.Path.{◌≡◌, refl, ap, subst, ◌∙◌}
use mathlib.Core.Bool.{Bool, true, false}
use mathlib.Core.List.{List, [], ◌∷◌}
use lib.ListN.{length, get_or, set, replicate, length-set, length-replicate}
use lib.Seq.{get_or-set_same}
use lib.Dec.{eqb, ltb}
use Rattle.calculus.specs.Combinators.{choose}
use Rattle.image.specs.Records.{Layout}
use Rattle.image.specs.Types.{children, root_of}
use Rattle.laws.proofs.Booleans.{lt_of, ge_of, eq_of}
use Rattle.image.proofs.Laid.{Below, LayoutOk}
use Rattle.verdict.specs.Shape.{count, set_all, uses, used_once, depths_from, depths}
use Rattle.verdict.proofs.Changes.{change_length, change_at}

pub below_count : (n e : ℕ) (es : List ℕ) → Below n es → n ≤ e → count e es ≡ 0
unfolding count
below_count n e [] b h = refl
below_count n e (x ∷ es) b h = go (below_count n e es b.1 h) (eqb e x) refl
  where
    go : count e es ≡ 0 → (t : Bool) → eqb e x ≡ t → choose (eqb e x) 1 0 + count e es ≡ 0
    go r true q = let z : e ≡ x = eq_of q in let w = b.0 in absurd (omega arith)
    go r false q = rw q (omega arith)

-- x, once it has been set to d so often: what is set is d, and what is not stays.
abbrev set_to : ℕ → ℕ → ℕ → ℕ
set_to d x zero = x
set_to d x (suc n) = d

set_to_lem : (d x n : ℕ) → 0 < n → set_to d x n ≡ d
set_to_lem d x zero h = absurd (omega arith)
set_to_lem d x (suc n) h = refl

set_length : (es : List ℕ) (d : ℕ) (ds : List ℕ) → length (set_all es d ds) ≡ length ds
set_length es d ds = change_length (λ _. d) es ds

set_at : (es : List ℕ) (d : ℕ) (ds : List ℕ) (e : ℕ) → e < length ds → get_or (set_all es d ds) e 0 ≡ set_to d (get_or ds e 0) (count e es)
set_at es d ds e l = let z : count e es ≡ 0 + count e es = omega arith in rw z (change_at (λ _. d) (λ n x. x ≡ set_to d (get_or ds e 0) n) (λ n x q. refl) es ds e 0 l refl)

set_other : (es : List ℕ) (d : ℕ) (ds : List ℕ) (e : ℕ) → e < length ds → count e es ≡ 0 → get_or (set_all es d ds) e 0 ≡ get_or ds e 0
set_other es d ds e l h = set_at es d ds e l ∙ ap (set_to d (get_or ds e 0)) h

module _ (L : Layout) where
  -- What no lower term has for a child keeps its depth.
  untouched : (m : ℕ) (ds : List ℕ) (e : ℕ) → e < length ds → ((k : ℕ) → k < m → count e (children L k) ≡ 0) → get_or (depths_from L m ds) e 0 ≡ get_or ds e 0
  unfolding depths_from
  untouched zero ds e l h = refl
  untouched (suc m) ds e l h =
      untouched m (set_all (children L m) (suc (get_or ds m 0)) ds) e (rw set_length l) (λ k z. h k (omega arith)) ∙ set_other (children L m) (suc (get_or ds m 0)) ds e l (h m (omega arith))

  stepped : (m : ℕ) (ds : List ℕ) (n e : ℕ) → n < m → n < length ds → e < length ds → 0 < count e (children L n) → ((k : ℕ) → k < n → count e (children L k) ≡ 0) → ((k : ℕ) → k ≤ n → count n (children L k) ≡ 0)
      → get_or (depths_from L m ds) e 0 ≡ suc (get_or (depths_from L m ds) n 0)
  unfolding depths_from
  stepped zero ds n e l ln le c h k = absurd (omega arith)
  stepped (suc m) ds n e l ln le c h k =
      go (ltb n m) refl (λ z. stepped m (set_all (children L m) (suc (get_or ds m 0)) ds) n e z (rw set_length ln) (rw set_length le) c h k)
    where
      es : List ℕ
      es = set_all (children L m) (suc (get_or ds m 0)) ds

      go : (t : Bool) → ltb n m ≡ t → (n < m → get_or (depths_from L m es) e 0 ≡ suc (get_or (depths_from L m es) n 0)) → get_or (depths_from L m es) e 0 ≡ suc (get_or (depths_from L m es) n 0)
      go true q ih = ih (lt_of q)
      go false q ih =
          let z : m ≤ n = ge_of q in
          let nm : n ≡ m = omega arith in
          let x : get_or (depths_from L m es) e 0 ≡ get_or es e 0 = untouched m es e (rw set_length le) (λ j lj. h j (omega arith)) in
          let y : get_or es e 0 ≡ suc (get_or ds m 0) = set_at (children L m) (suc (get_or ds m 0)) ds e le ∙ set_to_lem _ _ _ (subst (λ j. 0 < count e (children L j)) nm c) in
          let u : get_or (depths_from L m es) n 0 ≡ get_or es n 0 = untouched m es n (rw set_length ln) (λ j lj. k j (omega arith)) in
          let v : get_or es n 0 ≡ get_or ds n 0 = set_other (children L m) (suc (get_or ds m 0)) ds n ln (k m (omega arith)) in
          let w : get_or ds n 0 ≡ get_or ds m 0 = ap (λ j. get_or ds j 0) nm in
          cc

  -- Uses by one term, and by two, are among all uses.
  pub uses_one : (e m n : ℕ) → n < m → count e (children L n) ≤ uses L m e
  unfolding uses
  uses_one e zero n l = absurd (omega arith)
  uses_one e (suc m) n l = go (ltb n m) refl (λ z. uses_one e m n z)
    where
      go : (t : Bool) → ltb n m ≡ t → (n < m → count e (children L n) ≤ uses L m e) → count e (children L n) ≤ uses L m e + count e (children L m)
      go true q ih = let z = ih (lt_of q) in omega arith
      go false q ih = let z : m ≤ n = ge_of q in let nm : n ≡ m = omega arith in rw nm (omega arith)

  pub uses_two : (e m k n : ℕ) → k < n → n < m → count e (children L k) + count e (children L n) ≤ uses L m e
  unfolding uses
  uses_two e zero k n l lm = absurd (omega arith)
  uses_two e (suc m) k n l lm = go (ltb n m) refl (λ z. uses_two e m k n l z)
    where
      go : (t : Bool) → ltb n m ≡ t → (n < m → count e (children L k) + count e (children L n) ≤ uses L m e) → count e (children L k) + count e (children L n) ≤ uses L m e + count e (children L m)
      go true q ih = let z = ih (lt_of q) in omega arith
      go false q ih =
          let z : m ≤ n = ge_of q in
          let nm : n ≡ m = omega arith in
          let one : count e (children L k) ≤ uses L m e = uses_one e m k (omega arith) in
          rw nm (omega arith)

module _ (L : Layout) (good : LayoutOk L) (once : (n : ℕ) → n < root_of L → used_once L n ≡ true) where
  -- A term is no child of a term at or below it.
  no_child : (n k : ℕ) → k ≤ n → k < length L.terms → count n (children L k) ≡ 0
  no_child n k h l = below_count k n (children L k) (good.terms k l).below h

  pub depth_root : root_of L < length L.terms → get_or (depths L) (root_of L) 0 ≡ 1
  unfolding depths
  depth_root l =
      untouched L (length L.terms) (set (replicate (length L.terms) 0) (root_of L) 1) (root_of L) (rw (length-set, length-replicate) l) (λ k m. no_child (root_of L) k (omega arith) m)
      ∙ get_or-set_same (replicate (length L.terms) 0) (root_of L) 1 0 (rw length-replicate l)

  pub depth_child : (n e : ℕ) → n < length L.terms → 0 < count e (children L n) → get_or (depths L) e 0 ≡ suc (get_or (depths L) n 0)
  unfolding depths
  depth_child n e l c = go (ltb e n) refl
    where
      start : List ℕ
      start = set (replicate (length L.terms) 0) (root_of L) 1

      size : length start ≡ length L.terms
      size = length-set (replicate (length L.terms) 0) (root_of L) 1 ∙ length-replicate (length L.terms) 0

      go : (t : Bool) → ltb e n ≡ t → get_or (depths L) e 0 ≡ suc (get_or (depths L) n 0)
      go false q = let z : n ≤ e = ge_of q in let w = no_child e n z l in absurd (omega arith)
      go true q =
          let z : e < n = lt_of q in
          let one : uses L (length L.terms) e ≡ 1 = eq_of (once e (omega arith)) in
          stepped L (length L.terms) start n e l (omega (arith, size)) (omega (arith, size)) c
          (λ k m. let two = uses_two L e (length L.terms) k n m l in omega arith)
          (λ k m. no_child n k m (omega arith))
