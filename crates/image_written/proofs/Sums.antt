-- Sums over numbers below a bound and over lists, and the terms of an accepted image counted by its tree.
use Prim.Native.Nat.{ℕ, zero, suc, ◌+◌, ◌≤◌, ◌<◌}
use native.Mathlib.Omega.{arith}
use mathlib.Core.Path.{◌≡◌, refl, sym, ap, ◌∙◌}
use mathlib.Core.Bool.{Bool, true, false}
use mathlib.Core.List.{List, [], ◌∷◌, ◌++◌}
use lib.ListN.{length, get_or}
use lib.Dec.{eqb, ltb}
use Rattle.calculus.specs.Combinators.{choose}
use Rattle.image.specs.Kinds.{TermKind}
use Rattle.image.specs.Records.{Layout}
use Rattle.image.specs.Types.{term_kind, others, children, root_of}
use Rattle.image.specs.Program.{Program, Programs, node, blank, end, more, subtrees, tree, program}
use Rattle.laws.proofs.Booleans.{lt_of, ge_of, eq_of, of_eq}
use Rattle.image.proofs.Laid.{LayoutOk, Below}
use Rattle.image.proofs.Fuel.{tree_fuel}
use Rattle.verdict.specs.Shape.{count, uses, used_once}
use Rattle.verdict.proofs.Depth.{below_count}
use Rattle.verdict.proofs.Sound.{below_le}
use Rattle.image_written.specs.Written.{terms, terms_all}
use Rattle.image_written.proofs.Writable.{several}
use Rattle.image_written.proofs.Taken.{several_trees}

unfoldable pub sum_below : ℕ → (ℕ → ℕ) → ℕ
sum_below zero w = 0
sum_below (suc n) w = sum_below n w + w n

unfoldable pub sum_of : (ℕ → ℕ) → List ℕ → ℕ
sum_of w [] = 0
sum_of w (x ∷ xs) = w x + sum_of w xs

pub sum_cong : (n : ℕ) (w v : ℕ → ℕ) → ((c : ℕ) → c < n → w c ≡ v c) → sum_below n w ≡ sum_below n v
unfolding sum_below
sum_cong zero w v h = refl
sum_cong (suc n) w v h = let a = sum_cong n w v (λ c l. h c (omega arith)) in let b = h n (omega arith) in omega arith

pub sum_le : (n : ℕ) (w v : ℕ → ℕ) → ((c : ℕ) → c < n → w c ≤ v c) → sum_below n w ≤ sum_below n v
unfolding sum_below
sum_le zero w v h = omega arith
sum_le (suc n) w v h = let a = sum_le n w v (λ c l. h c (omega arith)) in let b = h n (omega arith) in omega arith

sum_add : (n : ℕ) (w v : ℕ → ℕ) → sum_below n (λ c. w c + v c) ≡ sum_below n w + sum_below n v
unfolding sum_below
sum_add zero w v = refl
sum_add (suc n) w v = let a = sum_add n w v in omega arith

unfoldable pub multiple : ℕ → ℕ → ℕ
multiple zero w = 0
multiple (suc k) w = w + multiple k w

multiple_add : (j k w : ℕ) → multiple (j + k) w ≡ multiple j w + multiple k w
unfolding multiple
multiple_add zero k w = let z : 0 + k ≡ k = omega arith in ap (λ m. multiple m w) z ∙ omega arith
multiple_add (suc j) k w = let z : suc j + k ≡ suc (j + k) = omega arith in let a = multiple_add j k w in ap (λ m. multiple m w) z ∙ omega arith

pub sum_const : (n k : ℕ) → sum_below n (λ c. k) ≡ multiple n k
unfolding sum_below multiple
sum_const zero k = refl
sum_const (suc n) k = let a = sum_const n k in omega arith

pub multiple_ones : (n : ℕ) → multiple n 1 ≡ n
unfolding multiple
multiple_ones zero = refl
multiple_ones (suc n) = let a = multiple_ones n in omega arith

multiple_zero : (n : ℕ) → multiple n 0 ≡ 0
unfolding multiple
multiple_zero zero = refl
multiple_zero (suc n) = let a = multiple_zero n in omega arith

multiple_most : (k w : ℕ) → k ≤ 1 → multiple k w ≤ w
unfolding multiple
multiple_most zero w h = omega arith
multiple_most (suc zero) w h = omega arith
multiple_most (suc (suc k)) w h = absurd (omega arith)

multiple_one : (w : ℕ) → multiple 1 w ≡ w
unfolding multiple
multiple_one w = omega arith

multiple_none : (w : ℕ) → multiple 0 w ≡ 0
unfolding multiple
multiple_none w = refl

-- The sum of what x alone counts.
sum_one : (n x : ℕ) (w : ℕ → ℕ) → x < n → sum_below n (λ c. multiple (choose (eqb c x) 1 0) (w c)) ≡ w x
unfolding sum_below
sum_one zero x w l = absurd (omega arith)
sum_one (suc n) x w l = go (ltb x n) refl (λ z. sum_one n x w z)
  where
    zero_at : (c : ℕ) → (c ≡ x → ⊥) → multiple (choose (eqb c x) 1 0) (w c) ≡ 0
    zero_at c h = is (eqb c x) refl
      where
        is : (t : Bool) → eqb c x ≡ t → multiple (choose (eqb c x) 1 0) (w c) ≡ 0
        is true q = absurd (h (eq_of q))
        is false q = rw q (multiple_none (w c))

    none_before : (m : ℕ) → m ≤ x → sum_below m (λ c. multiple (choose (eqb c x) 1 0) (w c)) ≡ 0
    none_before zero h = refl
    none_before (suc m) h = let a = none_before m (omega arith) in let b = zero_at m (λ e. omega arith) in omega arith

    go : (t : Bool) → ltb x n ≡ t → (x < n → sum_below n (λ c. multiple (choose (eqb c x) 1 0) (w c)) ≡ w x) → sum_below n (λ c. multiple (choose (eqb c x) 1 0) (w c)) + multiple (choose (eqb n x) 1 0) (w n) ≡ w x
    go true q ih = let z : x < n = lt_of q in let a = ih z in let b = zero_at n (λ e. omega arith) in omega arith
    go false q ih =
        let z : n ≤ x = ge_of q in
        let e : n ≡ x = omega arith in
        let a = none_before n (omega arith) in
        let b : multiple (choose (eqb n x) 1 0) (w n) ≡ w x = let t : eqb n x ≡ true = of_eq e in rw t (multiple_one (w n) ∙ ap w e) in
        omega arith

-- A sum over a list by how often each number stands in it.
pub sum_count : (n : ℕ) (w : ℕ → ℕ) (xs : List ℕ) → Below n xs → sum_of w xs ≡ sum_below n (λ c. multiple (count c xs) (w c))
unfolding sum_of count
sum_count n w [] b = sym (sum_cong n (λ c. multiple 0 (w c)) (λ c. 0) (λ c l. multiple_none (w c)) ∙ sum_const n 0 ∙ multiple_zero n)
sum_count n w (x ∷ xs) b =
    let a = sum_count n w xs b.1 in
    let o = sum_one n x w b.0 in
    let s = sum_add n (λ c. multiple (choose (eqb c x) 1 0) (w c)) (λ c. multiple (count c xs) (w c)) in
    let e : sum_below n (λ c. multiple (choose (eqb c x) 1 0 + count c xs) (w c)) ≡ sum_below n (λ c. multiple (choose (eqb c x) 1 0) (w c) + multiple (count c xs) (w c)) = sum_cong n _ _ (λ c l. multiple_add (choose (eqb c x) 1 0) (count c xs) (w c)) in
    omega arith

-- Numbers that stand in a list once at most: their sum is at most that of all.
pub sum_distinct : (n : ℕ) (w : ℕ → ℕ) (xs : List ℕ) → Below n xs → ((c : ℕ) → count c xs ≤ 1) → sum_of w xs ≤ sum_below n w
sum_distinct n w xs b h = let a = sum_count n w xs b in let s = sum_le n (λ c. multiple (count c xs) (w c)) w (λ c l. multiple_most (count c xs) (w c) (h c)) in omega arith

-- A sum over a list by places.
sum_shift : (n : ℕ) (w : ℕ → ℕ) → sum_below (suc n) w ≡ w 0 + sum_below n (λ c. w (suc c))
unfolding sum_below
sum_shift zero w = omega arith
sum_shift (suc n) w = let a = sum_shift n w in omega arith

pub sum_places : (w : ℕ → ℕ) (xs : List ℕ) → sum_of w xs ≡ sum_below (length xs) (λ i. w (get_or xs i 0))
unfolding sum_of sum_below
sum_places w [] = refl
sum_places w (x ∷ xs) = let a = sum_places w xs in let b = sum_shift (length xs) (λ i. w (get_or (x ∷ xs) i 0)) in omega arith

pub sum_append : (w : ℕ → ℕ) (xs ys : List ℕ) → sum_of w (xs ++ ys) ≡ sum_of w xs + sum_of w ys
unfolding sum_of
sum_append w [] ys = omega arith
sum_append w (x ∷ xs) ys = let a = sum_append w xs ys in omega arith

-- A program weighed, term by term: a term of kind k with the others vs and n children counts v k vs n.
abbrev pub Weighing : Type 0
Weighing = TermKind → List ℕ → ℕ → ℕ

unfoldable mutual
  pub weight : Weighing → Program → ℕ
  weight v (node k t vs es) = v k vs (several es) + weight_all v es
  weight v blank = 0

  pub weight_all : Weighing → Programs → ℕ
  weight_all v end = 0
  weight_all v (more e es) = weight v e + weight_all v es

mutual
  unfolding weight terms

  pub weight_terms : (e : Program) → weight (λ k vs n. 1) e ≡ terms e
  weight_terms (node k t vs es) = let a = weight_terms_all es in omega arith
  weight_terms blank = refl

  weight_terms_all : (es : Programs) → weight_all (λ k vs n. 1) es ≡ terms_all es
  weight_terms_all end = refl
  weight_terms_all (more e es) = let a = weight_terms e in let b = weight_terms_all es in omega arith

weight_trees : (v : Weighing) (g : ℕ → Program) (w : ℕ → ℕ) (m : ℕ) → ((c : ℕ) → c < m → weight v (g c) ≡ w c) → (es : List ℕ) → Below m es → weight_all v (subtrees g es) ≡ sum_of w es
unfolding weight sum_of
weight_trees v g w m h [] b = refl
weight_trees v g w m h (c ∷ es) b = let a = h c b.0 in let r = weight_trees v g w m h es b.1 in omega arith

abbrev pub own : Weighing → Layout → ℕ → ℕ
own v L m = v (term_kind L m) (others L m) (length (children L m))

module _ (v : Weighing) (L : Layout) (good : LayoutOk L) (once : (y : ℕ) → y < root_of L → used_once L y ≡ true) where
  -- The weight of term m and of all below it.
  abbrev W : ℕ → ℕ
  W m = weight v (tree L (suc m) m)

  weight_law : (m : ℕ) → m < length L.terms → W m ≡ own v L m + sum_of W (children L m)
  unfolding weight tree
  weight_law m l =
      let a = weight_trees v (λ c. tree L m c) W m (λ c k. ap (λ x. weight v x) (tree_fuel L good m (suc c) c k (omega arith) (omega arith))) (children L m) (good.terms m l).below in
      let b : v (term_kind L m) (others L m) (several (subtrees (λ c. tree L m c) (children L m))) ≡ own v L m = ap (λ q. v (term_kind L m) (others L m) q) (several_trees (λ c. tree L m c) (children L m)) in
      omega arith

  uses_sum : (m : ℕ) → m ≤ length L.terms → sum_below m (λ j. sum_of W (children L j)) ≡ sum_below (length L.terms) (λ c. multiple (uses L m c) (W c))
  unfolding sum_below uses
  uses_sum zero l = sym (sum_cong (length L.terms) (λ c. multiple 0 (W c)) (λ c. 0) (λ c k. multiple_none (W c)) ∙ sum_const (length L.terms) 0 ∙ multiple_zero (length L.terms))
  uses_sum (suc m) l =
      let a = uses_sum m (omega arith) in
      let b = sum_count (length L.terms) W (children L m) (below_le (children L m) (omega arith) (good.terms m (omega arith)).below) in
      let s = sum_add (length L.terms) (λ c. multiple (uses L m c) (W c)) (λ c. multiple (count c (children L m)) (W c)) in
      let e : sum_below (length L.terms) (λ c. multiple (uses L m c + count c (children L m)) (W c)) ≡ sum_below (length L.terms) (λ c. multiple (uses L m c) (W c) + multiple (count c (children L m)) (W c)) = sum_cong (length L.terms) _ _ (λ c k. multiple_add (uses L m c) (count c (children L m)) (W c)) in
      omega arith

  unused : (m c : ℕ) → m ≤ suc c → m ≤ length L.terms → uses L m c ≡ 0
  unfolding uses
  unused zero c l k = refl
  unused (suc m) c l k = let a = unused m c (omega arith) (omega arith) in let b = below_count m c (children L m) (good.terms m (omega arith)).below (omega arith) in omega arith

  -- The weight of the whole tree is that of all terms, each by itself.
  pub weight_all_lem : 0 < length L.terms → weight v (program L) ≡ sum_below (length L.terms) (λ m. own v L m)
  unfolding sum_below program
  weight_all_lem h =
      let n : ℕ = length L.terms in
      let r : ℕ = root_of L in
      let sr : suc r ≡ n = omega arith in
      let a : sum_below n W ≡ sum_below n (λ m. own v L m + sum_of W (children L m)) = sum_cong n W (λ m. own v L m + sum_of W (children L m)) (λ m l. weight_law m l) in
      let b = sum_add n (λ m. own v L m) (λ m. sum_of W (children L m)) in
      let c = uses_sum n (omega arith) in
      let d : sum_below n W ≡ sum_below r W + W r = ap (λ q. sum_below q W) (sym sr) in
      let e : sum_below n (λ c. multiple (uses L n c) (W c)) ≡ sum_below r (λ c. multiple (uses L n c) (W c)) + multiple (uses L n r) (W r) = ap (λ q. sum_below q (λ c. multiple (uses L n c) (W c))) (sym sr) in
      let f : sum_below r (λ c. multiple (uses L n c) (W c)) ≡ sum_below r W = sum_cong r (λ c. multiple (uses L n c) (W c)) W (λ c l. ap (λ q. multiple q (W c)) (eq_of (once c l)) ∙ multiple_one (W c)) in
      let g : multiple (uses L n r) (W r) ≡ 0 = ap (λ q. multiple q (W r)) (unused n r (omega arith) (omega arith)) ∙ multiple_none (W r) in
      let k : weight v (tree L n r) ≡ W r = ap (λ q. weight v (tree L q r)) (sym sr) in
      sums (sum_below n W) (sum_below n (λ m. own v L m)) _ (sum_below r W) (W r) _ _ _ (a ∙ b) c d e f g k
    where
      sums : (x o s p w t u z : ℕ) {k : ℕ} → x ≡ o + s → s ≡ t → x ≡ p + w → t ≡ u + z → u ≡ p → z ≡ 0 → k ≡ w → k ≡ o
      sums x o s p w t u z a b c d e f g = omega arith
