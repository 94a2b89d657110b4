-- The program of an image in which no term is at fault (refusal 19) is one of those of which card 10 speaks in the calculus.
use Prim.Native.Nat.{ℕ, zero, suc, ◌+◌, ◌≤◌, ◌<◌, min}
use native.Mathlib.Omega.{arith}
use mathlib.Core.Path.{◌≡◌, refl}
use mathlib.Core.Bool.{Bool, true, false, ◌&&◌}
use mathlib.Core.List.{List, [], ◌∷◌}
use lib.ListN.{length, get_or}
use lib.Dec.{T}
use Rattle.calculus.specs.Combinators.{choose}
use Rattle.calculus.specs.Syntax.{Ty, Tm, Tms, end, more}
use Rattle.calculus_needs.specs.Class.{is_advice as isAdviceTm, permits2, in_class, all_in_class}
use Rattle.calculus_needs.proofs.Admitted.{both, first, second}
use Rattle.image.specs.Kinds.{TermKind, Form, operator, form_of, term_row, body_of}
use Rattle.image.specs.Records.{Layout, fields_at, numbers_at, times, as_child}
use Rattle.image.specs.Bytes.{length_at}
use Rattle.image.specs.Types.{term_kind, term_place, children, root_of}
use Rattle.image.specs.Program.{nth, op_of, behind, subtrees, tree, program, assemble_as, assemble, to_tm, to_tms}
use Rattle.laws.proofs.Booleans.{of_t, eq_of}
use Rattle.image.proofs.Words.{words_length}
use Rattle.image.proofs.Counts.{fields_give, giving_row}
use Rattle.image.proofs.KindNumbers.{same_term_kind}
use Rattle.image.proofs.Laid.{Below, LayoutOk}
use Rattle.image_needs.specs.Faults.{is_advice, permits, outside, least, permitted, lowest, lowest_fault}

-- Of subterms, i being the place of the first: each is in the class, outside advice bodies or not as g says.
abbrev pub Each : (ℕ → Bool) → ℕ → Tms → Type 0
Each g i end = Unit
Each g i (more e es) = T (in_class (g i) e) × Each g (suc i) es

at_place : (g : ℕ → Bool) (i : ℕ) (es : Tms) → Each g i es → (j : ℕ) → T (in_class (g (i + j)) (nth es j))
unfolding in_class
at_place g i end h j = tt
at_place g i (more e es) h zero = let z : i + 0 ≡ i = omega arith in rw z h.0
at_place g i (more e es) h (suc j) = let z : i + suc j ≡ suc i + j = omega arith in rw z (at_place g (suc i) es h.1 j)

module _ (m : Bool) where
  every : (g : ℕ → Bool) → ((j : ℕ) → g j ≡ m) → (i : ℕ) (es : Tms) → Each g i es → T (all_in_class m es)
  unfolding in_class
  every g s i end h = tt
  every g s i (more e es) h = both (in_class m e) (all_in_class m es) (rw (s i) at h.0) (every g s (suc i) es h.1)

  rest_in : (n : ℕ) (es : Tms) → T (all_in_class m es) → T (all_in_class m (behind n es))
  unfolding in_class
  rest_in zero es h = h
  rest_in (suc n) end h = h
  rest_in (suc n) (more e es) h = rest_in n es (second (in_class m e) (all_in_class m es) h)

  pub match_outside : (i : ℕ) → outside m (body_of TermKind.match i) ≡ m
  match_outside zero = refl
  match_outside (suc zero) = refl
  match_outside (suc (suc zero)) = refl
  match_outside (suc (suc (suc i))) = refl

  operation : (n : ℕ) → T (permits2 m (op_of n))
  operation zero = tt
  operation (suc zero) = tt
  operation (suc (suc zero)) = tt
  operation (suc (suc (suc n))) = tt

  one_in : (e f : Tm) → T (in_class m e) → T (in_class m f) → T (in_class m e && in_class m f)
  one_in e f x y = both (in_class m e) (in_class m f) x y

  three_in : (e f g : Tm) → T (in_class m e) → T (in_class m f) → T (in_class m g) → T (in_class m e && (in_class m f && in_class m g))
  three_in e f g x y z = both (in_class m e) (in_class m f && in_class m g) x (one_in f g y z)

  -- A term that may stand over a first child of kind j, its children being in the class.
  module _ (j : TermKind) (t : Ty) (vs : List ℕ) (es : Tms) where
    assembled : {k : TermKind} (φ : Form k) → T (permits m k j) → (k ≡ TermKind.install → T (is_advice j) → T (isAdviceTm (nth es 0))) → Each (λ i. outside m (body_of k i)) 0 es → T (in_class m (assemble_as φ t vs es))
    unfolding in_class
    assembled (operator o n r) p q h = tt
    assembled Form.unit p o h = tt
    assembled Form.truth p o h = tt
    assembled Form.number p o h = tt
    assembled Form.var p o h = tt
    assembled Form.seq p o h = let c = at_place _ 0 es h in one_in (nth es 0) (nth es 1) (c 0) (c 1)
    assembled Form.print p o h = at_place _ 0 es h 0
    assembled Form.ite p o h = let c = at_place _ 0 es h in three_in (nth es 0) (nth es 1) (nth es 2) (c 0) (c 1) (c 2)
    assembled Form.pair p o h = let c = at_place _ 0 es h in one_in (nth es 0) (nth es 1) (c 0) (c 1)
    assembled Form.split p o h = let c = at_place _ 0 es h in one_in (nth es 0) (nth es 1) (c 0) (c 1)
    assembled Form.fun p o h = at_place _ 0 es h 0
    assembled Form.app p o h = absurd p
    assembled Form.arith p o h =
        let c = at_place _ 0 es h in
        both (permits2 m (op_of (get_or vs 0 0))) (in_class m (nth es 0) && in_class m (nth es 1)) (operation (get_or vs 0 0)) (one_in (nth es 0) (nth es 1) (c 0) (c 1))
    assembled Form.mark p o h = let c = at_place _ 0 es h in both m (in_class m (nth es 0) && in_class m (nth es 1)) p (one_in (nth es 0) (nth es 1) (c 0) (c 1))
    assembled Form.pcd p o h = every _ (λ i. refl) 0 es h
    assembled Form.adv p o h = let c = at_place _ 0 es h in both (in_class m (nth es 0)) (in_class false (nth es 1)) (c 0) (c 1)
    assembled Form.install p o h =
        both (m && isAdviceTm (nth es 0)) (in_class m (nth es 0)) (both m (isAdviceTm (nth es 0)) (first m (is_advice j) p) (o refl (second m (is_advice j) p))) (at_place _ 0 es h 0)
    assembled Form.new_cell p o h = at_place _ 0 es h 0
    assembled Form.read p o h = at_place _ 0 es h 0
    assembled Form.store p o h = let c = at_place _ 0 es h in one_in (nth es 0) (nth es 1) (c 0) (c 1)
    assembled Form.lower p o h = at_place _ 0 es h 0
    assembled Form.byte p o h = at_place _ 0 es h 0
    assembled Form.obj p o h = every _ (λ i. refl) 0 es h
    assembled Form.call p o h = absurd p
    assembled Form.keep p o h = let c = at_place _ 0 es h in three_in (nth es 0) (nth es 1) (nth es 2) (c 0) (c 1) (c 2)
    assembled Form.match p o h =
        let c = at_place _ 0 es h in
        let r = rest_in 3 es (every _ match_outside 0 es h) in
        both (in_class m (nth es 0) && all_in_class m (behind 3 es)) (in_class m (nth es 1) && in_class m (nth es 2)) (both (in_class m (nth es 0)) (all_in_class m (behind 3 es)) (c 0) r) (one_in (nth es 1) (nth es 2) (c 1) (c 2))
    assembled Form.takedown p o h = tt

-- The kind of an advice is an advice's.
advice_kind : (k : TermKind) → T (is_advice k) → k ≡ TermKind.adv
advice_kind k a = same_term_kind k TermKind.adv (eq_of (of_t (is_advice k) a))

advice_term : (k : TermKind) (t : Ty) (vs : List ℕ) (es : Tms) → T (is_advice k) → T (isAdviceTm (assemble k t vs es))
unfolding assemble
advice_term k t vs es a = rw (advice_kind k a) tt

module _ (L : Layout) (good : LayoutOk L) where
  abbrev count : ℕ
  count = length L.terms

  -- An install has its one child.
  one_child : (n : ℕ) → term_kind L n ≡ TermKind.install → 1 ≤ length (children L n)
  one_child n e =
      rw e
      (let b = L.image in
      let o = term_place L n in
      let g = (fields_give (fields_at b o (term_row TermKind.install)) (numbers_at b o (term_row TermKind.install)) (words_length b (o + 4) (length (fields_at b o (term_row TermKind.install))))).0 in
      let h = giving_row as_child 0 (term_row TermKind.install) (times (term_row TermKind.install) (length_at b o)) in
      omega arith)

  -- Over an advice's record stands an advice.
  over_advice : (f : ℕ) (es : List ℕ) → 1 ≤ length es → Below f es → T (is_advice (term_kind L (get_or es 0 0))) → T (isAdviceTm (nth (to_tms (subtrees (λ e. tree L f e) es)) 0))
  unfolding tree to_tm
  over_advice f [] l b a = absurd (omega arith)
  over_advice zero (e ∷ es) l b a = let x = b.0 in absurd (omega arith)
  over_advice (suc f) (e ∷ es) l b a = advice_term (term_kind L e) _ _ _ a

  may_stand : (m : Bool) (n x : ℕ) → n < count → count ≤ min (choose (permitted L m n) count n) x → T (permitted L m n)
  may_stand m n x l h = go (permitted L m n) h
    where
      go : (p : Bool) → count ≤ min (choose p count n) x → T p
      go true q = tt
      go false q = absurd (omega arith)

  module _ (f n : ℕ) (below : (m : Bool) (e : ℕ) → e < n → count ≤ lowest L f m e → T (in_class m (to_tm (tree L f e)))) (g : ℕ → Bool) where
    each_child : (i : ℕ) (es : List ℕ) → Below n es → count ≤ least (λ i e. lowest L f (g i) e) count i es → Each g i (to_tms (subtrees (λ e. tree L f e) es))
    unfolding least to_tm
    each_child i [] b h = tt
    each_child i (e ∷ es) b h = (below (g i) e b.0 (omega arith), each_child (suc i) es b.1 (omega arith))

  lower : (n f : ℕ) (es : List ℕ) → n ≤ f → Below n es → Below f es
  lower n f [] l b = tt
  lower n f (e ∷ es) l b = let x = b.0 in (omega arith, lower n f es l b.1)

  in_class_at : (f : ℕ) (m : Bool) (n : ℕ) → n < f → n < count → count ≤ lowest L f m n → T (in_class m (to_tm (tree L f n)))
  unfolding lowest tree to_tm assemble
  in_class_at zero m n l c h = absurd (omega arith)
  in_class_at (suc f) m n l c h =
      let b = (good.terms n c).below in
      let k = term_kind L n in
      assembled m (term_kind L (get_or (children L n) 0 0)) _ _ (to_tms (subtrees (λ e. tree L f e) (children L n))) (form_of k) (may_stand m n _ c h)
      (λ e a. over_advice f (children L n) (one_child n e) (lower n f (children L n) (omega arith) b) a)
      (each_child f n (λ m e x y. in_class_at f m e (omega arith) (omega arith) y) (λ i. outside m (body_of k i)) 0 (children L n) b (omega arith))

  -- Of the whole program.
  pub in_class_lem : 0 < count → count ≤ lowest_fault L → T (in_class true (to_tm (program L)))
  unfolding lowest_fault program
  in_class_lem l h = in_class_at count true (root_of L) (omega arith) (omega arith) h
