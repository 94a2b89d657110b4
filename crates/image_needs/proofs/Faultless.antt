-- And the other way: in an image whose program is one of those of which card 10 speaks, no term is at fault (refusal 19).
use Prim.Native.Nat.{ℕ, zero, suc, ◌≤◌, ◌<◌, min}
use native.Mathlib.Omega.{arith}
use mathlib.Core.Path.{◌≡◌, refl, sym, ap, subst}
use mathlib.Core.Bool.{Bool, true, false, ◌&&◌, ◌||◌}
use mathlib.Core.List.{List, [], ◌∷◌}
use lib.ListN.{length, get_or, length-map}
use lib.Dec.{T, leb}
use Rattle.calculus.specs.Combinators.{choose}
use Rattle.calculus.specs.Syntax.{Ty, Tms, end, more}
use Rattle.calculus_needs.specs.Class.{is_advice as isAdviceTm, permits2, in_class, all_in_class}
use Rattle.calculus_needs.proofs.Admitted.{both, first, second}
use Rattle.image.specs.Kinds.{TermKind, Form, operator, form_of, term_row, body_of}
use Rattle.image.specs.Records.{Layout}
use Rattle.image.specs.Types.{type_no, term_kind, children, root_of}
use Rattle.image.specs.Program.{Program, nth, op_of, behind, subtrees, tree, program, assemble_as, assemble, to_tm, to_tms}
use Rattle.image.proofs.Counts.{most_children}
use Rattle.image.proofs.EveryKind.{every_of, at_term}
use Rattle.image.proofs.Laid.{Below, LayoutOk}
use Rattle.verdict.proofs.Sound.{term_facts}
use Rattle.image_needs.specs.Faults.{is_advice, permits, outside, least, permitted, lowest, lowest_fault}
use Rattle.image_needs.proofs.Class.{Each, match_outside}

abbrev size : Tms → ℕ
size end = 0
size (more e es) = suc (size es)

-- Subterms that are all there are: at most none, one, two, three.
module _ (g : ℕ → Bool) where
  none_in : (i : ℕ) (es : Tms) → size es ≤ 0 → Each g i es
  none_in i end l = tt
  none_in i (more e es) l = absurd (omega arith)

  one_in : (i : ℕ) (es : Tms) → size es ≤ 1 → T (in_class (g i) (nth es 0)) → Each g i es
  one_in i end l a = tt
  one_in i (more e es) l a = (a, none_in (suc i) es (omega arith))

  two_in : (i : ℕ) (es : Tms) → size es ≤ 2 → T (in_class (g i) (nth es 0)) → T (in_class (g (suc i)) (nth es 1)) → Each g i es
  two_in i end l a b = tt
  two_in i (more e es) l a b = (a, one_in (suc i) es (omega arith) b)

  three_in : (i : ℕ) (es : Tms) → size es ≤ 3 → T (in_class (g i) (nth es 0)) → T (in_class (g (suc i)) (nth es 1)) → T (in_class (g (suc (suc i))) (nth es 2)) → Each g i es
  three_in i end l a b c = tt
  three_in i (more e es) l a b c = (a, two_in (suc i) es (omega arith) b c)

module _ (m : Bool) where
  -- Subterms that all are outside advice bodies as their parent is.
  module _ (g : ℕ → Bool) (same : (j : ℕ) → g j ≡ m) where
    all_in : (i : ℕ) (es : Tms) → T (all_in_class m es) → Each g i es
    unfolding in_class
    all_in i end h = tt
    all_in i (more e es) h = (rw (same i) (first (in_class m e) (all_in_class m es) h), all_in (suc i) es (second (in_class m e) (all_in_class m es) h))

    then_all : (n i : ℕ) (es : Tms) → ((j : ℕ) → j < n → T (in_class m (nth es j))) → T (all_in_class m (behind n es)) → Each g i es
    then_all zero i es h r = all_in i es r
    then_all (suc n) i end h r = tt
    then_all (suc n) i (more e es) h r = (rw (same i) (h 0 (omega arith)), then_all n (suc i) es (λ j l. h (suc j) (omega arith)) r)

  three : (X : ℕ → Type 0) → X 0 → X 1 → X 2 → (j : ℕ) → j < 3 → X j
  three X a b c zero l = a
  three X a b c (suc zero) l = b
  three X a b c (suc (suc zero)) l = c
  three X a b c (suc (suc (suc j))) l = absurd (omega arith)

  -- A term without children may stand anywhere.
  childless : (j k : TermKind) → most_children (term_row k) ≡ 0 → T (permits m k j)
  unfolding every_of
  childless j k e = let h = at_term (λ k. leb 1 (most_children (term_row k)) || permits m k j) refl k in subst T (sym (rw e at h)) tt

  module _ (t : Ty) (vs : List ℕ) (es : Tms) where
    -- The children of a term of the class are of the class, where they stand.
    inside : {k : TermKind} (φ : Form k) → size es ≤ most_children (term_row k) → T (in_class m (assemble_as φ t vs es)) → Each (λ i. outside m (body_of k i)) 0 es
    unfolding in_class
    inside (operator o n r) l h = none_in _ 0 es (subst (λ x. size es ≤ most_children x) r l)
    inside Form.unit l h = none_in _ 0 es l
    inside Form.truth l h = none_in _ 0 es l
    inside Form.number l h = none_in _ 0 es l
    inside Form.var l h = none_in _ 0 es l
    inside Form.seq l h = two_in _ 0 es l (first (in_class m (nth es 0)) (in_class m (nth es 1)) h) (second (in_class m (nth es 0)) (in_class m (nth es 1)) h)
    inside Form.print l h = one_in _ 0 es l h
    inside Form.ite l h =
        let r = second (in_class m (nth es 0)) (in_class m (nth es 1) && in_class m (nth es 2)) h in
        three_in _ 0 es l (first (in_class m (nth es 0)) (in_class m (nth es 1) && in_class m (nth es 2)) h) (first (in_class m (nth es 1)) (in_class m (nth es 2)) r) (second (in_class m (nth es 1)) (in_class m (nth es 2)) r)
    inside Form.pair l h = two_in _ 0 es l (first (in_class m (nth es 0)) (in_class m (nth es 1)) h) (second (in_class m (nth es 0)) (in_class m (nth es 1)) h)
    inside Form.split l h = two_in _ 0 es l (first (in_class m (nth es 0)) (in_class m (nth es 1)) h) (second (in_class m (nth es 0)) (in_class m (nth es 1)) h)
    inside Form.fun l h = one_in _ 0 es l h
    inside Form.app l h = absurd h
    inside Form.arith l h =
        let r = second (permits2 m (op_of (get_or vs 0 0))) (in_class m (nth es 0) && in_class m (nth es 1)) h in
        two_in _ 0 es l (first (in_class m (nth es 0)) (in_class m (nth es 1)) r) (second (in_class m (nth es 0)) (in_class m (nth es 1)) r)
    inside Form.mark l h =
        let r = second m (in_class m (nth es 0) && in_class m (nth es 1)) h in
        two_in _ 0 es l (first (in_class m (nth es 0)) (in_class m (nth es 1)) r) (second (in_class m (nth es 0)) (in_class m (nth es 1)) r)
    inside Form.pcd l h = all_in _ (λ i. refl) 0 es h
    inside Form.adv l h = two_in _ 0 es l (first (in_class m (nth es 0)) (in_class false (nth es 1)) h) (second (in_class m (nth es 0)) (in_class false (nth es 1)) h)
    inside Form.install l h = one_in _ 0 es l (second (m && isAdviceTm (nth es 0)) (in_class m (nth es 0)) h)
    inside Form.new_cell l h = one_in _ 0 es l h
    inside Form.read l h = one_in _ 0 es l h
    inside Form.store l h = two_in _ 0 es l (first (in_class m (nth es 0)) (in_class m (nth es 1)) h) (second (in_class m (nth es 0)) (in_class m (nth es 1)) h)
    inside Form.lower l h = one_in _ 0 es l h
    inside Form.byte l h = one_in _ 0 es l h
    inside Form.obj l h = all_in _ (λ i. refl) 0 es h
    inside Form.call l h = absurd h
    inside Form.keep l h =
        let r = second (in_class m (nth es 0)) (in_class m (nth es 1) && in_class m (nth es 2)) h in
        three_in _ 0 es l (first (in_class m (nth es 0)) (in_class m (nth es 1) && in_class m (nth es 2)) h) (first (in_class m (nth es 1)) (in_class m (nth es 2)) r) (second (in_class m (nth es 1)) (in_class m (nth es 2)) r)
    inside Form.match l h =
        let s = first (in_class m (nth es 0) && all_in_class m (behind 3 es)) (in_class m (nth es 1) && in_class m (nth es 2)) h in
        let r = second (in_class m (nth es 0) && all_in_class m (behind 3 es)) (in_class m (nth es 1) && in_class m (nth es 2)) h in
        then_all _ (match_outside m) 3 0 es
        (three (λ j. T (in_class m (nth es j))) (first (in_class m (nth es 0)) (all_in_class m (behind 3 es)) s) (first (in_class m (nth es 1)) (in_class m (nth es 2)) r) (second (in_class m (nth es 1)) (in_class m (nth es 2)) r))
        (second (in_class m (nth es 0)) (all_in_class m (behind 3 es)) s)
    inside Form.takedown l h = none_in _ 0 es l

    -- And it may stand over a first child of kind j, which is an advice's if the child is one.
    may_stand : {k : TermKind} (φ : Form k) (j : TermKind) → (T (isAdviceTm (nth es 0)) → T (is_advice j)) → T (in_class m (assemble_as φ t vs es)) → T (permits m k j)
    unfolding in_class
    may_stand (operator {k} o n r) j q h = childless j k (ap most_children r)
    may_stand Form.unit j q h = tt
    may_stand Form.truth j q h = tt
    may_stand Form.number j q h = tt
    may_stand Form.var j q h = tt
    may_stand Form.seq j q h = tt
    may_stand Form.print j q h = tt
    may_stand Form.ite j q h = tt
    may_stand Form.pair j q h = tt
    may_stand Form.split j q h = tt
    may_stand Form.fun j q h = tt
    may_stand Form.app j q h = h
    may_stand Form.arith j q h = tt
    may_stand Form.mark j q h = first m (in_class m (nth es 0) && in_class m (nth es 1)) h
    may_stand Form.pcd j q h = tt
    may_stand Form.adv j q h = tt
    may_stand Form.install j q h =
        let r = first (m && isAdviceTm (nth es 0)) (in_class m (nth es 0)) h in
        both m (is_advice j) (first m (isAdviceTm (nth es 0)) r) (q (second m (isAdviceTm (nth es 0)) r))
    may_stand Form.new_cell j q h = tt
    may_stand Form.read j q h = tt
    may_stand Form.store j q h = tt
    may_stand Form.lower j q h = tt
    may_stand Form.byte j q h = tt
    may_stand Form.obj j q h = tt
    may_stand Form.call j q h = h
    may_stand Form.keep j q h = tt
    may_stand Form.match j q h = tt
    may_stand Form.takedown j q h = tt

-- A term of the calculus that is an advice comes of an advice's record.
advice_back : {k : TermKind} (φ : Form k) (t : Ty) (vs : List ℕ) (es : Tms) → T (isAdviceTm (assemble_as φ t vs es)) → T (is_advice k)
advice_back (operator o n r) t vs es h = absurd h
advice_back Form.unit t vs es h = absurd h
advice_back Form.truth t vs es h = absurd h
advice_back Form.number t vs es h = absurd h
advice_back Form.var t vs es h = absurd h
advice_back Form.seq t vs es h = absurd h
advice_back Form.print t vs es h = absurd h
advice_back Form.ite t vs es h = absurd h
advice_back Form.pair t vs es h = absurd h
advice_back Form.split t vs es h = absurd h
advice_back Form.fun t vs es h = absurd h
advice_back Form.app t vs es h = absurd h
advice_back Form.arith t vs es h = absurd h
advice_back Form.mark t vs es h = absurd h
advice_back Form.pcd t vs es h = absurd h
advice_back Form.adv t vs es h = tt
advice_back Form.install t vs es h = absurd h
advice_back Form.new_cell t vs es h = absurd h
advice_back Form.read t vs es h = absurd h
advice_back Form.store t vs es h = absurd h
advice_back Form.lower t vs es h = absurd h
advice_back Form.byte t vs es h = absurd h
advice_back Form.obj t vs es h = absurd h
advice_back Form.call t vs es h = absurd h
advice_back Form.keep t vs es h = absurd h
advice_back Form.match t vs es h = absurd h
advice_back Form.takedown t vs es h = absurd h

size_subtrees : (g : ℕ → Program) (es : List ℕ) → size (to_tms (subtrees g es)) ≡ length es
unfolding to_tm
size_subtrees g [] = refl
size_subtrees g (e ∷ es) = ap suc (size_subtrees g es)

module _ (L : Layout) (good : LayoutOk L) where
  abbrev count : ℕ
  count = length L.terms

  under_advice : (f : ℕ) (es : List ℕ) → T (isAdviceTm (nth (to_tms (subtrees (λ e. tree L f e) es)) 0)) → T (is_advice (term_kind L (get_or es 0 0)))
  unfolding tree to_tm assemble
  under_advice f [] h = absurd h
  under_advice zero (e ∷ es) h = absurd h
  under_advice (suc f) (e ∷ es) h = advice_back (form_of (term_kind L e)) _ _ _ h

  few_children : (f n : ℕ) → n < count → size (to_tms (subtrees (λ e. tree L f e) (children L n))) ≤ most_children (term_row (term_kind L n))
  few_children f n c =
      let t = (term_facts L good n c).most in
      let s = size_subtrees (λ e. tree L f e) (children L n) in
      let l = length-map (children L n) (λ e. type_no L e) in
      omega arith

  not_here : (p : Bool) (n x : ℕ) → T p → count ≤ x → count ≤ min (choose p count n) x
  not_here false n x h l = elim h [ ]
  not_here true n x h l = omega arith

  module _ (f n : ℕ) (below : (m : Bool) (e : ℕ) → e < n → T (in_class m (to_tm (tree L f e))) → count ≤ lowest L f m e) (g : ℕ → Bool) where
    no_child_at_fault : (i : ℕ) (es : List ℕ) → Below n es → Each g i (to_tms (subtrees (λ e. tree L f e) es)) → count ≤ least (λ i e. lowest L f (g i) e) count i es
    unfolding least to_tm
    no_child_at_fault i [] b h = omega arith
    no_child_at_fault i (e ∷ es) b h = let x = below (g i) e b.0 h.0 in let y = no_child_at_fault (suc i) es b.1 h.1 in omega arith

  faultless_at : (f : ℕ) (m : Bool) (n : ℕ) → n < f → n < count → T (in_class m (to_tm (tree L f n))) → count ≤ lowest L f m n
  unfolding lowest tree to_tm assemble
  faultless_at zero m n l c h = absurd (omega arith)
  faultless_at (suc f) m n l c h =
      let b = (good.terms n c).below in
      let k = term_kind L n in
      let es = to_tms (subtrees (λ e. tree L f e) (children L n)) in
      not_here (permitted L m n) n _ (may_stand m _ _ es (form_of k) (term_kind L (get_or (children L n) 0 0)) (under_advice f (children L n)) h)
      (no_child_at_fault f n (λ m e x y. faultless_at f m e (omega arith) (omega arith) y) (λ i. outside m (body_of k i)) 0 (children L n) b (inside m _ _ es (form_of k) (few_children f n c) h))

  -- Of the whole program.
  pub faultless : 0 < count → T (in_class true (to_tm (program L))) → count ≤ lowest_fault L
  unfolding lowest_fault program
  faultless l h = faultless_at count true (root_of L) (omega arith) (omega arith) h
