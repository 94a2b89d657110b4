-- The walk over a term of an image: where its children stand, what is known there, and what they take together.
use Prim.Native.Nat.{ℕ, suc, ◌+◌, ◌≤◌, ◌<◌}
use native.Mathlib.Omega.{arith}
use native.Mathlib.Numerals.{add-one}
use mathlib.Core.Path.{◌≡◌, refl, sym, ap, subst, ◌∙◌}
use mathlib.Core.Bool.{Bool, true, false}
use mathlib.Core.List.{List, [], ◌∷◌, ◌++◌}
use lib.ListN.{length, get_or, take}
use lib.Dec.{eqb, leb}
use lib.Seq.{take-suc, take_all, length-take-le}
use borrow.Author.Tests.{eq-eqb}
use Rattle.calculus.specs.Syntax.{Ty, Val, Tm, Tms, val, var}
use Rattle.calculus_needs.specs.Here.{Here}
use Rattle.calculus_needs.specs.Numbers.{Numbers, none, ◌⊕◌, dearer}
use Rattle.calculus_needs.specs.Needs.{need, round_of_value, rounds}
use Rattle.calculus_needs.proofs.Sums.{none_left, none_right, plus_assoc}
use Rattle.calculus_needs.proofs.Shift.{level, rounds_once}
use Rattle.laws.proofs.Booleans.{no_path, le_of, eq_of}
use Rattle.image.specs.Bytes.{length_at}
use Rattle.image.proofs.Words.{words_length}
use Rattle.image.proofs.Counts.{most_children, children_between}
use Rattle.image.proofs.EveryKind.{every_of, at_term}
use Rattle.image.specs.Kinds.{TermKind, term_row, is_kind}
use Rattle.image.proofs.KindNumbers.{same_term_kind}
use Rattle.read_terms.proofs.Elimination.{constants}
use Rattle.image.specs.Records.{Layout, times, numbers_at}
use Rattle.image.specs.Program.{Program, tree, to_tm, to_tms, subtrees, assemble}
use Rattle.image.specs.Types.{term_place, term_kind, stated_type, others, children, root_of}
use Rattle.image.proofs.Laid.{LayoutOk, Below}
use Rattle.image.proofs.Fuel.{tree_fuel}
use Rattle.image_needs.specs.declared.Needs.{Needs}
use Rattle.need_sums.specs.declared.shapes.Own.{Own}
use Rattle.need_sums.specs.declared.shapes.Role.{Role}
use Rattle.need_sums.specs.declared.positions.Mode.{Mode}
use Rattle.need_sums.specs.declared.positions.Position.{Position}
use Rattle.need_sums.specs.Sums.{cut_needs, no_needs, add_needs, dearer_needs, raise_needs}
use Rattle.need_sums.specs.Walks.{place_limit, shape_of, role_at, child_position, reduction_needs, own_needs, added_needs, chosen_needs}
use Rattle.need_sums.specs.Rows.{row_count, at_mark}
use Rattle.need_terms.specs.GivenToChildren.{part_domain, branch_variables}
use Rattle.need_walk.specs.Counted.{here_of, counted, term_at, Known}
use Rattle.need_walk.proofs.Folds.{sums, choices, joined, joined_at, joined_at_of, joined_snoc}
use Rattle.need_walk.proofs.Shapes.{FullIf, Full}
use Rattle.need_walk.proofs.Modes.{own_counted, added, offered, by_kind}
use Rattle.need_walk.proofs.Cut.{cut_plus, cut_dearer, cut_none, cut_shift, reduction_cut, round_cut, added_cut, chosen_cut}

-- Nothing is asked of a term that is skipped, and a constant or a variable takes nothing.
pub skip_none : (r : Tm) (s : Position) (e : Tm) → s.mode ≡ Mode.Skip → no_needs ≡ cut_needs (counted r s e)
skip_none r s e h = rw h (sym cut_none)

-- What the term takes itself.
pub own_cut : (L : Layout) (s : Position) → s.depth ≤ place_limit → s.kept < row_count → (o : Own) (p : ℕ) (w : Needs) (rows : List ℕ) → Known L s w rows
    → own_needs o s p (at_mark w rows s.kept) ≡ cut_needs (own_counted (term_at L (root_of L)) s o p)
own_cut L s hd hr o p w rows known = look s.mode known
  where
    R : Tm
    R = term_at L (root_of L)

    S : Mode → Position
    S m = record { mode = m; dom = s.dom; depth = s.depth; kept = s.kept }

    hk : s.kept ≤ place_limit
    hk = omega arith

    look : (m : Mode) → Known L (S m) w rows → own_needs o (S m) p (at_mark w rows s.kept) ≡ cut_needs (own_counted R (S m) o p)
    look Mode.Skip x = sym cut_none
    look Mode.Program x =
        ap (λ y. reduction_needs o (S Mode.Program) y) (ap (raise_needs s.depth) (x s.kept hr) ∙ (cut_shift s.depth (rounds (level s.kept) R) ∙ ap cut_needs (sym (rounds_once R (here_of s)))))
        ∙ reduction_cut (S Mode.Program) hd hk o (rounds (here_of s) R)
    look Mode.Body x = ap (λ y. reduction_needs o (S Mode.Body) y) (sym cut_none) ∙ reduction_cut (S Mode.Body) hd hk o none
    look Mode.AllAdvice x = sym cut_none
    look Mode.InstalledAdvice x = round_cut (S Mode.InstalledAdvice) hd hk o p

-- A constant or a variable takes nothing.
constant_takes : (r : Tm) (s : Position) (v : Val) → ((P : Here) → round_of_value P v ≡ none) → counted r s (val v) ≡ none
unfolding need rounds
constant_takes r s v h = in_mode s.mode
  where
    in_mode : (m : Mode) → counted r (record { mode = m; dom = s.dom; depth = s.depth; kept = s.kept }) (val v) ≡ none
    in_mode Mode.Skip = refl
    in_mode Mode.Program = refl
    in_mode Mode.Body = refl
    in_mode Mode.AllAdvice = refl
    in_mode Mode.InstalledAdvice = ap (λ x. none ⊕ x) (h (here_of s)) ∙ none_left none

variable_takes : (r : Tm) (s : Position) (i : ℕ) → counted r s (var i) ≡ none
unfolding need rounds
variable_takes r s i = in_mode s.mode
  where
    in_mode : (m : Mode) → counted r (record { mode = m; dom = s.dom; depth = s.depth; kept = s.kept }) (var i) ≡ none
    in_mode Mode.Skip = refl
    in_mode Mode.Program = refl
    in_mode Mode.Body = refl
    in_mode Mode.AllAdvice = refl
    in_mode Mode.InstalledAdvice = none_left none

leaf_kind_lem : (k : TermKind) → (term_row k).number ≤ 35 → (r : Tm) (s : Position) (t : Ty) (vs : List ℕ) (es : Tms) → counted r s (assemble k t vs es) ≡ none
unfolding assemble
leaf_kind_lem k l r s t vs es = look (eqb (term_row k).number 35) refl
  where
    Takes : TermKind → Type 0
    Takes j = counted r s (assemble j t vs es) ≡ none

    look : (b : Bool) → eqb (term_row k).number 35 ≡ b → Takes k
    look true q = subst Takes (sym (same_term_kind k TermKind.var (eq_of q))) (variable_takes r s (get_or vs 0 0))
    look false q =
        let n : (term_row k).number ≡ 35 → ⊥ = λ z. no_path (sym (eq-eqb _ 35 z) ∙ q) in
        constants Takes (constant_takes r s _ (λ P. refl)) (constant_takes r s _ (λ P. refl)) (constant_takes r s _ (λ P. refl)) k (omega arith)

-- A match has three children at least.
three_of : (g : ℕ → Program) (es : List ℕ) → 3 ≤ length es → Full TermKind.match (to_tms (subtrees g es))
unfolding to_tms
three_of g [] h = absurd (omega arith)
three_of g (a ∷ []) h = absurd (omega arith)
three_of g (a ∷ b ∷ []) h = absurd (omega arith)
three_of g (a ∷ b ∷ c ∷ es) h = tt

full_of : (k : TermKind) (es : Tms) → (k ≡ TermKind.match → Full TermKind.match es) → Full k es
full_of k es h = go (is_kind TermKind.match k) refl
  where
    go : (b : Bool) → is_kind TermKind.match k ≡ b → FullIf b es
    go true q = h (same_term_kind k TermKind.match (eq_of q))
    go false q = tt

-- A term has few children.
most_few : (k : TermKind) → most_children (term_row k) ≤ place_limit
unfolding every_of
most_few k = le_of (at_term (λ k. leb (most_children (term_row k)) place_limit) refl k)

pub few_children : (L : Layout) → LayoutOk L → (n : ℕ) → n < length L.terms → length (children L n) ≤ place_limit
few_children L good n l =
    let t = good.terms n l in
    let r = term_row (term_kind L n) in
    let m = most_few (term_kind L n) in
    let c : length (children L n) ≤ most_children r =
    (children_between r (times r (length_at L.image (term_place L n))) (numbers_at L.image (term_place L n) r) (words_length L.image _ _) t.is.stands.least t.is.stands.most).1 in
    omega arith

-- The term of an image, by its kind, its children by number.
module _ (L : Layout) (n : ℕ) where
  abbrev R : Tm
  R = term_at L (root_of L)

  abbrev pub kind_at_lem : TermKind
  kind_at_lem = term_kind L n

  abbrev pub domain_at : ℕ
  domain_at = part_domain kind_at_lem (stated_type L n) (others L n)

  abbrev pub role_of : ℕ → Role
  role_of i = role_at (shape_of kind_at_lem) i

  abbrev pub adds_at_lem : Position → ℕ → ℕ → Numbers
  adds_at_lem s i e = added s (role_of i) (counted R (child_position s (role_of i) domain_at) (term_at L e))

  abbrev pub offers_at_lem : Position → ℕ → ℕ → Numbers
  offers_at_lem s i e = offered s (role_of i) (branch_variables kind_at_lem (others L n)) (counted R (child_position s (role_of i) domain_at) (term_at L e))

  abbrev pub own_at : Position → Numbers
  own_at s = own_counted R s (shape_of kind_at_lem).own domain_at

  -- The first j children: their sum with what the term takes itself, and the dearest branch.
  unfoldable pub sum_to : Position → ℕ → Numbers
  sum_to s j = own_at s ⊕ joined_at_of sums (adds_at_lem s) 0 (take j (children L n))

  unfoldable pub choice_to : Position → ℕ → Numbers
  choice_to s j = joined_at_of choices (offers_at_lem s) 0 (take j (children L n))

  abbrev subterms : Tms
  subterms = to_tms (subtrees (λ e. tree L n e) (children L n))

  term_is : term_at L n ≡ assemble kind_at_lem (stated_type L n) (others L n) subterms
  unfolding tree to_tm
  term_is = refl

  pub leaf_takes : (term_row kind_at_lem).number ≤ 35 → (s : Position) → counted R s (term_at L n) ≡ none
  leaf_takes l s = ap (counted R s) term_is ∙ leaf_kind_lem kind_at_lem l R s (stated_type L n) (others L n) subterms

  pub leaf_none : (term_row kind_at_lem).number ≤ 35 → (s : Position) → no_needs ≡ cut_needs (counted R s (term_at L n))
  leaf_none l s = sym cut_none ∙ ap cut_needs (sym (leaf_takes l s))

  pub sum_start : (s : Position) → cut_needs (own_at s) ≡ cut_needs (sum_to s 0)
  unfolding sum_to joined_at_of
  sum_start s = ap cut_needs (sym (none_right (own_at s)))

  pub choice_start : (s : Position) → no_needs ≡ cut_needs (choice_to s 0)
  unfolding choice_to joined_at_of
  choice_start s = sym cut_none

  module _ (s : Position) (j : ℕ) (h : j < length (children L n)) where
    es : List ℕ
    es = children L n

    one_more : take (j + 1) (children L n) ≡ take j (children L n) ++ (get_or (children L n) j 0 ∷ [])
    one_more = rw (add-one j) (take-suc (children L n) j 0 (omega arith))

    long : j ≡ 0 + length (take j (children L n))
    long = omega (arith, length-take-le j (children L n) (omega arith))

    pub sum_next : sum_to s (j + 1) ≡ sum_to s j ⊕ adds_at_lem s j (get_or (children L n) j 0)
    unfolding sum_to
    sum_next =
        ap (λ x. own_at s ⊕ joined_at_of sums (adds_at_lem s) 0 x) one_more
        ∙ (ap (λ x. own_at s ⊕ x) (joined_snoc sums (adds_at_lem s) 0 (take j (children L n)) (get_or (children L n) j 0) j long)
        ∙ sym (plus_assoc (own_at s) (joined_at_of sums (adds_at_lem s) 0 (take j (children L n))) (adds_at_lem s j (get_or (children L n) j 0))))

    pub choice_next : choice_to s (j + 1) ≡ dearer (choice_to s j) (offers_at_lem s j (get_or (children L n) j 0))
    unfolding choice_to
    choice_next = ap (λ x. joined_at_of choices (offers_at_lem s) 0 x) one_more ∙ joined_snoc choices (offers_at_lem s) 0 (take j (children L n)) (get_or (children L n) j 0) j long

    -- A turn of the loop: the child with the role takes x.
    module _ (role : Role) (p e : ℕ) (x : Needs) (hr : role ≡ role_of j) (hp : p ≡ domain_at) (he : e ≡ get_or (children L n) j 0) (hx : x ≡ cut_needs (counted R (child_position s role p) (term_at L e))) where
      takes : x ≡ cut_needs (counted R (child_position s (role_of j) domain_at) (term_at L (get_or (children L n) j 0)))
      takes = hx ∙ ap cut_needs (ap (λ y. counted R (child_position s y p) (term_at L e)) hr ∙ (ap (λ y. counted R (child_position s (role_of j) y) (term_at L e)) hp ∙ ap (λ y. counted R (child_position s (role_of j) domain_at) (term_at L y)) he))

      pub sum_turn : (sum a r : Needs) → sum ≡ cut_needs (sum_to s j) → a ≡ added_needs s role x → r ≡ add_needs sum a → r ≡ cut_needs (sum_to s (j + 1))
      sum_turn sum a r hs ha h' =
          let c = counted R (child_position s (role_of j) domain_at) (term_at L (get_or (children L n) j 0)) in
          let q : a ≡ cut_needs (adds_at_lem s j (get_or (children L n) j 0)) = ha ∙ (ap (λ y. added_needs s y x) hr ∙ (ap (added_needs s (role_of j)) takes ∙ added_cut s (role_of j) c)) in
          h' ∙ (ap (λ y. add_needs y a) hs ∙ (ap (add_needs (cut_needs (sum_to s j))) q ∙ (sym (cut_plus (sum_to s j) (adds_at_lem s j (get_or (children L n) j 0))) ∙ ap cut_needs (sym sum_next))))

      pub choice_turn : (choice : Needs) (v : ℕ) (a r : Needs) → choice ≡ cut_needs (choice_to s j) → v ≡ branch_variables kind_at_lem (others L n) → v ≤ place_limit → a ≡ chosen_needs s role v x → r ≡ dearer_needs choice a → r ≡ cut_needs (choice_to s (j + 1))
      choice_turn choice v a r hs hv few ha h' =
          let c = counted R (child_position s (role_of j) domain_at) (term_at L (get_or (children L n) j 0)) in
          let q : a ≡ cut_needs (offers_at_lem s j (get_or (children L n) j 0)) =
          ha ∙ (ap (λ y. chosen_needs s y v x) hr ∙ (ap (chosen_needs s (role_of j) v) takes ∙ (chosen_cut s (role_of j) v c few ∙ ap (λ y. cut_needs (offered s (role_of j) y c)) hv))) in
          h' ∙ (ap (λ y. dearer_needs y a) hs ∙ (ap (dearer_needs (cut_needs (choice_to s j))) q ∙ (sym (cut_dearer (choice_to s j) (offers_at_lem s j (get_or (children L n) j 0))) ∙ ap cut_needs (sym choice_next))))

  module _ (good : LayoutOk L) (l : n < length L.terms) where
    -- The fuel does not matter.
    same_trees : (f : ℕ → Tm → Numbers) (i : ℕ) (es : List ℕ) → Below n es → joined_at_of sums (λ j e. f j (to_tm (tree L n e))) i es ≡ joined_at_of sums (λ j e. f j (term_at L e)) i es
    unfolding joined_at_of
    same_trees f i [] b = refl
    same_trees f i (e ∷ es) b =
        let m = b.0 in
        ap (λ x. f i (to_tm x) ⊕ joined_at_of sums (λ j e. f j (to_tm (tree L n e))) (suc i) es) (tree_fuel L good n (suc e) e m (omega arith) (omega arith)) ∙ ap (λ x. f i (term_at L e) ⊕ x) (same_trees f (suc i) es b.1)

    same_branches : (f : ℕ → Tm → Numbers) (i : ℕ) (es : List ℕ) → Below n es → joined_at_of choices (λ j e. f j (to_tm (tree L n e))) i es ≡ joined_at_of choices (λ j e. f j (term_at L e)) i es
    unfolding joined_at_of
    same_branches f i [] b = refl
    same_branches f i (e ∷ es) b =
        let m = b.0 in
        ap (λ x. dearer (f i (to_tm x)) (joined_at_of choices (λ j e. f j (to_tm (tree L n e))) (suc i) es)) (tree_fuel L good n (suc e) e m (omega arith) (omega arith)) ∙ ap (λ x. dearer (f i (term_at L e)) x) (same_branches f (suc i) es b.1)

    term_takes : (kind_at_lem ≡ TermKind.match → 3 ≤ length (children L n)) → (s : Position)
        → counted R s (term_at L n) ≡ own_at s ⊕ (joined_at_of sums (adds_at_lem s) 0 (children L n) ⊕ joined_at_of choices (offers_at_lem s) 0 (children L n))
    term_takes three s =
        let es = children L n in
        let full = full_of kind_at_lem subterms (λ e. three_of (λ e. tree L n e) es (three e)) in
        let f : ℕ → Tm → Numbers = λ i e. added s (role_of i) (counted R (child_position s (role_of i) domain_at) e) in
        let g : ℕ → Tm → Numbers = λ i e. offered s (role_of i) (branch_variables kind_at_lem (others L n)) (counted R (child_position s (role_of i) domain_at) e) in
        let below = (good.terms n l).below in
        let a : joined sums f 0 subterms ≡ joined_at_of sums (adds_at_lem s) 0 es = joined_at sums f (λ e. tree L n e) 0 es ∙ same_trees f 0 es below in
        let b : joined choices g 0 subterms ≡ joined_at_of choices (offers_at_lem s) 0 es = joined_at choices g (λ e. tree L n e) 0 es ∙ same_branches g 0 es below in
        ap (counted R s) term_is ∙ (by_kind R s kind_at_lem (stated_type L n) (others L n) subterms full ∙ (ap (λ x. own_at s ⊕ (x ⊕ joined choices g 0 subterms)) a ∙ ap (λ x. own_at s ⊕ (joined_at_of sums (adds_at_lem s) 0 es ⊕ x)) b))

    -- Where all children are through.
    pub through : (kind_at_lem ≡ TermKind.match → 3 ≤ length (children L n)) → (s : Position) (j : ℕ) → length (children L n) ≤ j → counted R s (term_at L n) ≡ sum_to s j ⊕ choice_to s j
    unfolding sum_to choice_to
    through three s j h =
        let es = children L n in
        let t : take j es ≡ es = take_all j es h in
        term_takes three s
        ∙ (sym (plus_assoc (own_at s) (joined_at_of sums (adds_at_lem s) 0 es) (joined_at_of choices (offers_at_lem s) 0 es))
        ∙ ap (λ x. (own_at s ⊕ joined_at_of sums (adds_at_lem s) 0 x) ⊕ joined_at_of choices (offers_at_lem s) 0 x) (sym t))

    pub all_through : (kind_at_lem ≡ TermKind.match → 3 ≤ length (children L n)) → (s : Position) (j : ℕ) → length (children L n) ≤ j → (sum choice r : Needs)
        → sum ≡ cut_needs (sum_to s j) → choice ≡ cut_needs (choice_to s j) → r ≡ add_needs sum choice → r ≡ cut_needs (counted R s (term_at L n))
    all_through three s j h sum choice r hs hc hr =
        hr ∙ (ap (λ y. add_needs y choice) hs ∙ (ap (add_needs (cut_needs (sum_to s j))) hc ∙ (sym (cut_plus (sum_to s j) (choice_to s j)) ∙ ap cut_needs (sym (through three s j h)))))
