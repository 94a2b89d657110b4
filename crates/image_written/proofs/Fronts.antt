-- A term of a layout, field by field: the programs of the children that its first fields name, and the numbers that these fields have when it is written anew.
use Prim.Native.Nat.{ℕ, zero, suc, ◌+◌, ◌-◌, ◌≤◌, ◌<◌}
use native.Mathlib.Omega.{arith}
use mathlib.Core.Path.{◌≡◌, refl, sym, ap, ◌∙◌}
use mathlib.Core.List.{List, [], ◌∷◌, ◌++◌, append_assoc, append-nil}
use lib.ListN.{length, get_or, take, drop}
use lib.Seq.{take_all}
use Rattle.calculus.specs.Syntax.{Ty}
use Rattle.image.specs.Bytes.{length_at}
use Rattle.image.specs.Kinds.{Field, a_type, own, free, a_term, an_entry, TermKind, term_row, fields_of}
use Rattle.image.specs.Records.{Layout, times, fields_at, numbers_at, as_child, as_other, given}
use Rattle.image.specs.Types.{term_place, term_kind, type_no, type_of, stated_type, others, children, root_of}
use Rattle.image.specs.TermFields.{next, rest, filled, term_fields}
use Rattle.image.specs.Program.{Program, Programs, node, subtrees, tree, program}
use Rattle.laws.proofs.Booleans.{no_path}
use Rattle.image.proofs.Words.{words_length}
use Rattle.image.proofs.Laid.{LayoutOk, Below, type_there}
use Rattle.image.proofs.Fuel.{tree_fuel}
use Rattle.image.proofs.Offsets.{number_at_lem}
use Rattle.image.proofs.TermFields.{times_for_lem, read_filled}
use Rattle.image_written.specs.Table.{place}
use Rattle.image_written.specs.Written.{terms, terms_all, roots}

-- What the first fields give, one field more.
pub given_next : (of : Field → ℕ → List ℕ) (fs : List Field) (ws : List ℕ) (i : ℕ) → length ws ≡ length fs → i < length fs
    → given of (take (suc i) fs) (take (suc i) ws) ≡ given of (take i fs) (take i ws) ++ of (get_or fs i free) (get_or ws i 0)
given_next of [] ws i l h = absurd (omega arith)
given_next of (f ∷ fs) [] i l h = absurd (omega arith)
given_next of (f ∷ fs) (w ∷ ws) zero l h = append-nil (of f w)
given_next of (f ∷ fs) (w ∷ ws) (suc i) l h = ap (λ xs. of f w ++ xs) (given_next of fs ws i (omega arith) (omega arith)) ∙ sym (append_assoc (of f w) (given of (take i fs) (take i ws)) (of (get_or fs i free) (get_or ws i 0)))

-- What some fields give, and the rest.
pub given_split : (of : Field → ℕ → List ℕ) (fs : List Field) (ws : List ℕ) (i : ℕ) → length ws ≡ length fs → given of fs ws ≡ given of (take i fs) (take i ws) ++ given of (drop i fs) (drop i ws)
given_split of fs ws zero l = refl
given_split of [] ws (suc i) l = refl
given_split of (f ∷ fs) [] (suc i) l = absurd (omega arith)
given_split of (f ∷ fs) (w ∷ ws) (suc i) l = ap (λ xs. of f w ++ xs) (given_split of fs ws i (omega arith)) ∙ sym (append_assoc (of f w) (given of (take i fs) (take i ws)) (given of (drop i fs) (drop i ws)))

-- A field that is a type is filled with it.
type_filled : (fs : List Field) (t : ℕ) (vs es : List ℕ) (i : ℕ) → i < length fs → get_or fs i free ≡ a_type → get_or (filled fs t vs es) i 0 ≡ t
unfolding filled
type_filled [] t vs es i l e = absurd (omega arith)
type_filled (a_type ∷ fs) t vs es zero l e = refl
type_filled (own r ∷ fs) t vs es zero l e = let z : own r ≡ a_type = e in no_path cc
type_filled (a_term b ∷ fs) t vs es zero l e = let z : a_term b ≡ a_type = e in no_path cc
type_filled (an_entry ∷ fs) t vs es zero l e = let z : an_entry ≡ a_type = e in no_path cc
type_filled (a_type ∷ fs) t vs es (suc i) l e = type_filled fs t vs es i (omega arith) e
type_filled (own r ∷ fs) t vs es (suc i) l e = type_filled fs t (rest vs) es i (omega arith) e
type_filled (a_term b ∷ fs) t vs es (suc i) l e = type_filled fs t vs (rest es) i (omega arith) e
type_filled (an_entry ∷ fs) t [] es (suc i) l e = type_filled fs t [] es i (omega arith) e
type_filled (an_entry ∷ fs) t (zero ∷ vs) es (suc i) l e = type_filled fs t vs es i (omega arith) e
type_filled (an_entry ∷ fs) t (suc v ∷ vs) es (suc i) l e = type_filled fs t vs (rest es) i (omega arith) e

module _ (L : Layout) where
  -- The program of term n.
  abbrev pub tree_at : ℕ → Program
  tree_at n = tree L (suc n) n

  abbrev pub trees : List ℕ → Programs
  trees es = subtrees (λ e. tree_at e) es

  -- The fields of term n, and the children that the first i of them name.
  abbrev pub sorts_at : ℕ → List Field
  sorts_at n = fields_at L.image (term_place L n) (term_row (term_kind L n))

  abbrev pub numbers_of : ℕ → List ℕ
  numbers_of n = numbers_at L.image (term_place L n) (term_row (term_kind L n))

  abbrev pub kids : ℕ → ℕ → List ℕ
  kids n i = given as_child (take i (sorts_at n)) (take i (numbers_of n))

  counted : (n : ℕ) → length (numbers_of n) ≡ length (sorts_at n)
  counted n = words_length L.image _ _

  pub kids_next : (n i : ℕ) → i < length (sorts_at n) → kids n (suc i) ≡ kids n i ++ as_child (get_or (sorts_at n) i free) (get_or (numbers_of n) i 0)
  kids_next n i h = given_next as_child (sorts_at n) (numbers_of n) i (counted n) h

  pub kids_all : (n i : ℕ) → length (sorts_at n) ≤ i → kids n i ≡ children L n
  kids_all n i h =
      let c = counted n in
      ap (λ fs. given as_child fs (take i (numbers_of n))) (take_all i (sorts_at n) h) ∙ ap (λ ws. given as_child (sorts_at n) ws) (take_all i (numbers_of n) (omega arith))

  module _ (good : LayoutOk L) where
    same_trees : (n : ℕ) → n ≤ length L.terms → (es : List ℕ) → Below n es → subtrees (λ e. tree L n e) es ≡ trees es
    same_trees n l [] b = refl
    same_trees n l (e ∷ es) b =
        let x : tree L n e ≡ tree_at e = tree_fuel L good n (suc e) e b.0 (omega arith) (let z = b.0 in omega arith) in
        let y = same_trees n l es b.1 in
        cc

    pub tree_at_lem : (n : ℕ) → n < length L.terms → tree_at n ≡ node (term_kind L n) (stated_type L n) (others L n) (trees (children L n))
    unfolding tree
    tree_at_lem n h = ap (λ es. node (term_kind L n) (stated_type L n) (others L n) es) (same_trees n (omega arith) (children L n) (good.terms n h).below)

    pub program_at : 0 < length L.terms → program L ≡ tree_at (root_of L)
    unfolding program
    program_at h = let z : length L.terms ≡ suc (root_of L) = omega arith in ap (λ f. tree L f (root_of L)) z

  -- The record of term n is filled with its type, its others and its children; so a field that is a type is the type that it states.
  abbrev groups : ℕ → ℕ
  groups n = times (term_row (term_kind L n)) (length_at L.image (term_place L n))

  no_group : (n : ℕ) → length (term_row (term_kind L n)).group ≡ 0 → groups n ≡ 0
  no_group n z = rw z refl

  refilled : (n : ℕ) → filled (sorts_at n) (type_no L n) (others L n) (children L n) ≡ numbers_of n
  unfolding term_fields
  refilled n =
      let k : TermKind = term_kind L n in
      let o : get_or (numbers_of n) 0 0 ≡ type_no L n = number_at_lem L.image (term_place L n) (term_row k) 0 (type_there k L.image (term_place L n)).1 in
      ap (λ t. filled (sorts_at n) t (others L n) (children L n)) (sym o)
      ∙ ap (λ g. filled (fields_of (term_row k) g) (get_or (numbers_of n) 0 0) (others L n) (children L n)) (sym (times_for_lem k (groups n) (numbers_of n) (counted n) (no_group n) (children L n) refl))
      ∙ read_filled k (groups n) (numbers_of n) (counted n) (no_group n)

  pub type_field_lem : (n i : ℕ) → i < length (sorts_at n) → get_or (sorts_at n) i free ≡ a_type → get_or (numbers_of n) i 0 ≡ type_no L n
  type_field_lem n i l e = ap (λ ws. get_or ws i 0) (sym (refilled n)) ∙ type_filled (sorts_at n) (type_no L n) (others L n) (children L n) i l e

  pub terms_append : (xs ys : List ℕ) → terms_all (trees (xs ++ ys)) ≡ terms_all (trees xs) + terms_all (trees ys)
  unfolding terms
  terms_append [] ys = omega arith
  terms_append (x ∷ xs) ys = let a = terms_append xs ys in omega arith

  -- The numbers of fields that are written anew over the table T, where the children are written from number q on.
  module _ (T : List Ty) where
    abbrev pub new_field : ℕ → Field → ℕ → ℕ
    new_field q a_type w = place T (type_of L w)
    new_field q (own r) w = w
    new_field q (a_term b) w = q + terms (tree_at w) - 1
    new_field q an_entry zero = 0
    new_field q an_entry (suc w) = suc (q + terms (tree_at w) - 1)

    unfoldable pub new_fields : List Field → List ℕ → ℕ → List ℕ
    new_fields [] ws q = []
    new_fields (f ∷ fs) [] q = []
    new_fields (f ∷ fs) (w ∷ ws) q = new_field q f w ∷ new_fields fs ws (q + terms_all (trees (as_child f w)))

    new_next : (fs : List Field) (ws : List ℕ) (i q : ℕ) → length ws ≡ length fs → i < length fs
        → new_fields (take (suc i) fs) (take (suc i) ws) q ≡ new_fields (take i fs) (take i ws) q ++ (new_field (q + terms_all (trees (given as_child (take i fs) (take i ws)))) (get_or fs i free) (get_or ws i 0) ∷ [])
    unfolding new_fields terms
    new_next [] ws i q l h = absurd (omega arith)
    new_next (f ∷ fs) [] i q l h = absurd (omega arith)
    new_next (f ∷ fs) (w ∷ ws) zero q l h = let z : q ≡ q + 0 = omega arith in ap (λ p. new_field p f w ∷ []) z
    new_next (f ∷ fs) (w ∷ ws) (suc i) q l h =
        let a = terms_append (as_child f w) (given as_child (take i fs) (take i ws)) in
        let z : q + terms_all (trees (as_child f w)) + terms_all (trees (given as_child (take i fs) (take i ws))) ≡ q + terms_all (trees (as_child f w ++ given as_child (take i fs) (take i ws))) = omega arith in
        ap (λ xs. new_field q f w ∷ xs) (new_next fs ws i (q + terms_all (trees (as_child f w))) (omega arith) (omega arith) ∙ ap (λ p. new_fields (take i fs) (take i ws) (q + terms_all (trees (as_child f w))) ++ (new_field p (get_or fs i free) (get_or ws i 0) ∷ [])) z)

    -- They fill the record.
    new_filled : (fs : List Field) (ws : List ℕ) (t q : ℕ) → length ws ≡ length fs → filled fs t (given as_other fs ws) (given as_child fs ws) ≡ ws
        → new_fields fs ws q ≡ filled fs (place T (type_of L t)) (given as_other fs ws) (roots q (trees (given as_child fs ws)))
    unfolding new_fields filled terms
    new_filled [] ws t q l h = refl
    new_filled (f ∷ fs) [] t q l h = absurd (omega arith)
    new_filled (a_type ∷ fs) (w ∷ ws) t q l h =
        let e : t ≡ w = ap next h in
        let z : q + 0 ≡ q = omega arith in
        let r = new_filled fs ws t q (omega arith) (ap rest h) in
        let x : new_fields fs ws (q + 0) ≡ new_fields fs ws q = ap (λ p. new_fields fs ws p) z in
        let y : place T (type_of L w) ≡ place T (type_of L t) = ap (λ u. place T (type_of L u)) (sym e) in
        cc
    new_filled (own x ∷ fs) (w ∷ ws) t q l h =
        let z : q + 0 ≡ q = omega arith in
        ap (λ xs. w ∷ xs) (ap (λ p. new_fields fs ws p) z ∙ new_filled fs ws t q (omega arith) (ap rest h))
    new_filled (a_term x ∷ fs) (w ∷ ws) t q l h =
        let z : q + (terms (tree_at w) + 0) ≡ q + terms (tree_at w) = omega arith in
        ap (λ xs. (q + terms (tree_at w) - 1) ∷ xs) (ap (λ p. new_fields fs ws p) z ∙ new_filled fs ws t (q + terms (tree_at w)) (omega arith) (ap rest h))
    new_filled (an_entry ∷ fs) (zero ∷ ws) t q l h =
        let z : q + 0 ≡ q = omega arith in
        ap (λ xs. 0 ∷ xs) (ap (λ p. new_fields fs ws p) z ∙ new_filled fs ws t q (omega arith) (ap rest h))
    new_filled (an_entry ∷ fs) (suc w ∷ ws) t q l h =
        let z : q + (terms (tree_at w) + 0) ≡ q + terms (tree_at w) = omega arith in
        ap (λ xs. suc (q + terms (tree_at w) - 1) ∷ xs) (ap (λ p. new_fields fs ws p) z ∙ new_filled fs ws t (q + terms (tree_at w)) (omega arith) (ap rest h))

    -- The fields of term n, and their first ones.
    pub front_next : (n i q : ℕ) → i < length (sorts_at n)
        → new_fields (take (suc i) (sorts_at n)) (take (suc i) (numbers_of n)) q ≡ new_fields (take i (sorts_at n)) (take i (numbers_of n)) q ++ (new_field (q + terms_all (trees (kids n i))) (get_or (sorts_at n) i free) (get_or (numbers_of n) i 0) ∷ [])
    front_next n i q h = new_next (sorts_at n) (numbers_of n) i q (counted n) h

    pub front_all : (n i q : ℕ) → length (sorts_at n) ≤ i → new_fields (take i (sorts_at n)) (take i (numbers_of n)) q ≡ term_fields (term_kind L n) (place T (stated_type L n)) (others L n) (roots q (trees (children L n)))
    unfolding term_fields
    front_all n i q h =
        let k : TermKind = term_kind L n in
        let c = counted n in
        ap (λ fs. new_fields fs (take i (numbers_of n)) q) (take_all i (sorts_at n) h) ∙ ap (λ ws. new_fields (sorts_at n) ws q) (take_all i (numbers_of n) (omega arith))
        ∙ new_filled (sorts_at n) (numbers_of n) (type_no L n) q c (refilled n)
        ∙ ap (λ g. filled (fields_of (term_row k) g) (place T (stated_type L n)) (others L n) (roots q (trees (children L n)))) (sym (times_for_lem k (groups n) (numbers_of n) c (no_group n) (roots q (trees (children L n))) (same_length q (children L n))))
      where
        same_length : (q : ℕ) (es : List ℕ) → length (roots q (trees es)) ≡ length es
        same_length q [] = refl
        same_length q (e ∷ es) = ap suc (same_length (q + terms (tree_at e)) es)
