-- What stands in the image at the offsets of a table of terms, field by field.
use Prim.Native.Nat.{ℕ, zero, suc, ◌+◌, ◌≤◌, ◌<◌}
use native.Mathlib.Omega.{arith}
use mathlib.Core.Path.{◌≡◌, sym, ap, subst, ◌∙◌}
use mathlib.Core.Bool.{true, false}
use mathlib.Core.List.{List, [], ◌∷◌, ◌++◌, append-nil}
use mathlib.Core.Option.{some}
use lib.ListN.{length, get_or}
use Rattle.calculus.specs.Syntax.{Ty}
use Rattle.image.specs.Bytes.{number_at}
use Rattle.image.specs.Kinds.{in_domains, in_operations, in_truths, any_number, Field, a_type, own, free, a_term, an_entry, domain, term, term_row, row_of, kind_of}
use Rattle.image.specs.LaidOut.{Stands, Within}
use Rattle.image.specs.Records.{kind_at, or_else, fields_at, numbers_at}
use Rattle.image.specs.Layout.{records_of}
use Rattle.image.specs.Types.{term_place, term_kind, type_no, stated_type, children}
use Rattle.image.proofs.Laid.{LayoutOk}
use Rattle.laws.proofs.Booleans.{no_path}
use Rattle.read_records.specs.Codes.{class_number, code_at}
use Rattle.read_terms.specs.Lent.{Terms, IsTerm}
use Rattle.read_terms.specs.Fields.{fields_of}
use Rattle.read_terms.proofs.Located.{good_of, image_is, term_ok}
use Rattle.write_fields.specs.Classes.{known_count, Known, is_child, child_no}
use Rattle.write_fields.proofs.Told.{child_is, no_child}
use Rattle.write_fields.proofs.Standing.{RecordRead, record_read}
use Rattle.write_fields.proofs.Standing as Standing
use Rattle.image_written.specs.TypeParts.{parts_first}
use Rattle.image_written.specs.Table.{entered, types_in, types_in_all}
use Rattle.image_written.proofs.Entering.{entered_append}
use Rattle.image_written.proofs.Steps.{entered_snoc}
use Rattle.image_written.proofs.Fronts.{tree_at, trees, sorts_at, numbers_of, kids, kids_next, kids_all, tree_at_lem}

-- A field in its range that names a child names a lower one.
names_lower : (domains types terms : ℕ) (f : Field) (v : ℕ) → Within domains types terms f v → is_child (class_number f) v ≡ true → child_no (class_number f) v < terms
names_lower domains types terms a_type v w h = no_path (sym h)
names_lower domains types terms (own in_domains) v w h = no_path (sym h)
names_lower domains types terms (own in_operations) v w h = no_path (sym h)
names_lower domains types terms (own in_truths) v w h = no_path (sym h)
names_lower domains types terms (own any_number) v w h = no_path (sym h)
names_lower domains types terms (a_term b) v w h = w
names_lower domains types terms an_entry zero w h = no_path (sym h)
names_lower domains types terms an_entry (suc v) w h = omega arith

module _ {b table : List ℕ} (T : Terms b table) {n : ℕ} (h : IsTerm b n) where
  abbrev o : ℕ
  o = term_place (records_of b) n

  pub good : LayoutOk (records_of b)
  good = good_of b T.laid_out

  same : (records_of b).image ≡ b
  same = image_is b T.laid_out

  kind_is : kind_at b o ≡ term (term_kind (records_of b) n)
  kind_is = ap (λ q. or_else q domain) (term_ok T h).kind

  kind_known : kind_of (number_at b o) ≡ some (kind_at b o)
  kind_known = (term_ok T h).kind ∙ ap some (sym kind_is)

  stands : Stands b (row_of (kind_at b o)) o
  stands = rw kind_is (term_ok T h).is.stands

  pub known : Known (number_at b o) (fields_of b n)
  known = Standing.known kind_known stands

  -- Its record, read.
  pub read : {p x m : ℕ} {fs : List ℕ} → p ≡ number_at b o → fs ≡ fields_of b n → (x ≡ code_at p) × (m ≡ known_count p fs) → RecordRead fs x m (sorts_at (records_of b) n) (numbers_of (records_of b) n)
  read {p} {x} {m} {fs} e f g =
      subst (λ i. RecordRead fs x m (fields_at i o (term_row (term_kind (records_of b) n))) (numbers_at i o (term_row (term_kind (records_of b) n)))) (sym same)
      (subst (λ k. RecordRead fs x m (fields_at b o (row_of k)) (numbers_at b o (row_of k))) kind_is (record_read kind_known stands e f g))

  pub typed : type_no (records_of b) n < length (records_of b).types
  typed = (good.terms n h).typed

  -- A field of the class c and the number v that names a child: one child more, and a lower one.
  module _ (i : ℕ) (l : i < length (sorts_at (records_of b) n)) {c v : ℕ} (e : c ≡ class_number (get_or (sorts_at (records_of b) n) i free)) (f : v ≡ get_or (numbers_of (records_of b) n) i 0) where
    pub next_child : is_child c v ≡ true → kids (records_of b) n (i + 1) ≡ kids (records_of b) n i ++ (child_no c v ∷ [])
    next_child q =
        let z : i + 1 ≡ suc i = omega arith in
        let g : Field = get_or (sorts_at (records_of b) n) i free in
        let w : ℕ = get_or (numbers_of (records_of b) n) i 0 in
        let q' : is_child (class_number g) w ≡ true = subst (λ y. is_child (class_number g) y ≡ true) f (subst (λ y. is_child y v ≡ true) e q) in
        ap (λ j. kids (records_of b) n j) z ∙ kids_next (records_of b) n i l
        ∙ ap (λ xs. kids (records_of b) n i ++ xs) (child_is g w q' ∙ ap (λ y. child_no y w ∷ []) (sym e) ∙ ap (λ y. child_no c y ∷ []) (sym f))

    pub child_lower : is_child c v ≡ true → child_no c v < n
    child_lower q =
        let g : Field = get_or (sorts_at (records_of b) n) i free in
        let w : ℕ = get_or (numbers_of (records_of b) n) i 0 in
        let q' : is_child (class_number g) w ≡ true = subst (λ y. is_child (class_number g) y ≡ true) f (subst (λ y. is_child y v ≡ true) e q) in
        subst (λ y. child_no y v < n) (sym e) (subst (λ y. child_no (class_number g) y < n) (sym f) (names_lower (length (records_of b).domains) (length (records_of b).types) n g w ((good.terms n h).is.fields i l) q'))

    pub next_same : is_child c v ≡ false → kids (records_of b) n i ≡ kids (records_of b) n (i + 1)
    next_same q =
        let z : i + 1 ≡ suc i = omega arith in
        let g : Field = get_or (sorts_at (records_of b) n) i free in
        let w : ℕ = get_or (numbers_of (records_of b) n) i 0 in
        let q' : is_child (class_number g) w ≡ false = subst (λ y. is_child (class_number g) y ≡ false) f (subst (λ y. is_child y v ≡ false) e q) in
        sym (ap (λ j. kids (records_of b) n j) z ∙ kids_next (records_of b) n i l ∙ ap (λ xs. kids (records_of b) n i ++ xs) (no_child g w q') ∙ append-nil (kids (records_of b) n i))

-- The walk over the first fields.
pub walked_child : (b : List ℕ) (n i c : ℕ) (T U : List Ty) → kids (records_of b) n (i + 1) ≡ kids (records_of b) n i ++ (c ∷ []) → U ≡ entered T (types_in_all (trees (records_of b) (kids (records_of b) n i)))
    → entered U (types_in (tree_at (records_of b) c)) ≡ entered T (types_in_all (trees (records_of b) (kids (records_of b) n (i + 1))))
walked_child b n i c T U e u =
    ap (λ X. entered X (types_in (tree_at (records_of b) c))) u ∙ sym (entered_snoc (λ j. tree_at (records_of b) j) T (kids (records_of b) n i) c) ∙ ap (λ es. entered T (types_in_all (trees (records_of b) es))) (sym e)

pub walked_all : {b table : List ℕ} (M : Terms b table) {n : ℕ} (h : IsTerm b n) (i : ℕ) (T U : List Ty) → length (sorts_at (records_of b) n) ≤ i → U ≡ entered T (types_in_all (trees (records_of b) (kids (records_of b) n i)))
    → entered U (parts_first (stated_type (records_of b) n)) ≡ entered T (types_in (tree_at (records_of b) n))
unfolding types_in
walked_all {b} M {n} h i T U l u =
    ap (λ X. entered X (parts_first (stated_type (records_of b) n))) (u ∙ ap (λ es. entered T (types_in_all (trees (records_of b) es))) (kids_all (records_of b) n i l))
    ∙ sym (entered_append T (types_in_all (trees (records_of b) (children (records_of b) n))) (parts_first (stated_type (records_of b) n)))
    ∙ ap (λ e. entered T (types_in e)) (sym (tree_at_lem (records_of b) (good M h) n h))
