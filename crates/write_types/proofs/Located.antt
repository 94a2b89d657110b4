-- What stands in the image at the offsets of a table of types.
use Prim.Native.Nat.{ℕ, zero, suc, ◌≤◌, ◌<◌}
use native.Mathlib.Omega.{arith}
use mathlib.Core.Path.{◌≡◌, refl, sym, ap, subst, ◌∙◌}
use mathlib.Core.List.{List, [], ◌∷◌, ◌++◌, append_assoc, append-nil}
use mathlib.Core.Option.{some}
use lib.ListN.{length, get_or, take}
use lib.Seq.{take_all}
use Rattle.calculus.specs.Syntax.{Ty}
use Rattle.image.specs.Bytes.{length_at, number_at}
use Rattle.image.specs.Kinds.{in_domains, in_operations, in_truths, any_number, Field, a_type, own, free, a_term, an_entry, domain, type, type_row_of, row_of, kind_of}
use Rattle.image.specs.Records.{kind_at, or_else, fields_at, numbers_at}
use Rattle.image.specs.LaidOut.{Stands}
use Rattle.image.specs.Layout.{records_of}
use Rattle.image.specs.Types.{type_place, type_kind, type_fields, type_field, type_of}
use Rattle.image.proofs.Laid.{LayoutOk}
use Rattle.read_records.specs.Codes.{class_number, code_at}
use Rattle.read_terms.specs.Lent.{TypeOffsets, IsType}
use Rattle.read_terms.specs.Methods.{type_fields_of}
use Rattle.read_terms.proofs.Located.{good_of, image_is}
use Rattle.read_terms.proofs.TypeRecords.{type_ok}
use Rattle.write_fields.specs.Classes.{known_count, Known}
use Rattle.write_fields.proofs.Standing.{RecordRead, record_read}
use Rattle.write_fields.proofs.Standing as Standing
use Rattle.image_written.specs.TypeParts.{at, parts_of, parts_first, joined}
use Rattle.image_written.proofs.TypeParts.{map_parts}
use Rattle.image_written.proofs.Taken.{part_from, parts_from, sorts_of, sorts, fields_there, type_parts}

-- What the known fields of type t are.
abbrev pub sorts_at : List ℕ → ℕ → List Field
sorts_at b t = sorts_of (type_kind (records_of b) t) (length_at (records_of b).image (type_place (records_of b) t))

module _ {b table : List ℕ} (O : TypeOffsets b table) {t : ℕ} (h : IsType b t) where
  abbrev o : ℕ
  o = type_place (records_of b) t

  pub good : LayoutOk (records_of b)
  good = good_of b O.laid_out

  same : (records_of b).image ≡ b
  same = image_is b O.laid_out

  kind_is : kind_at b o ≡ type (type_kind (records_of b) t)
  kind_is = ap (λ q. or_else q domain) (type_ok O h).kind

  kind_known : kind_of (number_at b o) ≡ some (kind_at b o)
  kind_known = (type_ok O h).kind ∙ ap some (sym kind_is)

  stands : Stands b (row_of (kind_at b o)) o
  stands = rw kind_is (type_ok O h).is.stands

  pub known : Known (number_at b o) (type_fields_of b t)
  known = Standing.known kind_known stands

  -- Its record, read.
  pub read : {p x m : ℕ} {fs : List ℕ} → p ≡ number_at b o → fs ≡ type_fields_of b t → (x ≡ code_at p) × (m ≡ known_count p fs) → RecordRead fs x m (sorts_at b t) (type_fields (records_of b) t)
  read {p} {x} {m} {fs} e f g =
      subst (λ i. RecordRead fs x m (fields_at i o (type_row_of (type_kind (records_of b) t))) (numbers_at i o (type_row_of (type_kind (records_of b) t)))) (sym same)
      (subst (λ k. RecordRead fs x m (fields_at b o (row_of k)) (numbers_at b o (row_of k))) kind_is (record_read kind_known stands e f g))

  -- A field that names a type names a lower one.
  pub lower : (i : ℕ) → get_or (sorts (records_of b) good t) i free ≡ a_type → type_field (records_of b) t i < t
  lower i e = (good.types t h).lower i e

-- The class of types tells a type.
pub class_type : (f : Field) → class_number f ≡ 0 → f ≡ a_type
class_type a_type e = refl
class_type (own in_domains) e = absurd (omega arith)
class_type (own in_operations) e = absurd (omega arith)
class_type (own in_truths) e = absurd (omega arith)
class_type (own any_number) e = absurd (omega arith)
class_type (a_term b) e = absurd (omega arith)
class_type an_entry e = absurd (omega arith)

pub other_class : (f : Field) (v : ℕ) (g : ℕ → Ty) → (class_number f ≡ 0 → ⊥) → part_from g f v ≡ at v
other_class a_type v g e = absurd (e refl)
other_class (own r) v g e = refl
other_class (a_term b) v g e = refl
other_class an_entry v g e = refl

-- The parts that the first i fields of a type name, with what is behind each.
unfoldable pub before : (g : ℕ → Ty) → List Field → List ℕ → ℕ → List Ty
before g fs vs i = joined (map_parts (λ a. parts_first a) (parts_from g (take i fs) (take i vs)))

module _ (g : ℕ → Ty) where
  before_next : (fs : List Field) (vs : List ℕ) (i : ℕ) → length vs ≡ length fs → i < length fs → before g fs vs (suc i) ≡ before g fs vs i ++ joined (map_parts (λ a. parts_first a) (part_from g (get_or fs i free) (get_or vs i 0) ∷ []))
  unfolding before
  before_next [] vs i l h = absurd (omega arith)
  before_next (f ∷ fs) [] i l h = absurd (omega arith)
  before_next (f ∷ fs) (v ∷ vs) zero l h = refl
  before_next (f ∷ fs) (v ∷ vs) (suc i) l h = behind f v (before_next fs vs i (omega arith) (omega arith))
    where
      behind : (f : Field) (v : ℕ) → before g fs vs (suc i) ≡ before g fs vs i ++ joined (map_parts (λ a. parts_first a) (part_from g (get_or fs i free) (get_or vs i 0) ∷ []))
          → joined (map_parts (λ a. parts_first a) (part_from g f v ∷ parts_from g (take (suc i) fs) (take (suc i) vs))) ≡ joined (map_parts (λ a. parts_first a) (part_from g f v ∷ parts_from g (take i fs) (take i vs))) ++ joined (map_parts (λ a. parts_first a) (part_from g (get_or fs i free) (get_or vs i 0) ∷ []))
      behind a_type v e = ap (λ xs. parts_first (g v) ++ xs) e ∙ sym (append_assoc (parts_first (g v)) (before g fs vs i) _)
      behind (own r) v e = e
      behind (a_term b) v e = e
      behind an_entry v e = e

  pub before_type : (fs : List Field) (vs : List ℕ) (i : ℕ) → length vs ≡ length fs → i < length fs → get_or fs i free ≡ a_type → before g fs vs (suc i) ≡ before g fs vs i ++ parts_first (g (get_or vs i 0))
  before_type fs vs i l h e = before_next fs vs i l h ∙ ap (λ f. before g fs vs i ++ joined (map_parts (λ a. parts_first a) (part_from g f (get_or vs i 0) ∷ []))) e ∙ ap (λ xs. before g fs vs i ++ xs) (append-nil (parts_first (g (get_or vs i 0))))

  pub before_other : (fs : List Field) (vs : List ℕ) (i : ℕ) → length vs ≡ length fs → i < length fs → (class_number (get_or fs i free) ≡ 0 → ⊥) → before g fs vs (suc i) ≡ before g fs vs i
  before_other fs vs i l h e = before_next fs vs i l h ∙ ap (λ p. before g fs vs i ++ joined (map_parts (λ a. parts_first a) (p ∷ []))) (other_class (get_or fs i free) (get_or vs i 0) g e) ∙ append-nil (before g fs vs i)

-- Of type t of an image.
abbrev pub front_of : List ℕ → ℕ → ℕ → List Ty
front_of b t i = before (λ a. type_of (records_of b) a) (sorts_at b t) (type_fields (records_of b) t) i

-- All fields name all parts.
pub before_all : {b table : List ℕ} (O : TypeOffsets b table) {t : ℕ} (h : IsType b t) (i : ℕ) → length (sorts_at b t) ≤ i
    → front_of b t i ≡ joined (map_parts (λ a. parts_first a) (parts_of (type_of (records_of b) t)))
unfolding before
before_all {b} O {t} h i l =
    let c = fields_there (records_of b) (good O h) t in
    ap (λ fs. joined (map_parts (λ a. parts_first a) (parts_from (λ a. type_of (records_of b) a) fs (take i (type_fields (records_of b) t))))) (take_all i (sorts (records_of b) (good O h) t) l)
    ∙ ap (λ vs. joined (map_parts (λ a. parts_first a) (parts_from (λ a. type_of (records_of b) a) (sorts (records_of b) (good O h) t) vs))) (take_all i (type_fields (records_of b) t) (omega arith))
    ∙ ap (λ ps. joined (map_parts (λ a. parts_first a) ps)) (sym (type_parts (records_of b) (good O h) t h))
