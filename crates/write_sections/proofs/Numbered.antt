-- A type's record written anew, field by field: the numbers of its first fields, and of all.
use Prim.Native.Nat.{ℕ, zero, suc, ◌+◌, ◌*◌, ◌≤◌, ◌<◌}
use native.Mathlib.Omega.{arith}
use mathlib.Core.Path.{◌≡◌, refl, sym, ap, subst, ◌∙◌}
use mathlib.Core.Bool.{true}
use mathlib.Core.List.{List, [], ◌∷◌, ◌++◌}
use lib.ListN.{length, get_or, set, take}
use lib.Seq.{take-suc-set, take_all}
use Rattle.calculus.specs.Syntax.{Ty}
use Rattle.image.specs.Bytes.{number_at}
use Rattle.image.specs.Kinds.{in_domains, in_operations, in_truths, any_number, Field, a_type, own, free, a_term, an_entry, type_row_of}
use Rattle.image.specs.Records.{Layout}
use Rattle.image.specs.Layout.{records_of}
use Rattle.image.specs.Types.{type_place, type_fields, type_field, type_of, head_of}
use Rattle.image.proofs.Laid.{image_kept}
use Rattle.image.proofs.TypeNumbers.{kind_head}
use Rattle.laws.proofs.Booleans.{no_path}
use Rattle.base_bytes.specs.Bytes.{over}
use Rattle.read_records.specs.Codes.{class_number}
use Rattle.read_terms.specs.Lent.{TypeOffsets, IsType}
use Rattle.image_written.specs.TypeParts.{parts_of}
use Rattle.image_written.specs.Table.{place, has, part_no, part_nos}
use Rattle.image_written.specs.Records.{little, bytes}
use Rattle.image_written.specs.Written.{type_record}
use Rattle.image_written.proofs.Writable.{PartsIn}
use Rattle.image_written.proofs.Taken.{part_from, parts_from, fields_there, type_parts}
use Rattle.write_types.specs.Entries.{Placed, kept_number}
use Rattle.write_types.proofs.Located.{good, sorts_at, class_type}
use Rattle.write_sections.specs.Sections.{type_size, WroteType}

-- The parts of fields that are listed.
module _ (g : ℕ → Ty) where
  parts_count : (fs : List Field) (ws : List ℕ) → length ws ≡ length fs → length (parts_from g fs ws) ≡ length fs
  parts_count [] ws l = refl
  parts_count (f ∷ fs) [] l = absurd (omega arith)
  parts_count (f ∷ fs) (w ∷ ws) l = ap suc (parts_count fs ws (omega arith))

  parts_next : (T : List Ty) (fs : List Field) (ws : List ℕ) (i : ℕ) → length ws ≡ length fs → i < length fs
      → part_nos T (parts_from g (take (suc i) fs) (take (suc i) ws)) ≡ part_nos T (parts_from g (take i fs) (take i ws)) ++ (part_no T (part_from g (get_or fs i free) (get_or ws i 0)) ∷ [])
  parts_next T [] ws i l h = absurd (omega arith)
  parts_next T (f ∷ fs) [] i l h = absurd (omega arith)
  parts_next T (f ∷ fs) (w ∷ ws) zero l h = refl
  parts_next T (f ∷ fs) (w ∷ ws) (suc i) l h = ap (λ ns. part_no T (part_from g f w) ∷ ns) (parts_next T fs ws i (omega arith) (omega arith))

  -- A field that is a type names one of the table.
  part_there : (n : ℕ) (T : List Ty) (fs : List Field) (ws : List ℕ) (i : ℕ) → length ws ≡ length fs → i < length fs → PartsIn n T (parts_from g fs ws) → get_or fs i free ≡ a_type → has T (g (get_or ws i 0)) ≡ true
  part_there n T [] ws i l h p e = absurd (omega arith)
  part_there n T (f ∷ fs) [] i l h p e = absurd (omega arith)
  part_there n T (a_type ∷ fs) (w ∷ ws) zero l h p e = p.0
  part_there n T (own r ∷ fs) (w ∷ ws) zero l h p e = let z : own r ≡ a_type = e in no_path cc
  part_there n T (a_term b ∷ fs) (w ∷ ws) zero l h p e = let z : a_term b ≡ a_type = e in no_path cc
  part_there n T (an_entry ∷ fs) (w ∷ ws) zero l h p e = let z : an_entry ≡ a_type = e in no_path cc
  part_there n T (a_type ∷ fs) (w ∷ ws) (suc i) l h p e = part_there n T fs ws i (omega arith) (omega arith) p.1 e
  part_there n T (own r ∷ fs) (w ∷ ws) (suc i) l h p e = part_there n T fs ws i (omega arith) (omega arith) p.1 e
  part_there n T (a_term b ∷ fs) (w ∷ ws) (suc i) l h p e = part_there n T fs ws i (omega arith) (omega arith) p.1 e
  part_there n T (an_entry ∷ fs) (w ∷ ws) (suc i) l h p e = part_there n T fs ws i (omega arith) (omega arith) p.1 e

  kept_part : (places : List ℕ) (T : List Ty) (f : Field) (w : ℕ) → (f ≡ a_type → get_or places w 0 ≡ place T (g w)) → kept_number places (class_number f) w ≡ part_no T (part_from g f w)
  kept_part places T a_type w e = e refl
  kept_part places T (own in_domains) w e = refl
  kept_part places T (own in_operations) w e = refl
  kept_part places T (own in_truths) w e = refl
  kept_part places T (own any_number) w e = refl
  kept_part places T (a_term b) w e = refl
  kept_part places T an_entry w e = refl

-- The first i fields of type t have been looked at: their numbers stand in the table of numbers.
pub record Numbered (b places : List ℕ) (t i : ℕ) (numbers : List ℕ) : Type 0 where
  pub told : (T : List Ty) → Placed b places T → PartsIn (length (records_of b).domains) T (parts_of (type_of (records_of b) t))
      → take i numbers ≡ part_nos T (parts_from (λ a. type_of (records_of b) a) (take i (sorts_at b t)) (take i (type_fields (records_of b) t)))

pub numbered_none : (b places : List ℕ) (t : ℕ) (numbers : List ℕ) → Numbered b places t 0 numbers
numbered_none b places t numbers = record { told = λ T P Q. refl }

module _ {b table : List ℕ} (O : TypeOffsets b table) {t : ℕ} (h : IsType b t) where
  abbrev L : Layout
  L = records_of b

  abbrev of : ℕ → Ty
  of a = type_of L a

  counted : length (type_fields L t) ≡ length (sorts_at b t)
  counted = fields_there L (good O h) t

  parts_are : parts_of (type_of L t) ≡ parts_from of (sorts_at b t) (type_fields L t)
  parts_are = type_parts L (good O h) t h

  -- It takes as many bytes as its fields say.
  pub size_is : type_size b t ≡ 4 + 2 * length (sorts_at b t)
  size_is = ap (λ ps. 4 + 2 * length ps) parts_are ∙ ap (λ n. 4 + 2 * n) (parts_count of (sorts_at b t) (type_fields L t) counted)

  -- One field more, of the class c and the number v.
  module _ (i : ℕ) (l : i < length (sorts_at b t)) {c v : ℕ} (e : c ≡ class_number (get_or (sorts_at b t) i free)) (f : v ≡ type_field L t i) where
    lower : get_or (sorts_at b t) i free ≡ a_type → type_field L t i < length L.types
    lower q =
        let z = ((good O h).types t h).lower i q in
        omega arith

    pub type_number_lem : c ≡ 0 → v < length L.types
    type_number_lem z =
        let y = lower (class_type _ (sym e ∙ z)) in
        omega arith

    pub numbered_more : {places numbers : List ℕ} {x : ℕ} → i < length numbers → Numbered b places t i numbers → x ≡ kept_number places c v → Numbered b places t (i + 1) (set numbers i x)
    numbered_more {places} {numbers} {x} k N z = record { told = told' }
      where
        told' : (T : List Ty) → Placed b places T → PartsIn (length L.domains) T (parts_of (type_of L t))
            → take (i + 1) (set numbers i x) ≡ part_nos T (parts_from of (take (i + 1) (sorts_at b t)) (take (i + 1) (type_fields L t)))
        told' T P Q =
            let j : suc i ≡ i + 1 = omega arith in
            let p : PartsIn (length L.domains) T (parts_from of (sorts_at b t) (type_fields L t)) = subst (λ ps. PartsIn (length L.domains) T ps) parts_are Q in
            let y : x ≡ part_no T (part_from of (get_or (sorts_at b t) i free) (type_field L t i)) =
            z ∙ ap (λ q. kept_number places q v) e ∙ ap (λ q. kept_number places (class_number (get_or (sorts_at b t) i free)) q) f
            ∙ kept_part of places T (get_or (sorts_at b t) i free) (type_field L t i) (λ q. P.each (type_field L t i) (lower q) (part_there of (length L.domains) T (sorts_at b t) (type_fields L t) i counted l p q)) in
            ap (λ m. take m (set numbers i x)) (sym j) ∙ take-suc-set numbers i x k ∙ ap (λ ns. ns ++ (x ∷ [])) (N.told T P Q)
            ∙ ap (λ y. part_nos T (parts_from of (take i (sorts_at b t)) (take i (type_fields L t))) ++ (y ∷ [])) y
            ∙ sym (parts_next of T (sorts_at b t) (type_fields L t) i counted l)
            ∙ ap (λ m. part_nos T (parts_from of (take m (sorts_at b t)) (take m (type_fields L t)))) j

  -- All fields, and the record.
  pub numbered_all : {places numbers out out' : List ℕ} (i kind place : ℕ) → length (sorts_at b t) ≤ i → kind ≡ number_at b (type_place L t) → Numbered b places t i numbers
      → out' ≡ over place (little ((4 + 2 * length (take i numbers)) ∷ (kind ∷ take i numbers))) out → WroteType b places t place out out'
  unfolding bytes
  numbered_all {places} {numbers} {out} {out'} i kind place s e N w = record { over_table = told' }
    where
      told' : (T : List Ty) → Placed b places T → PartsIn (length L.domains) T (parts_of (type_of L t)) → out' ≡ over place (bytes (type_record T (type_of L t))) out
      told' T P Q =
          let fields : List ℕ = part_nos T (parts_of (type_of L t)) in
          let number : ℕ = (type_row_of (head_of (type_of L t))).number in
          let c = counted in
          let x : take i numbers ≡ fields =
          N.told T P Q ∙ ap (λ fs. part_nos T (parts_from of fs (take i (type_fields L t)))) (take_all i (sorts_at b t) s)
          ∙ ap (λ ws. part_nos T (parts_from of (sorts_at b t) ws)) (take_all i (type_fields L t) (omega arith)) ∙ ap (λ ps. part_nos T ps) (sym parts_are) in
          let o : kind ≡ number = e ∙ ap (λ j. number_at j (type_place L t)) (sym (image_kept b L O.laid_out)) ∙ ((good O h).types t h).is.stands.number ∙ ap (λ q. (type_row_of q).number) (kind_head L (good O h) t h) in
          w ∙ ap (λ q. over place (little ((4 + 2 * length (take i numbers)) ∷ (q ∷ take i numbers))) out) o ∙ ap (λ ws. over place (little ((4 + 2 * length ws) ∷ (number ∷ ws))) out) x
