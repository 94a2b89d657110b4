-- What stands in the image at the offsets of a table of terms: the fields of a term, as the part of the image that they occupy.
use Prim.Native.Nat.{ℕ, suc, ◌+◌, ◌-◌, ◌*◌, ◌≤◌, ◌<◌}
use native.Mathlib.Omega.{arith}
use mathlib.Core.Path.{◌≡◌, refl, sym, ap, subst, ◌∙◌}
use mathlib.Core.Logic.{⊎_elim}
use mathlib.Core.Bool.{true}
use mathlib.Core.List.{List, [], ◌∷◌}
use lib.ListN.{length, get_or}
use lib.Dec.{leb}
use Rattle.image.specs.Limits.{entry_limit}
use Rattle.image.specs.Bytes.{words, length_at, number_at, field_at}
use Rattle.image.specs.Kinds.{Field, a_truth, free, an_entry, TermKind, term_row, lead_of, trail_of}
use Rattle.image.specs.Kinds as Kinds
use Rattle.image.specs.Records.{times, as_child, as_other, given, children_at}
use Rattle.image.specs.Records as Records
use Rattle.image.specs.LaidOut.{Within}
use Rattle.image.specs.Layout.{laid, layout, records_of}
use Rattle.image.specs.Types.{term_place, term_kind, type_no, others, children}
use Rattle.laws.proofs.Booleans.{le_of}
use Rattle.image.proofs.KindNumbers.{same_term_kind}
use Rattle.image.proofs.EveryKind.{every_of, at_term}
use Rattle.image.proofs.Laid.{TermOk, below_at, type_there, LayoutOk, layout_good, image_kept}
use Rattle.image.proofs.Offsets.{number_at_lem, side_by_side, side_or_match, fields_count, child_at_lem}
use Rattle.read_records.specs.Heads.{IsWhole, field_in}
use Rattle.read_records.proofs.Parts.{words_part, bytes_length}
use Rattle.read_records.proofs.Parts as Parts
use Rattle.read_terms.specs.Lent.{Terms, IsTerm}
use Rattle.read_terms.specs.Fields.{fields_of, classes_in, numbers_in, others_in, children_in, count_in, Typed, AtField, Labels, Bodies, HasChild, first_entry, entry_count, entry_terms, Entries}
use Rattle.read_terms.proofs.Lists.{table_long, table_at}
use Rattle.read_terms.proofs.Counts.{children_counted, match_count}
use Rattle.read_terms.proofs.Matches.{entry_class, match_fields_lem, children_all, first_child_lem}

-- Every term has a number from 32 on.
from_32 : (k : TermKind) → 32 ≤ (term_row k).number
unfolding every_of
from_32 k = le_of (at_term (λ k. leb 32 (term_row k).number) refl k)

module _ (b : List ℕ) (laid_out : layout b ≡ laid (records_of b)) where
  pub good_of : LayoutOk (records_of b)
  good_of = layout_good b (records_of b) laid_out

  pub image_is : (records_of b).image ≡ b
  image_is = image_kept b (records_of b) laid_out

module _ {b table : List ℕ} (T : Terms b table) {n : ℕ} (h : IsTerm b n) where
  abbrev o : ℕ
  o = term_place (records_of b) n

  abbrev kind : TermKind
  kind = term_kind (records_of b) n

  pub term_ok : TermOk b (length (records_of b).domains) (length (records_of b).types) kind n o
  term_ok =
      subst (λ i. TermOk i (length (records_of b).domains) (length (records_of b).types) kind n o)
      (image_is b T.laid_out) ((good_of b T.laid_out).terms n h)

  pub in_table : n < length table
  in_table = let z = table_long table (records_of b).terms T.offsets in omega arith

  pub place_is : get_or table n 0 ≡ o
  place_is = table_at table (records_of b).terms T.offsets n h

  -- The kind that its number tells.
  pub number_is : number_at b o ≡ (term_row kind).number
  number_is = term_ok.is.stands.number

  pub kind_is : (k : TermKind) → number_at b o ≡ (term_row k).number → kind ≡ k
  kind_is k e = same_term_kind kind k (sym number_is ∙ e)

  -- A number that was read there, and that is the number of k.
  pub kind_read : (q : ℕ) → q ≡ number_at b o → (k : TermKind) → q ≡ (term_row k).number → kind ≡ k
  kind_read q e k f = kind_is k (sym e ∙ f)

  pub number_from : 32 ≤ number_at b o
  number_from = rw number_is (from_32 kind)

  -- The record is whole, and holds its known fields; one of them is its type.
  abbrev fields : List Field
  fields = Records.fields_at b o (term_row kind)

  pub inside : o + length_at b o ≤ length b
  inside = term_ok.is.stands.inside

  size : 4 + 2 * length fields ≤ length_at b o
  size = term_ok.is.stands.size

  some_field : 0 < length fields
  some_field = (type_there kind b o).1

  pub long_enough_lem : 6 ≤ length_at b o
  long_enough_lem =
      let s = size in
      let t = some_field in
      omega arith

  pub whole : IsWhole b o
  whole = let l = long_enough_lem in (omega arith, inside)

  pub fields_length : 2 * length fields ≤ length (fields_of b n)
  fields_length =
      let l = bytes_length b o whole in
      let s = size in
      omega arith

  pub field_is : (i : ℕ) → i < length fields → field_in (fields_of b n) i ≡ field_at b o i
  field_is i l = let s = size in Parts.field_is b o (length_at b o) i (omega arith)

  -- Its type.
  pub typed_in : Typed b (fields_of b n)
  typed_in =
      let m = fields_length in
      let t = some_field in
      record { long = omega arith; type = rw (field_is 0 t) term_ok.typed }

  pub type_in_lem : field_in (fields_of b n) 0 ≡ type_no (records_of b) n
  type_in_lem = field_is 0 some_field ∙ ap (λ i. field_at i o 0) (sym (image_is b T.laid_out))

  -- What its fields are, and their numbers.
  pub classes_in_lem : classes_in (fields_of b n) kind ≡ fields
  classes_in_lem =
      let m = bytes_length b o whole in
      let s = size in
      let e : 4 + length (fields_of b n) ≡ length_at b o = omega arith in
      ap (λ j. Kinds.fields_of (term_row kind) (times (term_row kind) j)) e

  numbers_in_lem : numbers_in (fields_of b n) kind ≡ Records.numbers_at b o (term_row kind)
  numbers_in_lem =
      let s = size in
      let e : o + 4 + 0 ≡ o + 4 = omega arith in
      ap (λ cs. words (fields_of b n) 0 (length cs)) classes_in_lem
      ∙ (words_part b (o + 4) (length_at b o - 4) (length fields) 0 (omega arith) ∙ ap (λ p. words b p (length fields)) e)

  abbrev given_at : (Field → ℕ → List ℕ) → List ℕ → List ℕ
  given_at of i = given of (Records.fields_at i o (term_row kind)) (Records.numbers_at i o (term_row kind))

  given_in : (of : Field → ℕ → List ℕ) → given of (classes_in (fields_of b n) kind) (numbers_in (fields_of b n) kind) ≡ given_at of (records_of b).image
  given_in of =
      ap (λ cs. given of cs (numbers_in (fields_of b n) kind)) classes_in_lem
      ∙ (ap (given of fields) numbers_in_lem ∙ ap (given_at of) (sym (image_is b T.laid_out)))

  children_are : children (records_of b) n ≡ children_at b o (term_row kind)
  children_are = ap (given_at as_child) (image_is b T.laid_out)

  fields_counted : side_by_side kind ≡ true → length fields ≡ lead_of kind + length (children (records_of b) n) + trail_of kind
  fields_counted side = rw children_are (fields_count kind side b o)

  -- Of a term of kind k.
  module _ {k : TermKind} (e : kind ≡ k) where
    pub others_in_lem : others_in (fields_of b n) k ≡ others (records_of b) n
    others_in_lem = subst (λ j. others_in (fields_of b n) j ≡ others (records_of b) n) e (given_in as_other)

    pub children_in_lem : children_in (fields_of b n) k ≡ children (records_of b) n
    children_in_lem = subst (λ j. children_in (fields_of b n) j ≡ children (records_of b) n) e (given_in as_child)

    pub classes_are : length (classes_in (fields_of b n) k) ≡ length fields
    classes_are = subst (λ j. length (classes_in (fields_of b n) j) ≡ length fields) e (ap length classes_in_lem)

    pub child_lower : (i : ℕ) → i < length (children (records_of b) n) → get_or (children (records_of b) n) i 0 < n
    child_lower i l = rw children_are (below_at n (children_at b o (term_row kind)) i term_ok.below (rw children_are at l))

  -- The children that stand side by side: each stands behind the fields and the children before it.
  record Run (k : TermKind) : Type 0 where
    least : count_in (fields_of b n) k ≤ length (children (records_of b) n)
    held : lead_of k + count_in (fields_of b n) k ≤ length fields
    child : (i : ℕ) → i < count_in (fields_of b n) k → field_in (fields_of b n) (lead_of k + i) ≡ get_or (children (records_of b) n) i 0

  -- All of them do.
  side_run : {k : TermKind} → kind ≡ k → side_by_side k ≡ true → Run k
  side_run {k} e side = record { least = omega (arith, c); held = omega (arith, c, f); child = child }
    where
      side' : side_by_side kind ≡ true
      side' = ap side_by_side e ∙ side

      c : count_in (fields_of b n) k ≡ length (children (records_of b) n)
      c = sym (children_counted (fields_of b n) k side) ∙ ap length (children_in_lem e)

      f : length fields ≡ lead_of k + length (children (records_of b) n) + trail_of kind
      f = let d : lead_of kind ≡ lead_of k = ap lead_of e in let g = fields_counted side' in omega arith

      child : (i : ℕ) → i < count_in (fields_of b n) k → field_in (fields_of b n) (lead_of k + i) ≡ get_or (children (records_of b) n) i 0
      child i l =
          let m : i < length (children (records_of b) n) = omega (arith, c) in
          let d : lead_of kind ≡ lead_of k = ap lead_of e in
          field_is (lead_of k + i) (omega (arith, c, f))
          ∙ (ap (λ q. field_at b o (q + i)) (sym d)
          ∙ (sym (child_at_lem kind side' b o i (rw children_are at m)) ∙ ap (λ es. get_or es i 0) (sym children_are)))

  -- A match has three (card 6).
  match_run_lem : kind ≡ TermKind.match → Run TermKind.match
  match_run_lem e = record { least = omega (arith, c, l); held = omega (arith, c, f); child = child }
    where
      fs : List ℕ
      fs = fields_of b n

      c : count_in fs TermKind.match ≡ 3
      c = match_count fs

      l : length (children (records_of b) n) ≡ 3 + length (entry_terms fs)
      l = ap length (sym (children_in_lem e)) ∙ children_all fs

      f : length fields ≡ 5 + entry_count fs
      f = sym (classes_are e) ∙ match_fields_lem fs

      child : (i : ℕ) → i < count_in fs TermKind.match → field_in fs (1 + i) ≡ get_or (children (records_of b) n) i 0
      child i h = first_child_lem fs i (omega (arith, c)) ∙ ap (λ es. get_or es i 0) (children_in_lem e)

  module _ {k : TermKind} (e : kind ≡ k) where
    run : Run k
    run = ⊎_elim (λ s. side_run e s) (λ m. subst (λ j. Run j) (sym m) (match_run_lem (e ∙ m))) (side_or_match k)

    -- Behind the type there may be one more field.
    pub second_in : lead_of k ≡ 2 → 3 < length (fields_of b n)
    second_in l =
        let r = run.held in
        let m = fields_length in
        omega arith

    -- A child among them, with a lower number.
    pub at_field_in : (i : ℕ) → i < count_in (fields_of b n) k → AtField b (fields_of b n) (lead_of k + i)
    at_field_in i l =
        let r = run.held in
        let q = run.least in
        let m = fields_length in
        let z = child_lower e i (omega arith) in
        record { long = omega arith; term = rw (run.child i l) (omega arith) }

    pub has_child : (j : ℕ) → j < length (children_in (fields_of b n) k) → HasChild (fields_of b n) k j
    has_child j l =
        let r = run.held in
        let m = fields_length in
        record { there = l; long = omega arith; side = λ q. run.child j q ∙ ap (λ es. get_or es j 0) (sym (children_in_lem e)) }

  pub labels_in : kind ≡ TermKind.pcd → Labels b (fields_of b n)
  labels_in e = record { long = typed_in.long; each = λ i l. at_field_in e i l }

  -- Card 3: the bodies of an object; a call, whose last field stands behind its child.
  pub bodies_in : kind ≡ TermKind.obj → Bodies b (fields_of b n)
  bodies_in e = record { long = typed_in.long; each = λ i l. at_field_in e i l }

  pub call_long : kind ≡ TermKind.call → 5 < length (fields_of b n)
  call_long e =
      let l : lead_of kind ≡ 1 = ap lead_of e in
      let t : trail_of kind ≡ 1 = ap trail_of e in
      let c : 1 ≤ length (children (records_of b) n) = (run e).least in
      let f = fields_counted (ap side_by_side e) in
      let m = fields_length in
      omega arith

  -- Card 7: a takedown's domain stands behind its type.
  pub takedown_long : kind ≡ TermKind.takedown → 3 < length (fields_of b n)
  takedown_long e =
      let l : lead_of kind ≡ 2 = ap lead_of e in
      let f = fields_counted (ap side_by_side e) in
      let m = fields_length in
      omega arith

  -- Card 6: the entries of a match.
  pub entries_in_lem : kind ≡ TermKind.match → Entries b (fields_of b n)
  entries_in_lem e = record { long = omega (arith, f, m); few = few; each = each }
    where
      fs : List ℕ
      fs = fields_of b n

      f : length fields ≡ 5 + entry_count fs
      f = sym (classes_are e) ∙ match_fields_lem fs

      m : 2 * length fields ≤ length fs
      m = fields_length

      bytes : 4 + length fs ≡ length_at b o
      bytes = let l = bytes_length b o whole in let s = size in omega arith

      few : entry_count fs ≤ entry_limit
      few = rw bytes (subst (λ k. times (term_row k) (length_at b o) ≤ (term_row k).most) e term_ok.is.stands.most)

      each : (i : ℕ) → i < entry_count fs → field_in fs (first_entry + i) ≤ length (records_of b).terms
      each i l =
          let q : first_entry + i < length fields = omega (arith, f) in
          let v = number_at_lem b o (term_row kind) (first_entry + i) q in
          let z : first_entry + i ≡ suc (suc (suc (suc i))) = omega arith in
          let class : get_or fields (first_entry + i) free ≡ an_entry =
          ap (λ k. get_or (Records.fields_at b o (term_row k)) (first_entry + i) free) e
          ∙ (ap (λ j. get_or (Records.fields_at b o (term_row TermKind.match)) j free) z ∙ entry_class (times (term_row TermKind.match) (length_at b o)) (a_truth ∷ []) i (rw bytes at l)) in
          let w : get_or (Records.numbers_at b o (term_row kind)) (first_entry + i) 0 ≤ n =
          subst (λ f. Within (length (records_of b).domains) (length (records_of b).types) n f (get_or (Records.numbers_at b o (term_row kind)) (first_entry + i) 0)) class (term_ok.is.fields (first_entry + i) q) in
          let y = field_is (first_entry + i) q in
          omega arith
