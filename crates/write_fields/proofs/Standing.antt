-- A record that stands in an image, read through the part of the image that its fields occupy.
use Prim.Native.Nat.{ℕ, ◌+◌, ◌*◌, ◌≤◌, ◌<◌}
use native.Mathlib.Omega.{arith}
use mathlib.Core.Path.{◌≡◌, sym, ap, ◌∙◌}
use mathlib.Core.List.{List}
use mathlib.Core.Option.{some}
use lib.ListN.{length, get_or}
use Rattle.image.specs.Bytes.{length_at, number_at}
use Rattle.image.specs.Kinds.{Field, free, Row, row_of, kind_of}
use Rattle.image.specs.Kinds as Kinds
use Rattle.image.specs.Records.{kind_at, times, numbers_at}
use Rattle.image.specs.Records as Records
use Rattle.image.specs.LaidOut.{Stands}
use Rattle.image.proofs.Offsets.{number_at_lem}
use Rattle.read_records.specs.Codes.{class_number, code_at, first_of, last_of, Sized}
use Rattle.read_records.specs.Heads.{IsWhole, fields_at, field_in}
use Rattle.read_records.proofs.Parts.{bytes_length, field_is}
use Rattle.write_fields.specs.Classes.{known_fields, known_count, Known, slot_in, class_in}
use Rattle.write_fields.proofs.Told.{few_fields, class_asks, class_tells, known_inside}

-- The fields fs of a record have been looked at, whose kind has the code x and m known fields: these are the fields `sorts`, with the numbers `numbers`.
pub record RecordRead (fs : List ℕ) (x m : ℕ) (sorts : List Field) (numbers : List ℕ) : Type 0 where
  pub count : m ≡ length sorts
  pub few : m ≤ 16
  -- what is asked for the class of field i, and what it tells
  pub asks : (i : ℕ) → i < m → Sized x × (first_of x + last_of x ≤ m) × (i < m) × (slot_in x m i < 6)
  pub class : (i : ℕ) → i < m → {c : ℕ} → c ≡ class_in x m i → c ≡ class_number (get_or sorts i free)
  -- its number is there
  pub inside : (i : ℕ) → i < m → 2 * i + 1 < length fs
  pub number : (i : ℕ) → i < m → {v : ℕ} → v ≡ field_in fs i → v ≡ get_or numbers i 0

module _ {b : List ℕ} {o : ℕ} (kind : kind_of (number_at b o) ≡ some (kind_at b o)) (S : Stands b (row_of (kind_at b o)) o) where
  abbrev r : Row
  r = row_of (kind_at b o)

  abbrev q : ℕ
  q = number_at b o

  size : 4 + 2 * length (Records.fields_at b o r) ≤ length_at b o
  size = S.size

  whole : IsWhole b o
  whole = let s = size in (omega arith, S.inside)

  bytes : 4 + length (fields_at b o) ≡ length_at b o
  bytes = let l = bytes_length b o whole in let s = size in omega arith

  fields_are : known_fields q (fields_at b o) ≡ Records.fields_at b o r
  fields_are = ap (λ n. Kinds.fields_of r (times r n)) bytes

  pub known : Known q (fields_at b o)
  known =
      let l = bytes in
      let s = size in
      let c : known_count q (fields_at b o) ≡ length (Records.fields_at b o r) = ap length fields_are in
      record { kind = kind; held = omega arith; most = rw bytes S.most }

  -- The kind's number and the fields that were read are its own, and known_fields told the code and the count.
  pub record_read : {p x m : ℕ} {fs : List ℕ} → p ≡ q → fs ≡ fields_at b o → (x ≡ code_at p) × (m ≡ known_count p fs) → RecordRead fs x m (Records.fields_at b o r) (numbers_at b o r)
  record_read {p} {x} {m} {fs} e f t = record {
    count = count;
    few = let k = few_fields q (fields_at b o) known in let c = counted in omega arith;
    asks = λ i l. class_asks known coded counted i l;
    class = λ i l g. class_tells known coded counted i l g ∙ ap (λ cs. class_number (get_or cs i free)) fields_are;
    inside = λ i l. rw f (inside i l);
    number = λ i l g. let c = count in let h = inside i l in let n = bytes in g ∙ ap (λ fs. field_in fs i) f ∙ field_is b o (length_at b o) i (omega arith) ∙ sym (number_at_lem b o r i (omega arith));
  }
    where
      coded : x ≡ code_at q
      coded = t.0 ∙ ap code_at e

      counted : m ≡ known_count q (fields_at b o)
      counted = t.1 ∙ ap (λ p. known_count p fs) e ∙ ap (λ fs. known_count q fs) f

      count : m ≡ length (Records.fields_at b o r)
      count = counted ∙ ap length fields_are

      inside : (i : ℕ) → i < m → 2 * i + 1 < length (fields_at b o)
      inside i l = let c = counted in known_inside known i (omega arith)
