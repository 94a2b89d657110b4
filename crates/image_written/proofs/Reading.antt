-- What is written is read back: 16-bit numbers, a record by its offset, records end to end.
use Prim.Native.Nat.{ℕ, zero, suc, ◌+◌, ◌*◌, ◌/◌, ◌%◌, ◌≤◌, ◌<◌}
use native.Mathlib.Omega.{arith}
use mathlib.Core.Path.{◌≡◌, refl, sym, ap, subst, ◌∙◌}
use mathlib.Core.List.{List, [], ◌∷◌, ◌++◌, append_assoc}
use mathlib.Core.Option.{some}
use lib.ListN.{length, get_or, length-append}
use lib.Seq.{get_or-append_seam, get_or-append-add}
use Rattle.image.specs.Bytes.{le16, words, length_at, number_at, field_at}
use Rattle.image.specs.Kinds.{Row, row_of, kind_of, fields_of}
use Rattle.image.specs.Records.{times, kind_at, fields_at, numbers_at}
use Rattle.image.specs.LaidOut.{EndToEnd, Stands}
use Rattle.image.proofs.KindNumbers.{found}
use Rattle.image.proofs.Words.{words_at}
use Rattle.image.proofs.Counts.{times_fields}
use Rattle.image_written.specs.Records.{little, Record, size, bytes, image}

pub little_length : (ns : List ℕ) → length (little ns) ≡ 2 * length ns
unfolding little
little_length [] = refl
little_length (n ∷ ns) = let h = little_length ns in omega arith

pub bytes_length : (r : Record) → length (bytes r) ≡ size r
unfolding bytes
bytes_length r = little_length (size r ∷ (row_of r.kind).number ∷ r.fields) ∙ omega arith

read_words : (ns pre post b : List ℕ) (o : ℕ) → length pre ≡ o → b ≡ pre ++ (little ns ++ post) → words b o (length ns) ≡ ns
unfolding words little
read_words [] pre post b o l e = refl
read_words (n ∷ ns) pre post b o l e =
    let lo : get_or b o 0 ≡ n % 256 = rw (e, ← l) (get_or-append_seam pre (n % 256) ((n / 256) ∷ (little ns ++ post)) 0) in
    let hi : get_or b (o + 1) 0 ≡ n / 256 = rw (e, ← l) (get_or-append-add pre ((n % 256) ∷ (n / 256) ∷ (little ns ++ post)) 1 0) in
    let head : le16 b o ≡ n = omega arith in
    let p : List ℕ = pre ++ ((n % 256) ∷ (n / 256) ∷ []) in
    let lp : length p ≡ o + 2 = omega (arith, length-append pre ((n % 256) ∷ (n / 256) ∷ [])) in
    let q : b ≡ p ++ (little ns ++ post) = e ∙ sym (append_assoc pre ((n % 256) ∷ (n / 256) ∷ []) (little ns ++ post)) in
    let rest : words b (o + 2) (length ns) ≡ ns = read_words ns p post b (o + 2) lp q in
    cc

-- The record at o.
pub record Reads (b : List ℕ) (o : ℕ) (r : Record) : Type 0 where
  pub long : length_at b o ≡ size r
  pub number : number_at b o ≡ (row_of r.kind).number
  pub fields : words b (o + 4) (length r.fields) ≡ r.fields
  pub inside : o + size r ≤ length b

pub read : (r : Record) (pre post b : List ℕ) (o : ℕ) → length pre ≡ o → b ≡ pre ++ (bytes r ++ post) → Reads b o r
unfolding bytes words
read r pre post b o l e =
    let ns : List ℕ = size r ∷ (row_of r.kind).number ∷ r.fields in
    let all : words b o (length ns) ≡ ns = read_words ns pre post b o l e in
    let z : o + 2 + 2 ≡ o + 4 = omega arith in
    let tail : words b (o + 2 + 2) (length r.fields) ≡ r.fields = cc in
    let n : length b ≡ length pre + (length (bytes r) + length post) = ap length e ∙ length-append pre (bytes r ++ post) ∙ ap (λ m. length pre + m) (length-append (bytes r) post) in
    record {
      long = cc;
      number = cc;
      fields = subst (λ a. words b a (length r.fields) ≡ r.fields) z tail;
      inside = omega (arith, little_length ns);
    }

pub reads_kind : {b : List ℕ} {o : ℕ} {r : Record} → Reads b o r → kind_at b o ≡ r.kind
reads_kind {b} {o} {r} h = let k : kind_of (number_at b o) ≡ some r.kind = ap (λ n. kind_of n) h.number ∙ found r.kind in rw k refl

pub reads_field : {b : List ℕ} {o : ℕ} {r : Record} → Reads b o r → (i : ℕ) → i < length r.fields → field_at b o i ≡ get_or r.fields i 0
reads_field {b} {o} {r} h i l = sym (words_at b (o + 4) (length r.fields) i l) ∙ ap (λ ws. get_or ws i 0) h.fields

-- A record of the row w in which the group stands c times has n fields.
pub record Sized (w : Row) (c n : ℕ) : Type 0 where
  pub count : n ≡ length (fields_of w c)
  pub none : length w.group ≡ 0 → c ≡ 0
  pub least : w.least ≤ c
  pub most : c ≤ w.most

module _ {b : List ℕ} {o : ℕ} {r : Record} (R : Reads b o r) (c : ℕ) (s : Sized (row_of r.kind) c (length r.fields)) where
  abbrev w : Row
  w = row_of r.kind

  reads_times : times w (length_at b o) ≡ c
  reads_times = let n : length_at b o ≡ 4 + 2 * length (fields_of w c) = R.long ∙ ap (λ m. 4 + 2 * m) s.count in ap (λ m. times w m) n ∙ times_fields w c s.none

  pub reads_sorts : fields_at b o w ≡ fields_of w c
  reads_sorts = ap (λ n. fields_of w n) reads_times

  pub reads_numbers : numbers_at b o w ≡ r.fields
  reads_numbers = ap (λ n. words b (o + 4) n) (ap length reads_sorts ∙ sym s.count) ∙ R.fields

  pub reads_stands : Stands b w o
  reads_stands =
      let t = reads_times in
      let e : length (fields_of w (times w (length_at b o))) ≡ length r.fields = ap length reads_sorts ∙ sym s.count in
      let long = R.long in
      let inside = R.inside in
      let l = s.least in
      let m = s.most in
      record { number = R.number; inside = omega arith; size = omega arith; exact = λ h. omega arith; least = omega arith; most = omega arith }

-- The offsets of records that stand end to end, the first at o.
abbrev pub placed : ℕ → List Record → List ℕ
placed o [] = []
placed o (r ∷ rs) = o ∷ placed (o + size r) rs

pub placed_append : (o : ℕ) (xs ys : List Record) → placed o (xs ++ ys) ≡ placed o xs ++ placed (o + length (image xs)) ys
unfolding image
placed_append o [] ys = let z : o ≡ o + 0 = omega arith in ap (λ p. placed p ys) z
placed_append o (r ∷ xs) ys =
    let z : o + size r + length (image xs) ≡ o + length (bytes r ++ image xs) = omega (arith, length-append (bytes r) (image xs), bytes_length r) in
    ap (λ os. o ∷ os) (placed_append (o + size r) xs ys ∙ ap (λ p. placed (o + size r) xs ++ placed p ys) z)

-- Offsets and the records that are read there.
abbrev pub Match : List ℕ → List ℕ → List Record → Type 0
Match b [] [] = Unit {0}
Match b [] (r ∷ rs) = ⊥
Match b (o ∷ os) [] = ⊥
Match b (o ∷ os) (r ∷ rs) = Reads b o r × Match b os rs

pub match_length : (b os : List ℕ) (rs : List Record) → Match b os rs → length os ≡ length rs
match_length b [] [] m = refl
match_length b [] (r ∷ rs) m = absurd m
match_length b (o ∷ os) [] m = absurd m
match_length b (o ∷ os) (r ∷ rs) m = ap suc (match_length b os rs m.1)

pub match_at : (b os : List ℕ) (rs : List Record) → Match b os rs → (i : ℕ) (d : Record) → i < length rs → Reads b (get_or os i 0) (get_or rs i d)
match_at b [] [] m i d l = absurd (omega arith)
match_at b [] (r ∷ rs) m i d l = absurd m
match_at b (o ∷ os) [] m i d l = absurd m
match_at b (o ∷ os) (r ∷ rs) m zero d l = m.0
match_at b (o ∷ os) (r ∷ rs) m (suc i) d l = match_at b os rs m.1 i d (omega arith)

pub match_placed : (rs : List Record) (pre post b : List ℕ) (o : ℕ) → length pre ≡ o → b ≡ pre ++ (image rs ++ post) → Match b (placed o rs) rs
unfolding image
match_placed [] pre post b o l e = tt
match_placed (r ∷ rs) pre post b o l e =
    let e1 : b ≡ pre ++ (bytes r ++ (image rs ++ post)) = e ∙ ap (λ xs. pre ++ xs) (append_assoc (bytes r) (image rs) post) in
    let e2 : b ≡ (pre ++ bytes r) ++ (image rs ++ post) = e1 ∙ sym (append_assoc pre (bytes r) (image rs ++ post)) in
    let l2 : length (pre ++ bytes r) ≡ o + size r = length-append pre (bytes r) ∙ omega (arith, bytes_length r) in
    (read r pre (image rs ++ post) b o l e1, match_placed rs (pre ++ bytes r) post b (o + size r) l2 e2)

pub match_ends : (rs : List Record) (b : List ℕ) (o : ℕ) → Match b (placed o rs) rs → o + length (image rs) ≡ length b → EndToEnd b o (placed o rs)
unfolding image
match_ends [] b o m e = omega arith
match_ends (r ∷ rs) b o m e =
    let long = m.0.long in
    let z : o + size r ≡ o + length_at b o = omega arith in
    let n : o + size r + length (image rs) ≡ length b = omega (arith, length-append (bytes r) (image rs), bytes_length r) in
    (refl, subst (λ p. EndToEnd b p (placed (o + size r) rs)) z (match_ends rs b (o + size r) m.1 n))
