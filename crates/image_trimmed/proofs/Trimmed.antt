-- A trimmed image has the same records as the image, by their known fields.
use Prim.Native.Nat.{ℕ, zero, suc, ◌+◌, ◌-◌, ◌*◌, ◌/◌, ◌%◌, ◌≤◌, ◌<◌}
use native.Mathlib.Omega.{arith}
use mathlib.Core.Path.{◌≡◌, refl, sym, ap, subst, ◌∙◌}
use mathlib.Core.Bool.{true}
use mathlib.Core.List.{List, [], ◌++◌, append_assoc}
use lib.ListN.{length, get_or, take, drop, length-append, length-drop, get_or-append}
use lib.Seq.{get_or-take, get_or-drop, get_or-append-add, length-take-le}
use borrow.Author.Tests.{le-leb, lt-leb}
use Rattle.image.specs.Bytes.{le16, words, length_at, number_at}
use Rattle.image.specs.Kinds.{domain, Row, row_of, kind_of, fields_of}
use Rattle.image.specs.Records.{or_else, kind_at, goes_into, times, known_length, fields_at, numbers_at}
use Rattle.image.specs.Layout.{is_some, right_length}
use Rattle.image.specs.LaidOut.{Stands}
use Rattle.laws.proofs.Booleans.{of_le}
use Rattle.laws.proofs.Tests.{of_each}
use Rattle.image.proofs.Laid.{stands, kind_known}
use Rattle.image.proofs.LaidOut.{of_long}
use Rattle.image_trimmed.specs.SameRecords.{Readable, SameRecord, SameFrom, SameRecords}
use Rattle.image_trimmed.specs.SameRecords as Same
use Rattle.image_trimmed.specs.Trimmed.{ReadableFrom, ends, next, trimmed_length, trimmed_record, trimmed_from, trimmed, trimmed_place}
use Rattle.image_trimmed.proofs.Layouts.{frame}

-- A record that is cut to its known fields has the same ones.
times_kept : (r : Row) (n : ℕ) → (0 < length r.group → n ≡ known_length r n) → times r (known_length r n) ≡ times r n
times_kept r n e = go (length r.group) refl
  where
    go : (g : ℕ) → length r.group ≡ g → times r (known_length r n) ≡ times r n
    go zero q =
        ap (λ g. goes_into g ((known_length r n - 4) / 2 - (length r.first + length r.last))) q
        ∙ sym (ap (λ g. goes_into g ((n - 4) / 2 - (length r.first + length r.last))) q)
    go (suc g) q = ap (λ m. times r m) (sym (e (omega arith)))

module _ (b : List ℕ) where
  -- A readable record is no shorter than its known fields.
  module _ (o : ℕ) (R : Readable b o) where
    there : Stands b (row_of (kind_at b o)) o
    there = stands b o (kind_at b o) R.whole (kind_known b o R.known) R.long

    pub record_length : length (trimmed_record b o) ≡ trimmed_length b o
    record_length =
        let i = there.inside in
        let s = there.size in
        let z : length (take (trimmed_length b o - 2) (drop (o + 2) b)) ≡ trimmed_length b o - 2 = length-take-le (trimmed_length b o - 2) (drop (o + 2) b) (rw (length-drop (o + 2) b) (omega arith)) in
        omega arith

  end_of : (f o : ℕ) → length b ≤ o → trimmed_from f b o ≡ []
  unfolding trimmed_from
  end_of zero o h = refl
  end_of (suc f) o h = rw (le-leb _ _ h, trimmed_from) refl

  cut_on : (f o : ℕ) → o < length b → trimmed_from (suc f) b o ≡ trimmed_record b o ++ trimmed_from f b (o + length_at b o)
  unfolding trimmed_from
  cut_on f o h = rw (lt-leb _ _ h, trimmed_from) refl

  fuel : (f g : ℕ) {o : ℕ} → ReadableFrom b o → length b ≤ o + f → length b ≤ o + g → trimmed_from f b o ≡ trimmed_from g b o
  fuel f g (ends o e) l m = end_of f o (omega arith) ∙ sym (end_of g o (omega arith))
  fuel zero g (next o R F) l m = let z = (frame b o R.whole).0 in absurd (omega arith)
  fuel (suc f) zero (next o R F) l m = let z = (frame b o R.whole).0 in absurd (omega arith)
  fuel (suc f) (suc g) (next o R F) l m =
      let z = frame b o R.whole in
      let y = z.0 in
      let w = z.1 in
      let h : o < length b = omega arith in
      cut_on f o h ∙ (ap (λ x. trimmed_record b o ++ x) (fuel f g F (omega arith) (omega arith)) ∙ sym (cut_on g o h))

  abbrev rest : ℕ → List ℕ
  rest o = trimmed_from (length b) b o

  onward : (o : ℕ) → Readable b o → ReadableFrom b (o + length_at b o) → rest o ≡ trimmed_record b o ++ rest (o + length_at b o)
  onward o R F = go (length b) refl
    where
      go : (n : ℕ) → length b ≡ n → rest o ≡ trimmed_record b o ++ rest (o + length_at b o)
      go zero e = let z = (frame b o R.whole).0 in absurd (omega arith)
      go (suc n) e =
          let z = frame b o R.whole in
          let y = z.0 in
          let w = z.1 in
          let h : o < length b = omega arith in
          ap (λ m. trimmed_from m b o) e ∙ (cut_on n o h ∙ ap (λ x. trimmed_record b o ++ x) (fuel n (length b) F (omega arith) (omega arith)))

  -- No longer than the image.
  short : (f : ℕ) {o : ℕ} → ReadableFrom b o → o + length (trimmed_from f b o) ≤ length b
  unfolding trimmed_from
  short f (ends o e) = rw (end_of f o (omega arith)) (omega arith)
  short zero (next o R F) = let z = (frame b o R.whole).0 in omega arith
  short (suc f) (next o R F) =
      let z = (frame b o R.whole).0 in
      let h : o < length b = omega arith in
      let s = short f F in
      let l = record_length o R in
      let n = (there o R).size in
      let a = length-append (trimmed_record b o) (trimmed_from f b (o + length_at b o)) in
      rw (cut_on f o h) (omega arith)

  pub trimmed_short : ReadableFrom b 0 → length (trimmed b) ≤ length b
  unfolding trimmed
  trimmed_short F = let s = short (length b) F in omega arith

  -- A readable record, and its trimmed form with any bytes before and behind it.
  module _ (o : ℕ) (R : Readable b o) (pre post : List ℕ) where
    abbrev cut : List ℕ
    cut = pre ++ (trimmed_record b o ++ post)

    abbrev row : Row
    row = row_of (kind_at b o)

    byte : (j : ℕ) → j < trimmed_length b o → get_or cut (length pre + j) 0 ≡ get_or (trimmed_record b o) j 0
    byte j h = get_or-append-add pre (trimmed_record b o ++ post) j 0 ∙ get_or-append (trimmed_record b o) post 0 j (let l = record_length o R in omega arith)

    -- Behind the length, the bytes are the image's.
    kept : (j : ℕ) → j + 2 < trimmed_length b o → get_or cut (length pre + (j + 2)) 0 ≡ get_or b (o + (j + 2)) 0
    kept j h =
        let e : o + 2 + j ≡ o + (j + 2) = omega arith in
        let s : j + 2 ≡ suc (suc j) = omega arith in
        byte (j + 2) h
        ∙ (ap (λ i. get_or (trimmed_record b o) i 0) s ∙ (get_or-take (trimmed_length b o - 2) (drop (o + 2) b) j 0 (omega arith) ∙ (get_or-drop (o + 2) b j 0 ∙ ap (λ i. get_or b i 0) e)))

    word : (j : ℕ) → j + 3 < trimmed_length b o → le16 cut (length pre + (j + 2)) ≡ le16 b (o + (j + 2))
    word j h =
        let x = kept j (omega arith) in
        let d : length pre + (j + 2) + 1 ≡ length pre + (j + 1 + 2) = omega arith in
        let f : o + (j + 2) + 1 ≡ o + (j + 1 + 2) = omega arith in
        let y : get_or cut (length pre + (j + 2) + 1) 0 ≡ get_or b (o + (j + 2) + 1) 0 = ap (λ i. get_or cut i 0) d ∙ (kept (j + 1) (omega arith) ∙ ap (λ i. get_or b i 0) (sym f)) in
        cc

    words_kept : (m j : ℕ) → j + 2 + 2 * m ≤ trimmed_length b o → words cut (length pre + (j + 2)) m ≡ words b (o + (j + 2)) m
    unfolding words
    words_kept zero j h = refl
    words_kept (suc m) j h =
        let x = word j (omega arith) in
        let d : length pre + (j + 2) + 2 ≡ length pre + (j + 2 + 2) = omega arith in
        let e : o + (j + 2) + 2 ≡ o + (j + 2 + 2) = omega arith in
        let y : words cut (length pre + (j + 2) + 2) m ≡ words b (o + (j + 2) + 2) m = ap (λ i. words cut i m) d ∙ (words_kept m (j + 2) (omega arith) ∙ ap (λ i. words b i m) (sym e)) in
        cc

    size : length_at cut (length pre) ≡ trimmed_length b o
    size =
        let e : length pre + 0 ≡ length pre = omega arith in
        let x : get_or cut (length pre) 0 ≡ trimmed_length b o % 256 = ap (λ i. get_or cut i 0) (sym e) ∙ byte 0 (omega arith) in
        let y : get_or cut (length pre + 1) 0 ≡ trimmed_length b o / 256 = byte 1 (omega arith) in
        omega arith

    cut_length : length cut ≡ length pre + (trimmed_length b o + length post)
    cut_length =
        let x = length-append pre (trimmed_record b o ++ post) in
        let y = length-append (trimmed_record b o) post in
        let z = record_length o R in
        omega arith

    number_kept : number_at cut (length pre) ≡ number_at b o
    number_kept =
        let e : length pre + (0 + 2) ≡ length pre + 2 = omega arith in
        let d : o + (0 + 2) ≡ o + 2 = omega arith in
        ap (λ i. le16 cut i) (sym e) ∙ (word 0 (omega arith) ∙ ap (λ i. le16 b i) d)

    times_cut : times row (length_at cut (length pre)) ≡ times row (length_at b o)
    times_cut = ap (λ n. times row n) size ∙ times_kept row (length_at b o) (there o R).exact

    fields_kept : fields_at cut (length pre) row ≡ fields_at b o row
    fields_kept = ap (λ n. fields_of row n) times_cut

    numbers_kept : numbers_at cut (length pre) row ≡ numbers_at b o row
    numbers_kept =
        let d : length pre + (2 + 2) ≡ length pre + 4 = omega arith in
        let e : o + (2 + 2) ≡ o + 4 = omega arith in
        ap (λ fs. words cut (length pre + 4) (length fs)) fields_kept
        ∙ (ap (λ i. words cut i (length (fields_at b o row))) (sym d)
        ∙ (words_kept (length (fields_at b o row)) 2 (omega arith) ∙ ap (λ i. words b i (length (fields_at b o row))) e))

    kind_kept : kind_at cut (length pre) ≡ kind_at b o
    kind_kept = ap (λ n. or_else (kind_of n) domain) number_kept

    right_kept : right_length row (length_at cut (length pre)) ≡ true
    right_kept =
        let s = there o R in
        let t = times_cut in
        let e : length_at cut (length pre) ≡ known_length row (length_at cut (length pre)) = size ∙ ap (λ n. 4 + 2 * length (fields_of row n)) (sym t) in
        let least : row.least ≤ times row (length_at cut (length pre)) = rw t s.least in
        let most : times row (length_at cut (length pre)) ≤ row.most = rw t s.most in
        of_each _ (of_le least, (of_le most, (of_long row.group (known_length row (length_at cut (length pre))) (length_at cut (length pre)) (omega arith) (λ _. e), tt)))

    readable_cut : Readable cut (length pre)
    readable_cut =
        let l = cut_length in
        let n = size in
        record {
          whole =
              of_each _
              (of_le {m = length pre + 4} {n = length cut} (omega arith), (of_le {m = 4} {n = length_at cut (length pre)} (omega arith), (of_le {m = length pre + length_at cut (length pre)} {n = length cut} (omega arith), tt)));
          known = ap (λ q. is_some (kind_of q)) number_kept ∙ R.known;
          long = ap (λ k. right_length (row_of k) (length_at cut (length pre))) kind_kept ∙ right_kept;
        }

    same_record : SameRecord b cut o (length pre)
    same_record = record { here = R; there = readable_cut; number = number_kept; fields = fields_kept; numbers = numbers_kept }

  -- Wherever the walk has come to in the image, the trimmed records before are pre.
  same_from : {o : ℕ} → ReadableFrom b o → (pre : List ℕ) → trimmed b ≡ pre ++ rest o → SameFrom b (trimmed b) (trimmed_place b) o
  unfolding trimmed_place
  same_from (ends o e) pre t = let z : length (rest o) ≡ 0 = ap length (end_of (length b) o (omega arith)) in Same.ends o e (omega arith)
  same_from (next o R F) pre t =
      let p : rest o ≡ trimmed_record b o ++ rest (o + length_at b o) = onward o R F in
      let u : trimmed b ≡ pre ++ (trimmed_record b o ++ rest (o + length_at b o)) = t ∙ ap (λ x. pre ++ x) p in
      let v : trimmed b ≡ (pre ++ trimmed_record b o) ++ rest (o + length_at b o) = u ∙ sym (append_assoc pre (trimmed_record b o) (rest (o + length_at b o))) in
      let at : trimmed_place b o ≡ length pre = let x = ap length t in let y = length-append pre (rest o) in omega arith in
      let S : SameRecord b (trimmed b) o (trimmed_place b o) =
      subst (λ q. SameRecord b (trimmed b) o q) (sym at) (subst (λ d. SameRecord b d o (length pre)) (sym u) (same_record o R pre (rest (o + length_at b o)))) in
      let size-at : length_at (trimmed b) (trimmed_place b o) ≡ trimmed_length b o =
      ap (λ q. length_at (trimmed b) q) at ∙ (ap (λ d. length_at d (length pre)) u ∙ size o R pre (rest (o + length_at b o))) in
      let step : trimmed_place b (o + length_at b o) ≡ trimmed_place b o + length_at (trimmed b) (trimmed_place b o) =
      let x = ap length v in
      let y = length-append (pre ++ trimmed_record b o) (rest (o + length_at b o)) in
      let z = length-append pre (trimmed_record b o) in
      let l = record_length o R in
      omega arith in
      Same.next o S step (same_from F (pre ++ trimmed_record b o) v)

  pub trimmed_same : ReadableFrom b 0 → SameRecords b (trimmed b) (trimmed_place b)
  unfolding trimmed trimmed_place
  trimmed_same F = record { start = omega arith; each = same_from F [] refl }
