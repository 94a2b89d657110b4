-- The fields of a record, read in the part of the image that they occupy, are those of the image.
use Prim.Native.Nat.{ℕ, zero, suc, ◌+◌, ◌-◌, ◌*◌, ◌/◌, ◌≤◌, ◌<◌}
use native.Mathlib.Omega.{arith}
use mathlib.Core.Path.{◌≡◌, refl, sym, ap, subst, ◌∙◌}
use mathlib.Core.Logic.{⊎_elim}
use mathlib.Core.Bool.{Bool, true, false, not, ◌||◌}
use mathlib.Core.List.{List, [], ◌∷◌, ◌++◌, append-nil}
use lib.ListN.{length, take, drop, length-drop}
use lib.Dec.{eqb}
use lib.Seq.{length-take-le}
use borrow.Author.Tests.{not-true}
use Rattle.calculus.proofs.Choices.{by_choice}
use Rattle.calculus.specs.Combinators.{choose}
use Rattle.laws.specs.Tests.{all}
use Rattle.image.specs.Bytes.{le16, words, length_at, field_at}
use Rattle.image.specs.Kinds.{TermKind, term, Row, term_row, lead, lead_of, trail_of}
use Rattle.image.specs.Records.{times, as_child, given, children_at}
use Rattle.image.specs.Records as Records
use Rattle.image.specs.TermFields.{giving}
use Rattle.image.specs.LaidOut.{Stands}
use Rattle.laws.proofs.Booleans.{no_path, eq_of, of_eq}
use Rattle.laws.proofs.Tests.{each}
use Rattle.image.proofs.Words.{le16_part}
use Rattle.image.proofs.EveryKind.{every_of, at_term, or_else}
use Rattle.image.proofs.Counts.{fields_length}
use Rattle.image.proofs.Offsets.{side_by_side, side_or_match, children_at_lem}
use Rattle.image.proofs.Entries.{some_entries, entry_count, match_fields_lem, match_children}
use Rattle.read_records.specs.Codes.{first_children_of, group_of, count_of, last_of, children_in, entries_in}
use Rattle.read_records.specs.Heads.{field_bytes, IsWhole, fields_at, field_in, Fitting, side_of, entries_from, entries_of, children_of}
use Rattle.read_records.proofs.Codes.{Packs}

-- n bytes from a on.
abbrev pub part : List ℕ → ℕ → ℕ → List ℕ
part b a n = take n (drop a b)

pub part_length : (b : List ℕ) (a n : ℕ) → a + n ≤ length b → length (part b a n) ≡ n
part_length b a n h = length-take-le n (drop a b) (rw (length-drop a b) (omega arith))

pub words_part : (b : List ℕ) (a n m i : ℕ) → i + 2 * m ≤ n → words (part b a n) i m ≡ words b (a + i) m
unfolding words
words_part b a n zero i h = refl
words_part b a n (suc m) i h =
    let x : le16 (part b a n) i ≡ le16 b (a + i) = le16_part b a n i (omega arith) in
    let e : a + (i + 2) ≡ a + i + 2 = omega arith in
    let y : words (part b a n) (i + 2) m ≡ words b (a + i + 2) m = words_part b a n m (i + 2) (omega arith) ∙ ap (λ j. words b j m) e in
    cc

module _ (b : List ℕ) (o : ℕ) where
  pub bytes_length : IsWhole b o → length (fields_at b o) ≡ length_at b o - 4
  bytes_length W = part_length b (o + 4) (length_at b o - 4) (omega arith)

  pub field_is : (n i : ℕ) → 2 * i + 1 < n - 4 → field_in (field_bytes b o n) i ≡ field_at b o i
  field_is n i h = le16_part b (o + 4) (n - 4) (2 * i) h

-- Of each term's kind: children stand side by side among its first fields; and a kind whose group is of children has no fields behind these, and no child before them.
abbrev of_children : Row → Bool
of_children r = all (eqb (length r.last) 0 ∷ eqb (giving as_child 0 r.first) 0 ∷ [])

abbrev in_one_run : TermKind → Bool
in_one_run k = let r : Row = term_row k in all (eqb (lead r.first + giving as_child 0 r.first) (length r.first) ∷ (eqb (length r.group) 0 || (not (side_by_side k) || of_children r)) ∷ [])

every_run : (k : TermKind) → in_one_run k ≡ true
unfolding every_of all
every_run k = at_term in_one_run refl k

positive : (m : ℕ) → eqb m 0 ≡ false → 0 < m
positive zero h = no_path h
positive (suc m) h = omega arith

-- The children of a term of the kind k, whose code is x, in the part of the image that its fields occupy.
module _ (b : List ℕ) (o : ℕ) (k : TermKind) (x : ℕ) (P : Packs (term k) x) (S : Stands b (term_row k) o) where
  abbrev r : Row
  r = term_row k

  abbrev n : ℕ
  n = length_at b o

  pub whole : IsWhole b o
  whole = (omega (arith, S.size), S.inside)

  -- They stand side by side.
  module _ (side : side_by_side k ≡ true) where
    fields_counted : length (Records.fields_at b o r) ≡ count_of x + first_children_of x + times r n * group_of x + trail_of k
    fields_counted =
        let t = each _ (every_run k) in
        let f : lead r.first + giving as_child 0 r.first ≡ length r.first = eq_of t.0 in
        let e : length (Records.fields_at b o r) ≡ length r.first + (times r n * group_of x + length r.last) = rw P.group (fields_length r (times r n)) in
        let p = P.count in
        let q = P.children in
        omega arith

    grouped : eqb (group_of x) 0 ≡ false → (length r.last ≡ 0) × (first_children_of x ≡ 0)
    grouped e =
        let g : group_of x ≡ length r.group = P.group in
        let p = positive (group_of x) e in
        let t = each _ (every_run k) in
        let s = or_else (eqb (length r.group) 0) (not (side_by_side k) || of_children r) t.1.0 (λ z. let q : length r.group ≡ 0 = eq_of z in omega arith) in
        let c = each _ (or_else (not (side_by_side k)) (of_children r) s (λ z. no_path (sym side ∙ not-true (side_by_side k) z))) in
        (eq_of c.0, P.children ∙ eq_of c.1.0)

    no_entries : (m : ℕ) → entries_in x m ≡ 0
    no_entries m = by_choice (λ z. z ≡ 0) (eqb (group_of x) 0) (λ e. refl) λ e. rw (of_eq (grouped e).1) refl

    children_counted : count_of x + children_in x (n - 4) + trail_of k ≡ length (Records.fields_at b o r)
    children_counted = go (eqb (group_of x) 0) refl
      where
        go : (t : Bool) → eqb (group_of x) 0 ≡ t → count_of x + choose t (first_children_of x) (choose (eqb (first_children_of x) 0) ((n - 4) / 2 - count_of x) (first_children_of x)) + trail_of k ≡ length (Records.fields_at b o r)
        go true e =
            let f : length (Records.fields_at b o r) ≡ count_of x + first_children_of x + times r n * 0 + trail_of k = fields_counted ∙ ap (λ g. count_of x + first_children_of x + times r n * g + trail_of k) (eq_of e) in
            omega arith
        go false e =
            let f = fields_counted in
            let g : group_of x ≡ length r.group = P.group in
            let p = positive (group_of x) e in
            let z = grouped e in
            let l = z.0 in
            let c = z.1 in
            let s = S.exact (omega arith) in
            rw (of_eq c) (omega arith)

    side_fit : Fitting x (fields_at b o)
    side_fit =
        let c = children_counted in
        let s = S.size in
        let z = no_entries (n - 4) in
        rw (bytes_length b o whole) (omega arith)

    side_are : children_of x (fields_at b o) ≡ children_at b o r
    unfolding words
    side_are =
        let c = children_counted in
        let s = S.size in
        let p : count_of x ≡ lead_of k = P.count in
        let m : children_in x (n - 4) ≡ length (Records.fields_at b o r) - trail_of k - lead_of k = omega arith in
        ap (λ q. side_of x (fields_at b o) ++ entries_from (fields_at b o) (2 * (count_of x + children_in x (length (fields_at b o)))) q) (no_entries (length (fields_at b o)))
        ∙ (append-nil (side_of x (fields_at b o))
        ∙ (ap (λ q. words (fields_at b o) (2 * count_of x) (children_in x q)) (bytes_length b o whole)
        ∙ (words_part b (o + 4) (n - 4) (children_in x (n - 4)) (2 * count_of x) (omega arith)
        ∙ (ap (λ q. words b (o + 4 + 2 * q) (children_in x (n - 4))) p
        ∙ (ap (words b (o + 4 + 2 * lead_of k)) m ∙ sym (children_at_lem k side b o))))))

-- The children of a match (card 6): three, and those of its entries.
module _ (b : List ℕ) (o x : ℕ) (P : Packs (term TermKind.match) x) (S : Stands b (term_row TermKind.match) o) where
  match_bytes : length (fields_at b o) ≡ 10 + 2 * entry_count b o
  match_bytes =
      let w = whole b o TermKind.match x P S in
      let l = bytes_length b o w in
      let e = S.exact (omega arith) in
      let f = match_fields_lem b o in
      omega arith

  match_side : (m : ℕ) → children_in x m ≡ 3
  match_side m = let g : group_of x ≡ 1 = P.group in let f : first_children_of x ≡ 3 = P.children in rw (g, f) refl

  match_entries : entries_in x (length (fields_at b o)) ≡ entry_count b o
  match_entries =
      let g : group_of x ≡ 1 = P.group in
      let f : first_children_of x ≡ 3 = P.children in
      let c : count_of x ≡ 1 = P.count in
      let l : last_of x ≡ 1 = P.last in
      let m = match_bytes in
      rw (g, f, c, l) (omega arith)

  match_fit : Fitting x (fields_at b o)
  match_fit =
      let c : count_of x ≡ 1 = P.count in
      let m = match_bytes in
      rw (match_side (length (fields_at b o)), match_entries, c) (omega arith)

  match_are : children_of x (fields_at b o) ≡ children_at b o (term_row TermKind.match)
  unfolding words
  match_are =
      let c : count_of x ≡ 1 = P.count in
      let w = whole b o TermKind.match x P S in
      let l = bytes_length b o w in
      let m = match_bytes in
      let fs : List ℕ = fields_at b o in
      let N : ℕ = entry_count b o in
      let z : o + 4 + 8 ≡ o + 12 = omega arith in
      let one : o + 4 + 2 ≡ o + 4 + 2 * 1 = omega arith in
      let two : o + 4 + 2 + 2 ≡ o + 4 + 2 * 2 = omega arith in
      let three : o + 4 + 2 + 2 + 2 ≡ o + 4 + 2 * 3 = omega arith in
      let s : side_of x fs ≡ words b (o + 4 + 2) 3 = rw (match_side (length fs), c) (words_part b (o + 4) (length_at b o - 4) 3 2 (omega arith)) in
      let v : words fs 8 N ≡ words b (o + 12) N = words_part b (o + 4) (length_at b o - 4) N 8 (omega arith) ∙ ap (λ p. words b p N) z in
      let e : entries_of x fs ≡ given as_child (some_entries N) (words b (o + 12) N) = rw (match_side (length fs), match_entries, c) (ap (given as_child (some_entries N)) v) in
      let g : words b (o + 4 + 2) 3 ≡ field_at b o 1 ∷ field_at b o 2 ∷ field_at b o 3 ∷ [] = cc in
      ap (λ es. es ++ entries_of x fs) (s ∙ g) ∙ (ap (λ es. field_at b o 1 ∷ field_at b o 2 ∷ field_at b o 3 ∷ es) e ∙ sym (match_children b o))

-- The children of any term.
module _ (b : List ℕ) (o : ℕ) (k : TermKind) (x : ℕ) (P : Packs (term k) x) (S : Stands b (term_row k) o) where
  pub children_fit : Fitting x (fields_at b o)
  children_fit = ⊎_elim (λ s. side_fit b o k x P S s) (λ e. match_fit b o x (subst (λ j. Packs (term j) x) e P) (subst (λ j. Stands b (term_row j) o) e S)) (side_or_match k)

  pub children_are : children_of x (fields_at b o) ≡ children_at b o (term_row k)
  children_are =
      ⊎_elim (λ s. side_are b o k x P S s)
      (λ e. match_are b o x (subst (λ j. Packs (term j) x) e P) (subst (λ j. Stands b (term_row j) o) e S) ∙ ap (λ j. children_at b o (term_row j)) (sym e)) (side_or_match k)
