-- The record of a match (card 6) as a program that reads bytes finds it: the type, the stack, the two branches, the entries, and the close, which is the last.
use Prim.Native.Nat.{ℕ, zero, suc, ◌+◌, ◌*◌}
use native.Mathlib.Omega.{arith}
use mathlib.Core.Path.{◌≡◌, refl, ap, ◌∙◌}
use mathlib.Core.List.{List, [], ◌∷◌, ◌++◌, append-nil}
use lib.ListN.{length, length-append}
use Rattle.image.specs.Bytes.{le16, words, length_at, field_at}
use Rattle.image.specs.Kinds.{Field, a_truth, an_entry, TermKind, term_row, again}
use Rattle.image.specs.Records.{times, fields_at, as_child, as_other, given, children_at, others_at}
use Rattle.image.proofs.Offsets.{given_split}

-- c entries, of c fields.
abbrev pub some_entries : ℕ → List Field
some_entries c = again c (an_entry ∷ [])

entries_length : (c : ℕ) → length (some_entries c) ≡ c
entries_length zero = refl
entries_length (suc c) = ap suc (entries_length c)

-- Behind them the close.
close_last : (of : Field → ℕ → List ℕ) (c : ℕ) (b : List ℕ) (o : ℕ)
    → given of (some_entries c ++ (a_truth ∷ [])) (words b o (length (some_entries c ++ (a_truth ∷ [])))) ≡ given of (some_entries c) (words b o c) ++ of a_truth (le16 b (o + 2 * c))
unfolding words
close_last of c b o =
    given_split of (some_entries c) (a_truth ∷ []) b o
    ∙ ap (λ n. given of (some_entries c) (words b o n) ++ (of a_truth (le16 b (o + 2 * n)) ++ [])) (entries_length c)
    ∙ ap (λ vs. given of (some_entries c) (words b o c) ++ vs) (append-nil (of a_truth (le16 b (o + 2 * c))))

module _ (b : List ℕ) (o : ℕ) where
  abbrev pub entry_count : ℕ
  entry_count = times (term_row TermKind.match) (length_at b o)

  pub match_fields_lem : length (fields_at b o (term_row TermKind.match)) ≡ 5 + entry_count
  match_fields_lem = let e = length-append (some_entries entry_count) (a_truth ∷ []) in let n = entries_length entry_count in omega arith

  -- What the entries and the close give, from p on.
  abbrev behind : (Field → ℕ → List ℕ) → ℕ → List ℕ
  behind of p = given of (some_entries entry_count ++ (a_truth ∷ [])) (words b p (length (some_entries entry_count ++ (a_truth ∷ []))))

  -- Its children are the stack, the branches, and those that the entries give.
  pub match_children : children_at b o (term_row TermKind.match) ≡ field_at b o 1 ∷ field_at b o 2 ∷ field_at b o 3 ∷ given as_child (some_entries entry_count) (words b (o + 12) entry_count)
  unfolding words
  match_children =
      let z : o + 4 + 2 + 2 + 2 + 2 ≡ o + 12 = omega arith in
      let one : o + 4 + 2 ≡ o + 4 + 2 * 1 = omega arith in
      let two : o + 4 + 2 + 2 ≡ o + 4 + 2 * 2 = omega arith in
      let three : o + 4 + 2 + 2 + 2 ≡ o + 4 + 2 * 3 = omega arith in
      let rest = ap (behind as_child) z ∙ close_last as_child entry_count b (o + 12) ∙ append-nil (given as_child (some_entries entry_count) (words b (o + 12) entry_count)) in
      cc

  -- Its others are 0 or 1 for each entry, and the close.
  pub match_others : others_at b o (term_row TermKind.match) ≡ given as_other (some_entries entry_count) (words b (o + 12) entry_count) ++ (field_at b o (4 + entry_count) ∷ [])
  unfolding words
  match_others =
      let z : o + 4 + 2 + 2 + 2 + 2 ≡ o + 12 = omega arith in
      let e : o + 12 + 2 * entry_count ≡ o + 4 + 2 * (4 + entry_count) = omega arith in
      ap (behind as_other) z ∙ close_last as_other entry_count b (o + 12) ∙ ap (λ p. given as_other (some_entries entry_count) (words b (o + 12) entry_count) ++ (le16 b p ∷ [])) e
