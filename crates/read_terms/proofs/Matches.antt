-- The part of a match (card 6): its children and its close.
use Prim.Native.Nat.{ℕ, zero, suc, ◌+◌, ◌*◌, ◌/◌, ◌-◌, ◌≤◌, ◌<◌}
use native.Mathlib.Omega.{arith}
use mathlib.Core.Path.{◌≡◌, refl, sym, ap, ◌∙◌}
use mathlib.Core.List.{List, [], ◌∷◌, ◌++◌, append-nil}
use lib.ListN.{length, get_or, length-append}
use lib.Dec.{ltb}
use borrow.Author.Tests.{lt-ltb}
use Rattle.image.specs.Bytes.{le16, words}
use Rattle.image.specs.Kinds.{Field, a_truth, free, an_entry, TermKind, term_row, again}
use Rattle.image.specs.Records.{as_child, as_other, given}
use Rattle.image.specs.Program.{close_of, pattern_of}
use Rattle.image.proofs.Counts.{fields_length}
use Rattle.image.proofs.Offsets.{given_split}
use Rattle.verdict.specs.Settings.{binds_rest}
use Rattle.image.specs.Layout.{records_of}
use Rattle.read_records.specs.Heads.{field_in, entries_from}
use Rattle.read_records.proofs.Entries.{entries_left, all_left, next_left, none_left}
use Rattle.read_terms.specs.Fields.{classes_in, children_in, others_in, first_entry, entry_count, entry_terms, Entries}
use Rattle.read_terms.specs.Lent.{IsTerm}

abbrev pub entries : ℕ → List Field
entries c = again c (an_entry ∷ [])

entries_length : (c : ℕ) → length (entries c) ≡ c
entries_length c =
    let f = fields_length (term_row TermKind.match) c in
    let a = length-append (entries c) (a_truth ∷ []) in
    omega arith

-- Field i of c entries is one.
pub entry_class : (c : ℕ) (fs : List Field) (i : ℕ) → i < c → get_or (entries c ++ fs) i free ≡ an_entry
entry_class zero fs i h = absurd (omega arith)
entry_class (suc c) fs zero h = refl
entry_class (suc c) fs (suc i) h = entry_class c fs i (omega arith)

-- An entry names one term at most; the terms behind it.
pub few_named : (v : ℕ) → length (as_child an_entry v) ≤ 1
few_named zero = omega arith
few_named (suc e) = omega arith

pub first_named : (v e : ℕ) (xs : List ℕ) → v ≡ suc e → e ≡ get_or (as_child an_entry v ++ xs) 0 0
first_named v e xs h = rw h refl

pub later_named : (v j : ℕ) (xs : List ℕ) → (0 < v → 0 < j) → j < length (as_child an_entry v ++ xs)
    → (j - length (as_child an_entry v) < length xs) × (get_or xs (j - length (as_child an_entry v)) 0 ≡ get_or (as_child an_entry v ++ xs) j 0)
later_named zero j xs g h = let e : j - 0 ≡ j = omega arith in rw e (h, refl)
later_named (suc v) zero xs g h = absurd (let z = g (omega arith) in omega arith)
later_named (suc v) (suc j) xs g h = let e : suc j - 1 ≡ j = omega arith in rw e (omega arith, refl)

named_there : (m v : ℕ) (xs : List ℕ) → v ≤ m → ((i : ℕ) → i < length xs → get_or xs i 0 < m) → (i : ℕ) → i < length (as_child an_entry v ++ xs) → get_or (as_child an_entry v ++ xs) i 0 < m
named_there m zero xs h g i l = g i l
named_there m (suc e) xs h g zero l = h
named_there m (suc e) xs h g (suc i) l = g i (omega arith)

-- The last of a match's other fields decides whether the rest of the stack is bound.
closes : (v : ℕ) → binds_rest (close_of v) ≡ ltb 0 v
closes zero = refl
closes (suc v) = sym (lt-ltb 0 (suc v) (omega arith))

close_decides : (vs : List ℕ) (v : ℕ) → binds_rest (pattern_of (vs ++ (v ∷ []))) ≡ ltb 0 v
close_decides [] v = closes v
close_decides (zero ∷ []) v = closes v
close_decides (suc u ∷ []) v = closes v
close_decides (zero ∷ w ∷ vs) v = close_decides (w ∷ vs) v
close_decides (suc u ∷ w ∷ vs) v = close_decides (w ∷ vs) v

module _ (fs : List ℕ) where
  abbrev c : ℕ
  c = entry_count fs

  pub entry_count_lem : c ≡ length fs / 2 - 5
  entry_count_lem = omega arith

  pub match_fields_lem : length (classes_in fs TermKind.match) ≡ 5 + c
  match_fields_lem = let f = fields_length (term_row TermKind.match) c in omega arith

  pub behind : (of : Field → ℕ → List ℕ) → given of (entries c ++ (a_truth ∷ [])) (words fs 8 (length (entries c ++ (a_truth ∷ [])))) ≡ given of (entries c) (words fs 8 c) ++ of a_truth (field_in fs (first_entry + c))
  unfolding words
  behind of =
      let p : 8 + 2 * c ≡ 2 * (first_entry + c) = omega arith in
      given_split of (entries c) (a_truth ∷ []) fs 8
      ∙ (ap (λ n. given of (entries c) (words fs 8 n) ++ (of a_truth (le16 fs (8 + 2 * n)) ++ [])) (entries_length c)
      ∙ (ap (λ vs. given of (entries c) (words fs 8 c) ++ vs) (append-nil (of a_truth (le16 fs (8 + 2 * c)))) ∙ ap (λ q. given of (entries c) (words fs 8 c) ++ of a_truth (le16 fs q)) p))

  pub match_children : children_in fs TermKind.match ≡ field_in fs 1 ∷ field_in fs 2 ∷ field_in fs 3 ∷ entry_terms fs
  unfolding words
  match_children = ap (λ es. field_in fs 1 ∷ field_in fs 2 ∷ field_in fs 3 ∷ es) (behind as_child ∙ append-nil (entry_terms fs))

  pub close_told : binds_rest (pattern_of (others_in fs TermKind.match)) ≡ ltb 0 (field_in fs (first_entry + c))
  unfolding words
  close_told = ap (λ vs. binds_rest (pattern_of vs)) (behind as_other) ∙ close_decides (given as_other (entries c) (words fs 8 c)) (field_in fs (first_entry + c))

-- They are no more than the entries.
entries_few : (fs : List ℕ) (p c : ℕ) → length (entries_from fs p c) ≤ c
unfolding words
entries_few fs p zero = omega arith
entries_few fs p (suc c) =
    let a = length-append (as_child an_entry (le16 fs p)) (entries_from fs (p + 2) c) in
    let f = few_named (le16 fs p) in
    let i = entries_few fs (p + 2) c in
    omega arith

-- The children of a match, by number.
module _ (fs : List ℕ) where
  pub children_few : length (entry_terms fs) ≤ length fs
  children_few = let e = entries_few fs (2 * first_entry) (entry_count fs) in let c = entry_count_lem fs in omega arith

  pub children_all : length (children_in fs TermKind.match) ≡ 3 + length (entry_terms fs)
  children_all = let z : length (children_in fs TermKind.match) ≡ suc (suc (suc (length (entry_terms fs)))) = ap length (match_children fs) in omega arith

  first_of_lem : (es : List ℕ) (j : ℕ) → j < 3 → field_in fs (1 + j) ≡ get_or (field_in fs 1 ∷ field_in fs 2 ∷ field_in fs 3 ∷ es) j 0
  first_of_lem es zero h = refl
  first_of_lem es (suc zero) h = refl
  first_of_lem es (suc (suc zero)) h = refl
  first_of_lem es (suc (suc (suc j))) h = absurd (omega arith)

  pub first_child_lem : (j : ℕ) → j < 3 → field_in fs (1 + j) ≡ get_or (children_in fs TermKind.match) j 0
  first_child_lem j h = first_of_lem (entry_terms fs) j h ∙ ap (λ es. get_or es j 0) (sym (match_children fs))

  pub later_child : (j : ℕ) → 3 ≤ j → get_or (entry_terms fs) (j - 3) 0 ≡ get_or (children_in fs TermKind.match) j 0
  later_child j h =
      let e : j ≡ suc (suc (suc (j - 3))) = omega arith in
      ap (λ k. get_or (field_in fs 1 ∷ field_in fs 2 ∷ field_in fs 3 ∷ entry_terms fs) k 0) (sym e) ∙ ap (λ es. get_or es j 0) (sym (match_children fs))

-- The terms that the entries name are there.
module _ (b fs : List ℕ) (N : Entries b fs) where
  left_there : (k j : ℕ) → j + k ≡ entry_count fs → (i : ℕ) → i < length (entries_left fs first_entry (entry_count fs) j) → IsTerm b (get_or (entries_left fs first_entry (entry_count fs) j) i 0)
  left_there zero j e i l = absurd (let z = ap length (none_left fs first_entry (entry_count fs) j (omega arith)) in omega arith)
  left_there (suc k) j e i l =
      let m : j < entry_count fs = omega arith in
      let q = next_left fs first_entry (entry_count fs) j (field_in fs (first_entry + j)) m refl in
      rw q (named_there (length (records_of b).terms) (field_in fs (first_entry + j)) (entries_left fs first_entry (entry_count fs) (j + 1)) (N.each j m) (left_there k (j + 1) (omega arith)) i (rw q at l))

  pub entry_there : (i : ℕ) → i < length (entry_terms fs) → IsTerm b (get_or (entry_terms fs) i 0)
  entry_there i l = let a = all_left fs first_entry (entry_count fs) in rw a (left_there (entry_count fs) 0 (omega arith) i (rw a at l))
