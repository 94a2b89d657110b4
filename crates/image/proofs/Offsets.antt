-- Fields and children as a program that reads bytes finds them: field i at its offset; of a term, its own fields right behind its type, its children, side by side, behind these, and its last own fields. A match's are not all side by side (Entries).
use Prim.Native.Nat.{ℕ, zero, suc, ◌+◌, ◌-◌, ◌*◌, ◌≤◌, ◌<◌}
use native.Mathlib.Omega.{arith}
use mathlib.Core.Path.{◌≡◌, refl, sym, ap, ◌∙◌}
use mathlib.Core.Bool.{Bool, true, false, ◌||◌}
use mathlib.Core.Logic.{◌⊎◌, inl, inr}
use mathlib.Core.List.{List, [], ◌∷◌, ◌++◌, append-nil, append_assoc}
use lib.ListN.{length, get_or, length-append, get_or-append, get_or-eq_default}
use Rattle.laws.specs.Tests.{all}
use Rattle.image.specs.Bytes.{le16, words, length_at, field_at}
use Rattle.image.specs.Kinds.{Field, a_type, own, a_term, an_entry, TermKind, Row, term_row, is_kind, again, lead, lead_of, trail_of}
use Rattle.image.specs.Records.{times, fields_at, numbers_at, as_child, as_other, given, children_at, others_at}
use Rattle.laws.proofs.Booleans.{no_path, eq_of}
use Rattle.laws.proofs.Tests.{each}
use Rattle.image.proofs.KindNumbers.{same_term_kind}
use Rattle.image.proofs.Words.{words_length, words_at}
use Rattle.image.proofs.EveryKind.{every_of, at_term, or_else}

-- Field i of a record that has it; 0 where it has not.
pub number_at_lem : (b : List ℕ) (o : ℕ) (r : Row) (i : ℕ) → i < length (fields_at b o r) → get_or (numbers_at b o r) i 0 ≡ field_at b o i
number_at_lem b o r i h = words_at b (o + 4) (length (fields_at b o r)) i h

pub no_number : (b : List ℕ) (o : ℕ) (r : Row) (i : ℕ) → length (fields_at b o r) ≤ i → get_or (numbers_at b o r) i 0 ≡ 0
no_number b o r i h = get_or-eq_default (numbers_at b o r) 0 (let e = words_length b (o + 4) (length (fields_at b o r)) in omega arith)

-- All are children; and own fields, then children.
abbrev all_terms : List Field → Bool
all_terms [] = true
all_terms (a_type ∷ fs) = false
all_terms (own r ∷ fs) = false
all_terms (a_term b ∷ fs) = all_terms fs
all_terms (an_entry ∷ fs) = false

abbrev own_first : List Field → Bool
own_first [] = true
own_first (a_type ∷ fs) = false
own_first (own r ∷ fs) = own_first fs
own_first (a_term b ∷ fs) = all_terms fs
own_first (an_entry ∷ fs) = false

terms_append : (fs gs : List Field) → all_terms fs ≡ true → all_terms gs ≡ true → all_terms (fs ++ gs) ≡ true
terms_append [] gs h g = g
terms_append (a_type ∷ fs) gs h g = no_path (sym h)
terms_append (own r ∷ fs) gs h g = no_path (sym h)
terms_append (a_term b ∷ fs) gs h g = terms_append fs gs h g
terms_append (an_entry ∷ fs) gs h g = no_path (sym h)

terms_again : (n : ℕ) (fs : List Field) → all_terms fs ≡ true → all_terms (again n fs) ≡ true
terms_again zero fs h = refl
terms_again (suc n) fs h = terms_append fs (again n fs) h (terms_again n fs h)

terms_own : (fs : List Field) → all_terms fs ≡ true → own_first fs ≡ true
terms_own [] h = refl
terms_own (a_type ∷ fs) h = no_path (sym h)
terms_own (own r ∷ fs) h = no_path (sym h)
terms_own (a_term b ∷ fs) h = h
terms_own (an_entry ∷ fs) h = no_path (sym h)

terms_lead : (fs : List Field) → all_terms fs ≡ true → lead fs ≡ 0
terms_lead [] h = refl
terms_lead (a_type ∷ fs) h = no_path (sym h)
terms_lead (own r ∷ fs) h = no_path (sym h)
terms_lead (a_term b ∷ fs) h = refl
terms_lead (an_entry ∷ fs) h = no_path (sym h)

own_append : (fs gs : List Field) → own_first fs ≡ true → all_terms gs ≡ true → (own_first (fs ++ gs) ≡ true) × (lead (fs ++ gs) ≡ lead fs)
own_append [] gs h g = (terms_own gs g, terms_lead gs g)
own_append (a_type ∷ fs) gs h g = no_path (sym h)
own_append (own r ∷ fs) gs h g = let i = own_append fs gs h g in (i.0, ap suc i.1)
own_append (a_term b ∷ fs) gs h g = (terms_append fs gs h g, refl)
own_append (an_entry ∷ fs) gs h g = no_path (sym h)

-- What such fields give.
terms_given : (fs : List Field) (b : List ℕ) (o : ℕ) → all_terms fs ≡ true → (given as_child fs (words b o (length fs)) ≡ words b o (length fs)) × (given as_other fs (words b o (length fs)) ≡ [])
unfolding words
terms_given [] b o h = (refl, refl)
terms_given (a_type ∷ fs) b o h = no_path (sym h)
terms_given (own r ∷ fs) b o h = no_path (sym h)
terms_given (a_term x ∷ fs) b o h = let i = terms_given fs b (o + 2) h in (ap (λ vs. le16 b o ∷ vs) i.0, i.1)
terms_given (an_entry ∷ fs) b o h = no_path (sym h)

own_given : (fs : List Field) (b : List ℕ) (o : ℕ) → own_first fs ≡ true
    → (given as_child fs (words b o (length fs)) ≡ words b (o + 2 * lead fs) (length fs - lead fs)) × (given as_other fs (words b o (length fs)) ≡ words b o (lead fs)) × (lead fs ≤ length fs)
unfolding words
own_given [] b o h = (refl, refl, omega arith)
own_given (a_type ∷ fs) b o h = no_path (sym h)
own_given (own r ∷ fs) b o h =
    let i = own_given fs b (o + 2) h in
    let e : o + 2 + 2 * lead fs ≡ o + 2 * suc (lead fs) = omega arith in
    let n : length fs - lead fs ≡ suc (length fs) - suc (lead fs) = omega arith in
    (i.0 ∙ ap (λ p. words b p (length fs - lead fs)) e ∙ ap (λ m. words b (o + 2 * suc (lead fs)) m) n, ap (λ vs. le16 b o ∷ vs) i.1, let l = i.2 in omega arith)
own_given (a_term x ∷ fs) b o h =
    let i = terms_given (a_term x ∷ fs) b o h in
    let e : o ≡ o + 2 * 0 = omega arith in
    let n : suc (length fs) ≡ suc (length fs) - 0 = omega arith in
    (i.0 ∙ ap (λ p. words b p (suc (length fs))) e ∙ ap (λ m. words b (o + 2 * 0) m) n, i.1, omega arith)
own_given (an_entry ∷ fs) b o h = no_path (sym h)

-- A term's type, then own fields, then children.
abbrev ordered : List Field → Bool
ordered [] = false
ordered (a_type ∷ fs) = own_first fs
ordered (own r ∷ fs) = false
ordered (a_term b ∷ fs) = false
ordered (an_entry ∷ fs) = false

-- All are own fields.
abbrev all_own : List Field → Bool
all_own [] = true
all_own (a_type ∷ fs) = false
all_own (own r ∷ fs) = all_own fs
all_own (a_term b ∷ fs) = false
all_own (an_entry ∷ fs) = false

abbrev ordered_row : Row → Bool
ordered_row r = all (ordered r.first ∷ all_own r.last ∷ [])

-- Each field of a kind's group is a child, so that its children stand side by side; which only a match's are not.
abbrev pub side_by_side : TermKind → Bool
side_by_side k = all_terms (term_row k).group

abbrev is_match : TermKind → Bool
is_match k = is_kind TermKind.match k

pub side_or_match : (k : TermKind) → (side_by_side k ≡ true) ⊎ (k ≡ TermKind.match)
unfolding every_of
side_or_match k = pick (side_by_side k) refl
  where
    pick : (s : Bool) → side_by_side k ≡ s → (side_by_side k ≡ true) ⊎ (k ≡ TermKind.match)
    pick true e = inl e
    pick false e = inr (same_term_kind k TermKind.match (eq_of {m = (term_row k).number} (or_else (side_by_side k) (is_match k) (at_term (λ k. side_by_side k || is_match k) refl k) (λ t. no_path (sym t ∙ e)))))

-- What is read of such fields.
record Read (fs : List Field) (d : ℕ) (b : List ℕ) (o : ℕ) : Type 0 where
  children : given as_child fs (words b o (length fs)) ≡ words b (o + 2 * d) (length fs - d)
  others : given as_other fs (words b o (length fs)) ≡ words b (o + 2) (d - 1)
  fits : (1 ≤ d) × (d ≤ length fs)

read_of : (fs gs : List Field) (b : List ℕ) (o : ℕ) → ordered fs ≡ true → all_terms gs ≡ true → Read (fs ++ gs) (lead fs) b o
unfolding words
read_of [] gs b o h g = no_path (sym h)
read_of (own r ∷ fs) gs b o h g = no_path (sym h)
read_of (a_term x ∷ fs) gs b o h g = no_path (sym h)
read_of (an_entry ∷ fs) gs b o h g = no_path (sym h)
read_of (a_type ∷ fs) gs b o h g =
    let a = own_append fs gs h g in
    let i = own_given (fs ++ gs) b (o + 2) a.0 in
    let l : lead (fs ++ gs) ≡ lead fs = a.1 in
    let e : o + 2 + 2 * lead (fs ++ gs) ≡ o + 2 * suc (lead fs) = omega arith in
    let n : length (fs ++ gs) - lead (fs ++ gs) ≡ suc (length (fs ++ gs)) - suc (lead fs) = omega arith in
    let m : lead (fs ++ gs) ≡ suc (lead fs) - 1 = omega arith in
    let z = i.2 in
    record {
      children = i.0 ∙ ap (λ p. words b p (length (fs ++ gs) - lead (fs ++ gs))) e ∙ ap (λ k. words b (o + 2 * suc (lead fs)) k) n;
      others = i.1 ∙ ap (λ k. words b (o + 2) k) m;
      fits = (omega arith, omega arith);
    }

-- The last own fields.
own_last : (zs : List Field) (b : List ℕ) (o : ℕ) → all_own zs ≡ true → (given as_child zs (words b o (length zs)) ≡ []) × (given as_other zs (words b o (length zs)) ≡ words b o (length zs))
unfolding words
own_last [] b o h = (refl, refl)
own_last (a_type ∷ zs) b o h = no_path (sym h)
own_last (own r ∷ zs) b o h = let i = own_last zs b (o + 2) h in (i.0, ap (λ vs. le16 b o ∷ vs) i.1)
own_last (a_term x ∷ zs) b o h = no_path (sym h)
own_last (an_entry ∷ zs) b o h = no_path (sym h)

given_append : (of : Field → ℕ → List ℕ) (fs gs : List Field) (vs ws : List ℕ) → length vs ≡ length fs → given of (fs ++ gs) (vs ++ ws) ≡ given of fs vs ++ given of gs ws
given_append of [] gs [] ws h = refl
given_append of [] gs (v ∷ vs) ws h = absurd (omega arith)
given_append of (f ∷ fs) gs [] ws h = absurd (omega arith)
given_append of (f ∷ fs) gs (v ∷ vs) ws h = ap (λ xs. of f v ++ xs) (given_append of fs gs vs ws (omega arith)) ∙ sym (append_assoc (of f v) (given of fs vs) (given of gs ws))

words_append : (b : List ℕ) (o m n : ℕ) → words b o (m + n) ≡ words b o m ++ words b (o + 2 * m) n
unfolding words
words_append b o zero n = let e : o ≡ o + 2 * 0 = omega arith in let z : 0 + n ≡ n = omega arith in ap (words b o) z ∙ ap (λ p. words b p n) e
words_append b o (suc m) n =
    let e : o + 2 + 2 * m ≡ o + 2 * suc m = omega arith in
    let z : suc m + n ≡ suc (m + n) = omega arith in
    ap (words b o) z ∙ ap (λ vs. le16 b o ∷ vs) (words_append b (o + 2) m n ∙ ap (λ p. words b (o + 2) m ++ words b p n) e)

-- What the fields fs and then zs give.
pub given_split : (of : Field → ℕ → List ℕ) (fs zs : List Field) (b : List ℕ) (o : ℕ)
    → given of (fs ++ zs) (words b o (length (fs ++ zs))) ≡ given of fs (words b o (length fs)) ++ given of zs (words b (o + 2 * length fs) (length zs))
given_split of fs zs b o =
    ap (λ n. given of (fs ++ zs) (words b o n)) (length-append fs zs)
    ∙ ap (given of (fs ++ zs)) (words_append b o (length fs) (length zs))
    ∙ given_append of fs zs (words b o (length fs)) (words b (o + 2 * length fs) (length zs)) (words_length b o (length fs))

module _ (fs zs : List Field) (d : ℕ) (b : List ℕ) (o : ℕ) (R : Read fs d b o) (h : all_own zs ≡ true) where
  split_children : given as_child (fs ++ zs) (words b o (length (fs ++ zs))) ≡ words b (o + 2 * d) (length fs - d)
  split_children =
      given_split as_child fs zs b o ∙ ap (λ xs. given as_child fs (words b o (length fs)) ++ xs) (own_last zs b (o + 2 * length fs) h).0
      ∙ append-nil (given as_child fs (words b o (length fs)))
      ∙ R.children

  split_others : given as_other (fs ++ zs) (words b o (length (fs ++ zs))) ≡ words b (o + 2) (d - 1) ++ words b (o + 2 * length fs) (length zs)
  split_others =
      given_split as_other fs zs b o ∙ ap (λ xs. given as_other fs (words b o (length fs)) ++ xs) (own_last zs b (o + 2 * length fs) h).1
      ∙ ap (λ xs. xs ++ words b (o + 2 * length fs) (length zs)) R.others

module _ (k : TermKind) (side : side_by_side k ≡ true) (b : List ℕ) (o : ℕ) where
  abbrev r : Row
  r = term_row k

  -- The fields before the last own ones.
  abbrev before : List Field
  before = r.first ++ again (times r (length_at b o)) r.group

  rows : all (ordered r.first ∷ all_own r.last ∷ []) ≡ true
  unfolding every_of all
  rows = at_term (λ k. ordered_row (term_row k)) refl k

  read : Read before (lead_of k) b (o + 4)
  read = let t = each _ rows in read_of r.first (again (times r (length_at b o)) r.group) b (o + 4) t.0 (terms_again (times r (length_at b o)) r.group side)

  last_own : all_own r.last ≡ true
  last_own = (each _ rows).1.0

  fields_are : fields_at b o r ≡ before ++ r.last
  fields_are = sym (append_assoc r.first (again (times r (length_at b o)) r.group) r.last)

  before_count : length before ≡ length (fields_at b o r) - trail_of k
  before_count = let e = ap length fields_are ∙ length-append before r.last in omega arith

  -- The children are the fields behind the lead, and the others those between it and the type, and the last.
  pub children_at_lem : children_at b o r ≡ words b (o + 4 + 2 * lead_of k) (length (fields_at b o r) - trail_of k - lead_of k)
  children_at_lem =
      ap (λ fs. given as_child fs (words b (o + 4) (length fs))) fields_are ∙ split_children before r.last (lead_of k) b (o + 4) read last_own
      ∙ ap (λ n. words b (o + 4 + 2 * lead_of k) (n - lead_of k)) before_count

  pub others_at_lem : others_at b o r ≡ words b (o + 6) (lead_of k - 1) ++ words b (o + 4 + 2 * (length (fields_at b o r) - trail_of k)) (trail_of k)
  others_at_lem =
      let e : o + 4 + 2 ≡ o + 6 = omega arith in
      ap (λ fs. given as_other fs (words b (o + 4) (length fs))) fields_are ∙ split_others before r.last (lead_of k) b (o + 4) read last_own
      ∙ ap (λ p. words b p (lead_of k - 1) ++ words b (o + 4 + 2 * length before) (trail_of k)) e
      ∙ ap (λ n. words b (o + 6) (lead_of k - 1) ++ words b (o + 4 + 2 * n) (trail_of k)) before_count

  pub fields_count : length (fields_at b o r) ≡ lead_of k + length (children_at b o r) + trail_of k
  fields_count =
      let n = ap length children_at_lem ∙ words_length b (o + 4 + 2 * lead_of k) (length (fields_at b o r) - trail_of k - lead_of k) in
      let f = read.fits.1 in
      let e = ap length fields_are ∙ length-append before r.last in
      omega arith

  pub child_at_lem : (i : ℕ) → i < length (children_at b o r) → get_or (children_at b o r) i 0 ≡ field_at b o (lead_of k + i)
  child_at_lem i h =
      let n = fields_count in
      let e : o + 4 + 2 * lead_of k + 2 * i ≡ o + 4 + 2 * (lead_of k + i) = omega arith in
      ap (λ es. get_or es i 0) children_at_lem ∙ words_at b (o + 4 + 2 * lead_of k) (length (fields_at b o r) - trail_of k - lead_of k) i (omega arith) ∙ ap (λ p. le16 b p) e

  pub other_at : (i : ℕ) → suc i < lead_of k → get_or (others_at b o r) i 0 ≡ field_at b o (suc i)
  other_at i h =
      let e : o + 6 + 2 * i ≡ o + 4 + 2 * suc i = omega arith in
      let l = words_length b (o + 6) (lead_of k - 1) in
      ap (λ vs. get_or vs i 0) others_at_lem ∙ get_or-append (words b (o + 6) (lead_of k - 1)) _ 0 i (omega arith) ∙ words_at b (o + 6) (lead_of k - 1) i (omega arith) ∙ ap (λ p. le16 b p) e
