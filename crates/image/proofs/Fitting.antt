-- Others and children that come from one record of a kind; of a match, as many pointcuts as children behind its first three (card 6).
use Prim.Native.Nat.{ℕ, zero, suc, ◌+◌}
use native.Mathlib.Omega.{arith}
use mathlib.Core.Path.{◌≡◌, refl, ap}
use mathlib.Core.List.{List, [], ◌∷◌, ◌++◌}
use lib.ListN.{length}
use Rattle.calculus.specs.Syntax.{Pattern, at_end, at_rest, anything, pointcut}
use Rattle.image.specs.Kinds.{Field, a_truth, an_entry, TermKind, term_row, again, fields_of}
use Rattle.image.specs.Records.{as_child, as_other, given}
use Rattle.image.specs.Program.{pattern_of}

-- The others vs and n children are those of a record of kind k.
pub record Fitting (k : TermKind) (vs : List ℕ) (n : ℕ) : Type 0 where
  pub times : ℕ
  pub numbers : List ℕ
  pub size : length numbers ≡ length (fields_of (term_row k) times)
  pub others : vs ≡ given as_other (fields_of (term_row k) times) numbers
  pub children : n ≡ length (given as_child (fields_of (term_row k) times) numbers)

-- How many pointcuts a pattern has.
abbrev pub pointcuts : Pattern → ℕ
pointcuts at_end = 0
pointcuts at_rest = 0
pointcuts (anything p) = pointcuts p
pointcuts (pointcut p) = suc (pointcuts p)

-- The fields of c entries and a close.
abbrev entries : ℕ → List Field
entries c = again c (an_entry ∷ []) ++ (a_truth ∷ [])

-- An entry before others, the last of which is the close.
entry_first : (v c : ℕ) (us : List ℕ) → length us ≡ length (entries c)
    → pointcuts (pattern_of (given as_other (entries (suc c)) (v ∷ us))) ≡ length (as_child an_entry v) + pointcuts (pattern_of (given as_other (entries c) us))
entry_first v zero [] l = absurd (omega arith)
entry_first v (suc c) [] l = absurd (omega arith)
entry_first zero zero (u ∷ us) l = omega arith
entry_first zero (suc c) (zero ∷ us) l = omega arith
entry_first zero (suc c) (suc u ∷ us) l = omega arith
entry_first (suc v) zero (u ∷ us) l = omega arith
entry_first (suc v) (suc c) (zero ∷ us) l = omega arith
entry_first (suc v) (suc c) (suc u ∷ us) l = omega arith

no_pointcut : (u : ℕ) → pointcuts (pattern_of (u ∷ [])) ≡ 0
no_pointcut zero = refl
no_pointcut (suc u) = refl

pointcuts_count : (c : ℕ) (us : List ℕ) → length us ≡ length (entries c) → pointcuts (pattern_of (given as_other (entries c) us)) ≡ length (given as_child (entries c) us)
pointcuts_count zero [] l = absurd (omega arith)
pointcuts_count zero (u ∷ us) l = no_pointcut u
pointcuts_count (suc c) [] l = absurd (omega arith)
pointcuts_count (suc c) (zero ∷ us) l = let i = pointcuts_count c us (omega arith) in let e = entry_first zero c us (omega arith) in omega arith
pointcuts_count (suc c) (suc u ∷ us) l = let i = pointcuts_count c us (omega arith) in let e = entry_first (suc u) c us (omega arith) in omega arith

pub match_pointcuts : (vs : List ℕ) (n : ℕ) → Fitting TermKind.match vs n → 3 + pointcuts (pattern_of vs) ≡ n
match_pointcuts vs n f = go f.numbers f.size f.others f.children
  where
    c : ℕ
    c = f.times

    go : (ws : List ℕ) → length ws ≡ length (fields_of (term_row TermKind.match) c) → vs ≡ given as_other (fields_of (term_row TermKind.match) c) ws → n ≡ length (given as_child (fields_of (term_row TermKind.match) c) ws)
        → 3 + pointcuts (pattern_of vs) ≡ n
    go [] l o h = absurd (omega arith)
    go (t ∷ []) l o h = absurd (omega arith)
    go (t ∷ s ∷ []) l o h = absurd (omega arith)
    go (t ∷ s ∷ e ∷ []) l o h = absurd (omega arith)
    go (t ∷ s ∷ e ∷ g ∷ us) l o h =
        let i = pointcuts_count c us (omega arith) in
        let q : pointcuts (pattern_of vs) ≡ pointcuts (pattern_of (given as_other (entries c) us)) = ap (λ x. pointcuts (pattern_of x)) o in
        omega arith
