-- A test that passes at every kind of the table holds of each kind: so a fact of all kinds is one computation.
use Prim.Native.Nat.{ℕ, ◌≤◌}
use mathlib.Core.Path.{◌≡◌, refl, sym}
use mathlib.Core.Bool.{Bool, true, false, ◌&&◌, ◌||◌}
use mathlib.Core.List.{List, [], ◌∷◌}
use mathlib.Core.Option.{none, some}
use lib.ListN.{length, get_or}
use lib.Dec.{eqb, leb}
use Rattle.image.specs.Kinds.{Field, a_type, own, free, a_term, an_entry, TypeKind, TermKind, Kind, domain, type, term, term_row, row_of, find, kinds}
use Rattle.laws.proofs.Booleans.{no_path, and_l, and_r, le_of}
use Rattle.image.proofs.KindNumbers.{found}

unfoldable pub every_of : (Kind → Bool) → List Kind → Bool
every_of f [] = true
every_of f (k ∷ ks) = f k && every_of f ks

find_every : (f : Kind → Bool) (n : ℕ) (k : Kind) (ks : List Kind) → find n ks ≡ some k → every_of f ks ≡ true → f k ≡ true
unfolding find every_of
find_every f n k [] e h = let z : none ≡ some k = e in no_path cc
find_every f n k (j ∷ ks) e h = try (eqb (row_of j).number n) refl (λ q. find_every f n k ks q (and_r (f j) (every_of f ks) h))
  where
    try : (b : Bool) → eqb (row_of j).number n ≡ b → (find n ks ≡ some k → f k ≡ true) → f k ≡ true
    try true q ih = let z : some j ≡ some k = rw (q, find) at e in let y : j ≡ k = cc in rw (← y) (and_l (f j) (every_of f ks) h)
    try false q ih = ih (rw (q, find) at e)

-- A test of all kinds; of the kinds of types alone; of the kinds of terms alone.
abbrev pub Everywhere : (Kind → Bool) → Type 0
Everywhere f = every_of f kinds ≡ true

pub at_kind : (f : Kind → Bool) → Everywhere f → (k : Kind) → f k ≡ true
at_kind f h k = find_every f (row_of k).number k kinds (found k) h

abbrev pub of_types : (TypeKind → Bool) → Kind → Bool
of_types f domain = true
of_types f (type k) = f k
of_types f (term k) = true

abbrev pub of_terms : (TermKind → Bool) → Kind → Bool
of_terms f domain = true
of_terms f (type k) = true
of_terms f (term k) = f k

pub at_type : (f : TypeKind → Bool) → Everywhere (of_types f) → (k : TypeKind) → f k ≡ true
at_type f h k = at_kind (of_types f) h (type k)

pub at_term : (f : TermKind → Bool) → Everywhere (of_terms f) → (k : TermKind) → f k ≡ true
at_term f h k = at_kind (of_terms f) h (term k)

-- One of two tests holds, and not the first.
pub or_else : (a b : Bool) → a || b ≡ true → (a ≡ true → ⊥) → b ≡ true
or_else true b h n = absurd (n refl)
or_else false b h n = h

-- A term's record has a field for its type, and it is the first.
pub has_type : (k : TermKind) → 1 ≤ length (term_row k).first
unfolding every_of
has_type k = le_of (at_term (λ k. leb 1 (length (term_row k).first)) refl k)

abbrev is_type : Field → Bool
is_type a_type = true
is_type (own r) = false
is_type (a_term b) = false
is_type an_entry = false

is_type_lem : (f : Field) → is_type f ≡ true → f ≡ a_type
is_type_lem a_type h = refl
is_type_lem (own r) h = no_path (sym h)
is_type_lem (a_term b) h = no_path (sym h)
is_type_lem an_entry h = no_path (sym h)

pub type_first : (k : TermKind) → get_or (term_row k).first 0 free ≡ a_type
unfolding every_of
type_first k = is_type_lem (get_or (term_row k).first 0 free) (at_term (λ k. is_type (get_or (term_row k).first 0 free)) refl k)
