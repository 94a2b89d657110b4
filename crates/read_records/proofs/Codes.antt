-- The parts of each kind's code are what the table of kinds says: one test, computed at every kind, and the laws that follow from it.
use Prim.Native.Nat.{ℕ, zero, suc, ◌+◌, ◌-◌, ◌*◌, ◌≤◌, ◌<◌}
use native.Mathlib.Omega.{arith}
use mathlib.Core.Path.{◌≡◌, refl, sym, ap, ◌∙◌}
use mathlib.Core.Bool.{Bool, true, false, not, ◌&&◌}
use mathlib.Core.List.{List, [], ◌∷◌, ◌++◌}
use mathlib.Core.Option.{Option, none, some}
use lib.ListN.{length, get_or, get_or-eq_default}
use lib.Dec.{eqb, ltb, leb}
use borrow.Author.Tests.{ne_eqb}
use Rattle.laws.specs.Tests.{all}
use Rattle.image.specs.Kinds.{Kind, Row, row_of, find, kinds, kind_of, lead}
use Rattle.image.specs.Records.{times, as_child}
use Rattle.image.specs.TermFields.{giving}
use Rattle.laws.proofs.Booleans.{no_path, and_l, and_r, not_t, lt_of, le_of, ge_of, eq_of, by_test}
use Rattle.laws.proofs.Tests.{each}
use Rattle.image.proofs.EveryKind.{every_of, at_kind}
use Rattle.image.proofs.Counts.{fields_length}
use Rattle.read_records.specs.Codes.{section_number, class_numbers, least_length, code_of, size_of, first_children_of, group_of, count_of, last_of, least_of, classes_of, section_of, first_of, most_of, Sized, times_in, code_number, codes_from, code_count, kind_codes, code_at}

abbrev packs : Kind → Bool
packs k =
    let r : Row = row_of k in
    let x : ℕ = code_of k in
    all
    (not (eqb x 0) ∷ eqb (section_of x) (section_number k) ∷ eqb (count_of x) (lead r.first) ∷ eqb (first_children_of x) (giving as_child 0 r.first)
    ∷ eqb (first_of x) (length r.first) ∷ eqb (group_of x) (length r.group) ∷ eqb (last_of x) (length r.last)
    ∷ eqb (least_of x) r.least ∷ eqb (most_of x) r.most ∷ leb r.least r.most ∷ leb (length r.group) 2 ∷ eqb (size_of x) (least_length r)
    ∷ eqb (classes_of x) (class_numbers (r.first ++ (r.group ++ r.last)))
    ∷ [])

-- The code of a kind, taken apart.
pub record Packs (k : Kind) (x : ℕ) : Type 0 where
  pub used : eqb x 0 ≡ false
  pub section : section_of x ≡ section_number k
  pub count : count_of x ≡ lead (row_of k).first
  pub children : first_children_of x ≡ giving as_child 0 (row_of k).first
  pub first : first_of x ≡ length (row_of k).first
  pub group : group_of x ≡ length (row_of k).group
  pub last : last_of x ≡ length (row_of k).last
  pub least : least_of x ≡ (row_of k).least
  pub most : most_of x ≡ (row_of k).most
  pub between : (row_of k).least ≤ (row_of k).most
  pub few : length (row_of k).group ≤ 2
  pub size : size_of x ≡ least_length (row_of k)
  pub classes : classes_of x ≡ class_numbers ((row_of k).first ++ ((row_of k).group ++ (row_of k).last))

every_packs : (k : Kind) → packs k ≡ true
unfolding every_of all class_numbers
every_packs k = at_kind packs refl k

code_packs : (k : Kind) → Packs k (code_of k)
code_packs k =
    let z = each _ (every_packs k) in
    record {
      used = not_t (eqb (code_of k) 0) z.0;
      section = eq_of z.1.0;
      count = eq_of z.1.1.0;
      children = eq_of z.1.1.1.0;
      first = eq_of z.1.1.1.1.0;
      group = eq_of z.1.1.1.1.1.0;
      last = eq_of z.1.1.1.1.1.1.0;
      least = eq_of z.1.1.1.1.1.1.1.0;
      most = eq_of z.1.1.1.1.1.1.1.1.0;
      between = le_of z.1.1.1.1.1.1.1.1.1.0;
      few = le_of z.1.1.1.1.1.1.1.1.1.1.0;
      size = eq_of z.1.1.1.1.1.1.1.1.1.1.1.0;
      classes = eq_of z.1.1.1.1.1.1.1.1.1.1.1.1.0;
    }

-- No kind's number is past the table.
unfoldable under : ℕ → List Kind → Bool
under n [] = true
under n (k ∷ ks) = ltb (row_of k).number n && under n ks

find_past : (m n : ℕ) → m ≤ n → (ks : List Kind) → under m ks ≡ true → find n ks ≡ none
unfolding find under
find_past m n h [] u = refl
find_past m n h (k ∷ ks) u =
    let l : (row_of k).number < m = lt_of (and_l (ltb (row_of k).number m) (under m ks) u) in
    rw (ne_eqb (row_of k).number n (λ e. omega arith), find) (find_past m n h ks (and_r (ltb (row_of k).number m) (under m ks) u))

none_past : (n : ℕ) → code_count ≤ n → kind_of n ≡ none
unfolding under
none_past n h = find_past code_count n h kinds refl

-- The table has the code of each number.
from_length : (m i : ℕ) → length (codes_from m i) ≡ m
unfolding codes_from
from_length zero i = refl
from_length (suc m) i = ap suc (from_length m (suc i))

pub codes_length : length kind_codes ≡ code_count
unfolding kind_codes
codes_length = from_length code_count 0

from_at : (m i k : ℕ) → k < m → get_or (codes_from m i) k 0 ≡ code_number (i + k)
unfolding codes_from
from_at zero i k l = absurd (omega arith)
from_at (suc m) i zero l = let e : i ≡ i + 0 = omega arith in ap (λ n. code_number n) e
from_at (suc m) i (suc k) l = let e : suc i + k ≡ i + suc k = omega arith in from_at m (suc i) k (omega arith) ∙ ap (λ n. code_number n) e

code_at_lem : (n : ℕ) → code_at n ≡ code_number n
unfolding kind_codes code_number
code_at_lem n = by_test (ltb n code_count)
    (λ e. let z : 0 + n ≡ n = omega arith in from_at code_count 0 n (lt_of e) ∙ ap (λ m. code_number m) z)
    λ e.
    let h : code_count ≤ n = ge_of e in
    let l : length kind_codes ≤ n = omega (arith, codes_length) in
    let q = none_past n h in
    get_or-eq_default kind_codes 0 {n = n} l ∙ rw (q, code_number) refl

pub known_code : (n : ℕ) (k : Kind) → kind_of n ≡ some k → Packs k (code_at n)
unfolding code_number
known_code n k h =
    let e : code_at n ≡ code_of k = code_at_lem n ∙ rw (h, code_number) refl in
    rw e (code_packs k)

pub unknown_code : (n : ℕ) → kind_of n ≡ none → code_at n ≡ 0
unfolding code_number
unknown_code n h = code_at_lem n ∙ rw (h, code_number) refl

-- A kind's number is below the table's length.
pub kind_small : (n : ℕ) (k : Kind) → kind_of n ≡ some k → n < code_count
kind_small n k h = by_test (ltb n code_count) (λ e. lt_of e) λ e. let z : none ≡ some k = sym (none_past n (ge_of e)) ∙ h in no_path cc

-- How often the group stands, by the code.
pub times_in_lem : (k : Kind) (x n : ℕ) → Packs k x → times_in x (n - 4) ≡ times (row_of k) n
times_in_lem k x n P = rw (P.first, P.group, P.last) refl

-- The parts of a kind's code agree.
pub kind_sized : (k : Kind) (x : ℕ) → Packs k x → Sized x
kind_sized k x P =
    let r : Row = row_of k in
    let s : size_of x ≡ 4 + 2 * (length r.first + (r.least * length r.group + length r.last)) = P.size ∙ ap (λ m. 4 + 2 * m) (fields_length r r.least) in
    record { length = rw (P.first, P.least, P.group, P.last) s; between = rw (P.least, P.most) P.between; group = rw P.group P.few }

pub code_sized : (n : ℕ) → (code_at n ≡ 0 → ⊥) → Sized (code_at n)
code_sized n h = go (kind_of n) refl
  where
    go : (q : Option Kind) → kind_of n ≡ q → Sized (code_at n)
    go none e = absurd (h (unknown_code n e))
    go (some k) e = kind_sized k (code_at n) (known_code n k e)
