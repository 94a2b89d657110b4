-- How many children the fields of a term hold: its kind's row tells, and for a pointcut the length of the part.
use Prim.Native.Nat.{ℕ, zero, suc, ◌+◌, ◌-◌, ◌*◌, ◌/◌}
use native.Mathlib.Omega.{arith}
use native.Mathlib.Nat.{zero-mul, suc-mul, add_comm}
use mathlib.Core.Path.{◌≡◌, refl, sym, ap, ◌∙◌}
use mathlib.Core.Bool.{Bool, true, not, ◌||◌}
use mathlib.Core.List.{List, [], ◌∷◌, ◌++◌}
use lib.ListN.{length}
use lib.Dec.{eqb}
use borrow.Author.Tests.{not-true}
use Rattle.laws.specs.Tests.{all}
use Rattle.image.specs.Kinds.{Field, TermKind, Row, term_row, again, fields_of}
use Rattle.image.specs.Records.{times, as_child}
use Rattle.image.specs.TermFields.{giving}
use Rattle.laws.proofs.Booleans.{no_path, eq_of}
use Rattle.laws.proofs.Tests.{each}
use Rattle.image.proofs.Words.{words_length}
use Rattle.image.proofs.EveryKind.{every_of, at_term, or_else}
use Rattle.image.proofs.Offsets.{side_by_side}
use Rattle.image.proofs.Counts.{giving_append, giving_row, fields_give}
use Rattle.read_terms.specs.Fields.{classes_in, numbers_in, children_in, count_in}

-- What a group gives that stands c times.
giving_again : (n c : ℕ) (fs : List Field) → giving as_child n (again c fs) ≡ c * giving as_child n fs
giving_again n zero fs = sym (zero-mul (giving as_child n fs))
giving_again n (suc c) fs =
    giving_append as_child n fs (again c fs)
    ∙ (ap (λ m. giving as_child n fs + m) (giving_again n c fs)
    ∙ (add_comm (giving as_child n fs) (c * giving as_child n fs)
    ∙ sym (suc-mul c (giving as_child n fs))))

pub giving_fields : (n c : ℕ) (r : Row) → giving as_child n (fields_of r c) ≡ giving as_child n (r.first ++ r.last) + c * giving as_child n r.group
giving_fields n c r = giving_row as_child n r c ∙ ap (λ m. giving as_child n (r.first ++ r.last) + m) (giving_again n c r.group)

-- Every field of a term is a child or none, whatever its number, but for the entries of a match (card 6).
abbrev sure : List Field → Bool
sure fs = eqb (giving as_child 0 fs) (giving as_child 1 fs)

abbrev sure_row : TermKind → Bool
sure_row k = all (sure ((term_row k).first ++ (term_row k).last) ∷ (not (side_by_side k) || sure (term_row k).group) ∷ [])

every_sure : (k : TermKind) → sure_row k ≡ true
unfolding every_of all
every_sure k = at_term sure_row refl k

pub children_counted : (fs : List ℕ) (k : TermKind) → side_by_side k ≡ true → length (children_in fs k) ≡ count_in fs k
children_counted fs k side =
    let r : Row = term_row k in
    let c : ℕ = times r (4 + length fs) in
    let s = each _ (every_sure k) in
    let a : giving as_child 0 (r.first ++ r.last) ≡ giving as_child 1 (r.first ++ r.last) = eq_of s.0 in
    let g : c * giving as_child 0 r.group ≡ c * giving as_child 1 r.group = ap (λ m. c * m) (eq_of (or_else (not (side_by_side k)) (sure r.group) s.1.0 (λ z. no_path (sym side ∙ not-true (side_by_side k) z)))) in
    let x = giving_fields 0 c r in
    let y = giving_fields 1 c r in
    let z = fields_give (classes_in fs k) (numbers_in fs k) (words_length fs 0 (length (classes_in fs k))) in
    let u = z.0 in
    let v = z.1 in
    omega arith

-- The labels of a pointcut, and the bodies of an object.
pub label_count : (fs : List ℕ) → count_in fs TermKind.pcd ≡ length fs / 2 - 1
label_count fs = let e = giving_fields 0 (times (term_row TermKind.pcd) (4 + length fs)) (term_row TermKind.pcd) in omega arith

pub body_count : (fs : List ℕ) → count_in fs TermKind.obj ≡ length fs / 2 - 1
body_count fs = let e = giving_fields 0 (times (term_row TermKind.obj) (4 + length fs)) (term_row TermKind.obj) in omega arith

-- The children of a match that stand side by side (card 6).
pub match_count : (fs : List ℕ) → count_in fs TermKind.match ≡ 3
match_count fs = let e = giving_fields 0 (times (term_row TermKind.match) (4 + length fs)) (term_row TermKind.match) in omega arith

-- A kind without children.
abbrev pub childless : TermKind → Bool
childless k = all (eqb (giving as_child 0 ((term_row k).first ++ (term_row k).last)) 0 ∷ eqb (giving as_child 0 (term_row k).group) 0 ∷ [])

pub no_children : (fs : List ℕ) (k : TermKind) → childless k ≡ true → count_in fs k ≡ 0
no_children fs k h =
    let z = each _ h in
    let c : ℕ = times (term_row k) (4 + length fs) in
    let a : giving as_child 0 ((term_row k).first ++ (term_row k).last) ≡ 0 = eq_of z.0 in
    let g : c * giving as_child 0 (term_row k).group ≡ c * 0 = ap (λ m. c * m) (eq_of z.1.0) in
    let e = giving_fields 0 c (term_row k) in
    omega arith
