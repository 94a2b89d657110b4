-- The refusals 4 to 8 (document 01, "Turned back at the gate") as tests on numbers: a kind's code, the counts, the descriptors.
use Rattle.std.specs.Prelude.{ℕ, ◌+◌, ◌-◌, ◌*◌, ◌/◌, ◌%◌, ◌≤◌, Bool, true, ◌&&◌, List, [], ◌∷◌, length, eqb, ltb, leb, Result, Ok, Err}
use Rattle.std.proofs.Math.Option.{Option, none, some}
use Rattle.image.specs.declared.Refusal.{Refusal}
use Rattle.image.specs.Limits.{domain_limit, type_limit, term_limit}
use Rattle.laws.specs.Tests.{all}
use Rattle.calculus.specs.Combinators.{choose}
use Rattle.read_records.specs.Codes.{group_of, last_of, least_of, classes_of, section_of, first_of, group_limit, most_of, times_in}
use Rattle.read_records.specs.declared.numbers.Counts.{Counts}
use Rattle.check_ranges.specs.Ranges.{ranges_from, groups_from, classes_past}

-- 4: whether n is a length for the code x. With a group, the length says how often the group stands; without one, a record may be longer than its known fields (card 1).
abbrev pub length_fits : ℕ → ℕ → Bool
length_fits x n =
    let c : ℕ = times_in x (n - 4) in
    let m : ℕ = 4 + 2 * (first_of x + (c * group_of x + last_of x)) in
    all (leb (least_of x) c ∷ leb c (most_of x) ∷ choose (eqb (group_of x) 0) (leb m n) (eqb n m) ∷ [])

-- Whether n bytes behind the least length hold the group a whole number of times, and not too often.
abbrev pub groups_fill : ℕ → ℕ → Bool
groups_fill x n = eqb (n % (2 * group_of x)) 0 && leb (n / (2 * group_of x)) (group_limit - least_of x)

-- n bytes hold all known fields of a record, where n says how often the group stands.
abbrev pub Held : ℕ → ℕ → Type 0
Held x n = 2 * (first_of x + (times_in x n * group_of x + last_of x)) ≤ n

-- 5 and 6: a section.
abbrev pub order_fits : ℕ → Counts → Bool
order_fits s n = choose (eqb s 3) true (choose (eqb s 2) (eqb n.terms 0) (all (eqb n.types 0 ∷ eqb n.terms 0 ∷ [])))

abbrev pub capacity_fits : ℕ → Counts → Bool
capacity_fits s n = choose (eqb s 3) (ltb n.terms term_limit) (choose (eqb s 2) (ltb n.types type_limit) (ltb n.domains domain_limit))

-- 7: the first fields, the group's each time that it stands, and the last ones.
abbrev pub range_fits : List ℕ → ℕ → Counts → Bool
range_fits fs x n =
    let c : ℕ = times_in x (length fs) in
    all
    (ranges_from (first_of x) (classes_of x) fs n 0
    ∷ groups_from c (group_of x) (classes_past (first_of x) (classes_of x)) fs n (first_of x)
    ∷ ranges_from (last_of x) (classes_past (first_of x + group_of x) (classes_of x)) fs n (first_of x + c * group_of x)
    ∷ [])

-- 4 to 7, in their order.
abbrev pub number_tests : List ℕ → ℕ → Counts → List (Refusal × Bool)
number_tests fs code n =
    (Refusal.WrongLength, length_fits code (length fs + 4))
    ∷ (Refusal.SectionOrder, order_fits (section_of code) n)
    ∷ (Refusal.TooManyRecords, capacity_fits (section_of code) n)
    ∷ (Refusal.FieldRange, range_fits fs code n)
    ∷ []

abbrev pub told_of : Result (Unit {0}) Refusal → Option Refusal
told_of (Err r) = some r
told_of (Ok u) = none
