-- The table of kinds (document 01, "The image"; the crate image, specs/Kinds.antt) in numbers: a code packs a kind's section, its least length, how many children are among its first fields, how many fields the group has, how many stand before the children and how many last, how often the group stands, and the class of each field. The number 0 is no kind's code.
use Rattle.std.specs.Prelude.{ℕ, zero, suc, ◌+◌, ◌-◌, ◌*◌, ◌/◌, ◌%◌, ◌≤◌, ◌≡◌, List, [], ◌∷◌, ◌++◌, length, get_or, eqb}
use Rattle.std.proofs.Math.Option.{none, some}
use Rattle.calculus.specs.Combinators.{choose}
use Rattle.image.specs.Kinds.{in_domains, in_operations, in_truths, any_number, Field, a_type, own, a_term, an_entry, Kind, domain, type, term, Row, row_of, kind_of, fields_of, lead}
use Rattle.image.specs.Records.{goes_into, as_child}
use Rattle.image.specs.TermFields.{giving}
use Rattle.image.specs.Limits.{pointcut_limit}

abbrev pub section_number : Kind → ℕ
section_number domain = 1
section_number (type k) = 2
section_number (term k) = 3

-- A field's class.
abbrev pub class_number : Field → ℕ
class_number a_type = 0
class_number (own in_domains) = 1
class_number (own in_operations) = 2
class_number (own in_truths) = 3
class_number (own any_number) = 4
class_number (a_term b) = 5
class_number an_entry = 6

-- Three bits for each field, the first lowest.
unfoldable pub class_numbers : List Field → ℕ
class_numbers [] = 0
class_numbers (f ∷ fs) = class_number f + 8 * class_numbers fs

-- The least length of a record: its group stands the fewest times that it may.
abbrev pub least_length : Row → ℕ
least_length r = 4 + 2 * length (fields_of r r.least)

abbrev pub code_of : Kind → ℕ
code_of k =
    let r : Row = row_of k in
    least_length r + 16 * giving as_child 0 r.first + 64 * length r.group + 256 * lead r.first + 1024 * length r.last + 2048 * r.least
    + 4096 * class_numbers (r.first ++ (r.group ++ r.last)) + 1073741824 * section_number k

-- The parts of a code: the least length; the children among the first fields; the fields of the group; the fields before the children; the last fields; how often the group stands, at least; the classes of the first fields, then of the group's, then of the last ones; the section.
abbrev pub size_of : ℕ → ℕ
size_of x = x % 16

abbrev pub first_children_of : ℕ → ℕ
first_children_of x = x / 16 % 4

abbrev pub group_of : ℕ → ℕ
group_of x = x / 64 % 4

abbrev pub count_of : ℕ → ℕ
count_of x = x / 256 % 4

abbrev pub last_of : ℕ → ℕ
last_of x = x / 1024 % 2

abbrev pub least_of : ℕ → ℕ
least_of x = x / 2048 % 2

abbrev pub classes_of : ℕ → ℕ
classes_of x = x / 4096 % 262144

abbrev pub section_of : ℕ → ℕ
section_of x = x / 1073741824

-- What follows from the parts: how many fields stand first; and how often the group stands, at most: labels, methods and entries have the same limit.
abbrev pub first_of : ℕ → ℕ
first_of x = (size_of x - 4) / 2 - (least_of x * group_of x + last_of x)

abbrev pub group_limit : ℕ
group_limit = pointcut_limit

abbrev pub most_of : ℕ → ℕ
most_of x = choose (eqb (group_of x) 0) 0 group_limit

-- The parts agree, as they do in a kind's code; and a group has at most two fields.
pub record Sized (x : ℕ) : Type 0 where
  pub length : size_of x ≡ 4 + 2 * (first_of x + (least_of x * group_of x + last_of x))
  pub between : least_of x ≤ most_of x
  pub group : group_of x ≤ 2

-- How often the group stands in a record of the code x whose fields take n bytes.
abbrev pub times_in : ℕ → ℕ → ℕ
times_in x n = goes_into (group_of x) (n / 2 - (first_of x + last_of x))

-- How many children stand side by side in such a record: as many as its kind has, unless it has a group and no child before it, which is then one child; then as many as the length leaves behind the fields that are none.
abbrev pub children_in : ℕ → ℕ → ℕ
children_in x n = choose (eqb (group_of x) 0) (first_children_of x) (choose (eqb (first_children_of x) 0) (n / 2 - count_of x) (first_children_of x))

-- How many entries stand behind these: a group behind children is one of entries (card 6), as many as the length leaves between the other fields.
abbrev pub entries_in : ℕ → ℕ → ℕ
entries_in x n = choose (eqb (group_of x) 0) 0 (choose (eqb (first_children_of x) 0) 0 (n / 2 - (count_of x + first_children_of x + last_of x)))

-- The code of a number, 0 where it is no kind's; and of each number up to the last kind's.
unfoldable pub code_number : ℕ → ℕ
code_number n = elim (kind_of n) [ none ↦ 0 | some k ↦ code_of k ]

unfoldable pub codes_from : ℕ → ℕ → List ℕ
codes_from zero i = []
codes_from (suc n) i = code_number i ∷ codes_from n (suc i)

abbrev pub code_count : ℕ
code_count = 61

unfoldable pub kind_codes : List ℕ
kind_codes = codes_from code_count 0

abbrev pub code_at : ℕ → ℕ
code_at n = get_or kind_codes n 0
