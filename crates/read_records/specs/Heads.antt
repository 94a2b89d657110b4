-- What stands at an offset (document 01, "The image"): what the record reader answers (refusal 2), and what stands where in a record's fields.
use Rattle.std.specs.Prelude.{ℕ, ◌+◌, ◌-◌, ◌*◌, ◌≤◌, List, [], ◌∷◌, ◌++◌, length, take, drop, leb, Option, Some, None, Result, Ok, Err}
use Rattle.calculus.specs.Combinators.{choose}
use Rattle.image.specs.declared.Refusal.{Refusal}
use Rattle.image.specs.Bytes.{le16, words, length_at, number_at}
use Rattle.image.specs.Kinds.{an_entry, again}
use Rattle.image.specs.Records.{as_child, given}
use Rattle.image.specs.Layout.{framed}
use Rattle.read_records.specs.declared.reader.Head.{Head}
use Rattle.read_records.specs.Codes.{count_of, children_in, entries_in}

-- A whole record of n bytes and of kind k; the end; or a refusal.
abbrev pub a_record : ℕ → ℕ → Result (Option Head) Refusal
a_record n k = Ok (Some (record { len = n; kind = k }))

abbrev pub head_at : List ℕ → ℕ → Result (Option Head) Refusal
head_at b o =
    choose (leb (length b) o) (Ok None)
    (choose (framed b o) (a_record (length_at b o) (number_at b o)) (Err Refusal.BrokenRecord))

-- The bytes that the fields of a record of n bytes at o occupy.
abbrev pub field_bytes : List ℕ → ℕ → ℕ → List ℕ
field_bytes b o n = take (n - 4) (drop (o + 4) b)

-- A whole record stands at o; its fields.
abbrev pub IsWhole : List ℕ → ℕ → Type 0
IsWhole b o = (4 ≤ length_at b o) × (o + length_at b o ≤ length b)

abbrev pub fields_at : List ℕ → ℕ → List ℕ
fields_at b o = field_bytes b o (length_at b o)

-- Field i of the fields fs.
abbrev pub field_in : List ℕ → ℕ → ℕ
field_in fs i = le16 fs (2 * i)

-- The fields fs of a record whose kind has the code x hold all children and entries that the kind has.
abbrev pub Fitting : ℕ → List ℕ → Type 0
Fitting x fs = 2 * (count_of x + children_in x (length fs) + entries_in x (length fs)) ≤ length fs

-- The children among them: those side by side, and those that n entries from p on give (card 6: "An entry is 0 for anything, or a pointcut's term number plus 1").
abbrev pub side_of : ℕ → List ℕ → List ℕ
side_of x fs = words fs (2 * count_of x) (children_in x (length fs))

abbrev pub entries_from : List ℕ → ℕ → ℕ → List ℕ
entries_from fs p n = given as_child (again n (an_entry ∷ [])) (words fs p n)

abbrev pub entries_of : ℕ → List ℕ → List ℕ
entries_of x fs = entries_from fs (2 * (count_of x + children_in x (length fs))) (entries_in x (length fs))

abbrev pub children_of : ℕ → List ℕ → List ℕ
children_of x fs = side_of x fs ++ entries_of x fs
