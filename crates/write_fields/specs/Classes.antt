-- What each known field of a record is, as the code of its kind says (the crate read_records, specs/Codes.antt): the class that stands for it in the code, and the child that it names.
use Rattle.std.specs.Prelude.{ℕ, zero, suc, ◌+◌, ◌-◌, ◌*◌, ◌/◌, ◌%◌, ◌≤◌, ◌≡◌, Bool, true, false, List, length, eqb, ltb, leb}
use Rattle.std.proofs.Math.Option.{some}
use Rattle.calculus.specs.Combinators.{choose}
use Rattle.image.specs.Kinds.{Field, Kind, domain, row_of, kind_of, fields_of}
use Rattle.image.specs.Records.{or_else, times}
use Rattle.read_records.specs.Codes.{first_of, group_of, last_of, classes_of}

-- The kind of a number, if it is one's; a domain stands for no kind.
abbrev pub kind_numbered : ℕ → Kind
kind_numbered q = or_else (kind_of q) domain

-- The known fields of a record of the kind with the number q, whose fields occupy the bytes fs: what each is, and how many there are.
abbrev pub known_fields : ℕ → List ℕ → List Field
known_fields q fs = fields_of (row_of (kind_numbered q)) (times (row_of (kind_numbered q)) (4 + length fs))

abbrev pub known_count : ℕ → List ℕ → ℕ
known_count q fs = length (known_fields q fs)

-- Such a record: its kind is known, its fields are there, and the group stands no more often than it may.
pub record Known (q : ℕ) (fs : List ℕ) : Type 0 where
  pub kind : kind_of q ≡ some (kind_numbered q)
  pub held : 2 * known_count q fs ≤ length fs
  pub most : times (row_of (kind_numbered q)) (4 + length fs) ≤ (row_of (kind_numbered q)).most

-- Which of the classes of the code x is that of field i of n: those of the first fields stand first, then those of the group, which are at most two, then those of the last.
abbrev pub slot_in : ℕ → ℕ → ℕ → ℕ
slot_in x n i =
    choose (ltb i (first_of x)) i
    (choose (leb (n - last_of x) i) (first_of x + group_of x + (i - (n - last_of x)))
    (choose (ltb (group_of x) 2) (first_of x) (first_of x + (i - first_of x) % 2)))

-- The class at a place, three bits each, the first lowest.
unfoldable pub digit_at : ℕ → ℕ → ℕ
digit_at zero cs = cs % 8
digit_at (suc j) cs = digit_at j (cs / 8)

abbrev pub class_in : ℕ → ℕ → ℕ → ℕ
class_in x n i = digit_at (slot_in x n i) (classes_of x)

-- A field of class c and number v names a child: a term's number (5), or an entry (6) that is not 0, which is a term's number plus 1. The child; and the number of a field that names child n.
abbrev pub is_child : ℕ → ℕ → Bool
is_child c v = choose (eqb c 5) true (choose (eqb c 6) (ltb 0 v) false)

abbrev pub child_no : ℕ → ℕ → ℕ
child_no c v = choose (eqb c 6) (v - 1) v

abbrev pub as_field : ℕ → ℕ → ℕ
as_field c n = choose (eqb c 6) (n + 1) n
