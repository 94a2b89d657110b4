-- The records of an image (document 01, "The image"): three sections, each record known by its offset, with its kind, its fields and its children.
use Rattle.std.specs.Prelude.{ℕ, zero, suc, ◌+◌, ◌-◌, ◌*◌, ◌/◌, List, [], ◌∷◌, ◌++◌, length}
use Rattle.std.proofs.Math.Option.{Option, none, some}
use Rattle.image.specs.Bytes.{words, length_at, number_at}
use Rattle.image.specs.Kinds.{Field, a_type, own, a_term, an_entry, Kind, domain, Row, kind_of, fields_of}

-- An image and the offsets of its records, section by section, in order: a domain, a type or a term is its place in its list.
pub record Layout : Type 0 where
  pub image : List ℕ
  pub domains : List ℕ
  pub types : List ℕ
  pub terms : List ℕ

abbrev pub or_else : {A : Type 0} → Option A → A → A
or_else none d = d
or_else (some a) d = a

-- The kind of the record at o, if its number is one; a domain stands for no kind.
abbrev pub kind_at : List ℕ → ℕ → Kind
kind_at b o = or_else (kind_of (number_at b o)) domain

-- How often the group stands in a record of the row r, of n bytes: a group of m fields in what its other fields leave.
abbrev pub goes_into : ℕ → ℕ → ℕ
goes_into zero n = 0
goes_into (suc m) n = n / suc m

abbrev pub times : Row → ℕ → ℕ
times r n = goes_into (length r.group) ((n - 4) / 2 - (length r.first + length r.last))

-- The length of such a record with its known fields alone; behind these it may have more bytes, which are skipped (document 02, card 1).
abbrev pub known_length : Row → ℕ → ℕ
known_length r n = 4 + 2 * length (fields_of r (times r n))

-- The known fields of the record at o, of a kind with the row r: what each is, and its number.
abbrev pub fields_at : List ℕ → ℕ → Row → List Field
fields_at b o r = fields_of r (times r (length_at b o))

abbrev pub numbers_at : List ℕ → ℕ → Row → List ℕ
numbers_at b o r = words b (o + 4) (length (fields_at b o r))

-- What a field of number v gives to the children, and to the fields that are neither type nor child; an entry gives these 0 or 1.
abbrev pub as_child : Field → ℕ → List ℕ
as_child a_type v = []
as_child (own r) v = []
as_child (a_term b) v = v ∷ []
as_child an_entry zero = []
as_child an_entry (suc e) = e ∷ []

abbrev pub as_other : Field → ℕ → List ℕ
as_other a_type v = []
as_other (own r) v = v ∷ []
as_other (a_term b) v = []
as_other an_entry zero = 0 ∷ []
as_other an_entry (suc e) = 1 ∷ []

-- What fields of the numbers vs give, left to right.
abbrev pub given : (Field → ℕ → List ℕ) → List Field → List ℕ → List ℕ
given of [] vs = []
given of (f ∷ fs) [] = []
given of (f ∷ fs) (v ∷ vs) = of f v ++ given of fs vs

-- The children of the record at o, and its fields that are neither type nor child.
abbrev pub children_at : List ℕ → ℕ → Row → List ℕ
children_at b o r = given as_child (fields_at b o r) (numbers_at b o r)

abbrev pub others_at : List ℕ → ℕ → Row → List ℕ
others_at b o r = given as_other (fields_at b o r) (numbers_at b o r)
