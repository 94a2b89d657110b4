-- The fields of a type as the part of the image that they occupy, and the methods of an object's type as they stand there (card 3: "Type 25 has 1 to 8 methods, each a domain and a lower type").
use Rattle.std.specs.Prelude.{ℕ, ◌+◌, ◌*◌, List, length, eqb, ltb}
use Rattle.calculus.specs.Combinators.{choose}
use Rattle.image.specs.Bytes.{number_at}
use Rattle.image.specs.Kinds.{TypeKind, type_row_of}
use Rattle.image.specs.Layout.{records_of}
use Rattle.image.specs.Types.{type_place}
use Rattle.read_records.specs.Heads.{fields_at, field_in}

-- The fields of type t.
abbrev pub type_fields_of : List ℕ → ℕ → List ℕ
type_fields_of b t = fields_at b (type_place (records_of b) t)

-- Of a type whose kind has the number k and whose fields are fs: the domain of method m; 0 where it has no such method, or is no object's type. Each method takes four bytes.
abbrev pub method_in : ℕ → List ℕ → ℕ → ℕ
method_in k fs m = choose (eqb k (type_row_of TypeKind.obj).number) (choose (ltb (length fs) (4 + 4 * m)) 0 (field_in fs (2 * m))) 0

-- The domains of the methods of type t, read in its record.
abbrev pub type_methods : List ℕ → ℕ → ℕ → ℕ
type_methods b t m = method_in (number_at b (type_place (records_of b) t)) (type_fields_of b t) m
