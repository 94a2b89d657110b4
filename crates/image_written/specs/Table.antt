-- Tables of types: a type's number is its place. The table of a program's types (document 02, card 11).
use Rattle.std.specs.Prelude.{ℕ, suc, Bool, List, [], ◌∷◌, ◌++◌, length, ltb}
use Rattle.calculus.specs.Syntax.{Ty}
use Rattle.calculus.specs.Combinators.{choose}
use Rattle.image.specs.Program.{Program, Programs, node, blank, end, more}
use Rattle.image_written.specs.TypeParts.{Part, sub, at, same, parts_first}

-- The place of the first type that is the same as t; the table's length if there is none.
unfoldable pub place : List Ty → Ty → ℕ
place [] t = 0
place (u ∷ us) t = choose (same u t) 0 (suc (place us t))

abbrev pub has : List Ty → Ty → Bool
has T t = ltb (place T t) (length T)

-- A table into which types are entered, left to right, each unless it is there.
abbrev pub enter : List Ty → Ty → List Ty
enter T t = choose (has T t) T (T ++ (t ∷ []))

unfoldable pub entered : List Ty → List Ty → List Ty
entered T [] = T
entered T (t ∷ ts) = entered (enter T t) ts

-- The numbers of a type's record: a lower type's place, or a domain.
abbrev pub part_no : List Ty → Part Ty → ℕ
part_no T (sub a) = place T a
part_no T (at p) = p

abbrev pub part_nos : List Ty → List (Part Ty) → List ℕ
part_nos T [] = []
part_nos T (p ∷ ps) = part_no T p ∷ part_nos T ps

-- "Types in the order in which the terms so written first have them, each after its own parts": of each term the type that it states.
unfoldable mutual
  pub types_in : Program → List Ty
  types_in (node k t vs es) = types_in_all es ++ parts_first t
  types_in blank = []

  pub types_in_all : Programs → List Ty
  types_in_all end = []
  types_in_all (more e es) = types_in e ++ types_in_all es

unfoldable pub table_of : Program → List Ty
table_of e = entered [] (types_in e)
