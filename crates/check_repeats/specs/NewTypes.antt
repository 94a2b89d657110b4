-- 8 (document 01, "Turned back at the gate") as tests on numbers: the descriptors, and the fields of the types of objects.
use Rattle.std.specs.Prelude.{ℕ, ◌/◌, ◌<◌, Bool, true, not, ◌&&◌, List, length, get_or, eqb}
use Rattle.laws.specs.Tests.{all_below}
use Rattle.calculus.specs.Combinators.{choose}
use Rattle.image.specs.Kinds.{TypeKind, type_row_of}
use Rattle.read_records.specs.Heads.{IsWhole, fields_at, field_in}
use Rattle.read_records.specs.Descriptors.{descriptor_kind}

-- The descriptor is that of an object's type.
abbrev pub is_object : ℕ → Bool
is_object x = eqb (descriptor_kind x) (type_row_of TypeKind.obj).number

-- Card 3: the fields fs and gs of two records have the same length and the same numbers.
abbrev pub same_fields : List ℕ → List ℕ → Bool
same_fields fs gs = eqb (length fs) (length gs) && all_below (length fs / 2) (λ i. eqb (field_in fs i) (field_in gs i))

-- Type i, of those with the offsets ts and the descriptors ks, is equal to the type with the descriptor x and the fields fs. A descriptor has all fields of a type but an object's.
abbrev pub equal_type : List ℕ → List ℕ → List ℕ → List ℕ → ℕ → ℕ → Bool
equal_type b fs ts ks x i = eqb x (get_or ks i 0) && choose (is_object x) (same_fields fs (fields_at b (get_or ts i 0))) true

-- None of the first n types is.
abbrev pub new_type : List ℕ → List ℕ → ℕ → List ℕ → List ℕ → ℕ → Bool
new_type b fs n ts ks x = all_below n (λ i. not (equal_type b fs ts ks x i))

-- A whole record stands at each of the first n offsets.
pub record Placed (b : List ℕ) (n : ℕ) (ts : List ℕ) : Type 0 where
  pub at : (i : ℕ) → i < n → IsWhole b (get_or ts i 0)
