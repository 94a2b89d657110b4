-- The classes of a record's fields, three bits each, one after the other.
use Prim.Native.Nat.{◌/◌, ◌%◌, ◌<◌}
use native.Mathlib.Omega.{arith}
use mathlib.Core.Path.{◌≡◌}
use mathlib.Core.List.{List, ◌∷◌}
use Rattle.image.specs.Kinds.{in_domains, in_operations, in_truths, any_number, Field, a_type, own, a_term, an_entry}
use Rattle.read_records.specs.Codes.{class_number, class_numbers}

class_small : (f : Field) → class_number f < 8
class_small a_type = omega arith
class_small (own in_domains) = omega arith
class_small (own in_operations) = omega arith
class_small (own in_truths) = omega arith
class_small (own any_number) = omega arith
class_small (a_term b) = omega arith
class_small an_entry = omega arith

-- The class of the first of some fields, and what is left for the others.
pub first_class : (f : Field) (fs : List Field) → (class_numbers (f ∷ fs) % 8 ≡ class_number f) × (class_numbers (f ∷ fs) / 8 ≡ class_numbers fs)
unfolding class_numbers
first_class f fs = let l = class_small f in (omega arith, omega arith)
