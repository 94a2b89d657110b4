-- The leaves of plain types from their descriptors, type by type (document 01, "The image": "a pair of plain types, with at most 8 leaves").
use Rattle.std.specs.Prelude.{ℕ, ◌+◌, ◌≤◌, ◌<◌, List, length, get_or, eqb, leb, ltb}
use Rattle.calculus.specs.Limits.{leaf_limit}
use Rattle.image.specs.Kinds.{TypeKind, type_row_of}
use Rattle.calculus.specs.Combinators.{choose}
use Rattle.read_records.specs.Descriptors.{descriptor_kind, descriptor_field0, descriptor_field1}
use Rattle.read_terms.specs.Descriptors.{descriptor_is}

-- The leaves of a pair, from its parts'.
unfoldable pub join_leaves : ℕ → ℕ → ℕ
join_leaves m n = choose (eqb m 0) 0 (choose (eqb n 0) 0 (choose (leb (m + n) leaf_limit) (m + n) 0))

-- The leaves of the type with the descriptor x, from a table of the leaves of the types before it: the kinds before a pair's are unit, truth and number.
unfoldable pub leaves_of : ℕ → List ℕ → ℕ
leaves_of x table =
    choose (descriptor_is x TypeKind.pair) (join_leaves (get_or table (descriptor_field0 x) 0) (get_or table (descriptor_field1 x) 0))
    (choose (ltb (descriptor_kind x) (type_row_of TypeKind.pair).number) 1 0)

-- Type t stands in a table of leaves, with no more than a plain type has.
pub record Part (table : List ℕ) (t : ℕ) : Type 0 where
  pub inside : t < length table
  pub few : get_or table t 0 ≤ leaf_limit
