-- The table of the leaves of an image's plain types (document 01, "The image": "A plain type is unit, truth, number or a pair of plain types, with at most 8 leaves").
use Rattle.std.specs.Prelude.{ℕ, ◌≤◌, ◌<◌, ◌≡◌, List, length, get_or, leb}
use Rattle.std.proofs.Math.Option.{Option, none, some}
use Rattle.calculus.specs.Limits.{leaf_limit}
use Rattle.calculus.specs.Syntax.{Ty}
use Rattle.calculus.specs.Plain.{leaf_count}
use Rattle.image.specs.Layout.{records_of}
use Rattle.image.specs.Types.{type_of}
use Rattle.calculus.specs.Combinators.{choose}

abbrev pub few_or0 : Option ℕ → ℕ
few_or0 none = 0
few_or0 (some n) = choose (leb n leaf_limit) n 0

-- How many leaves a plain type has; 0 for a type that is not plain.
unfoldable pub plain_leaves : Ty → ℕ
plain_leaves t = few_or0 (leaf_count t)

-- The first places of a table hold the leaves of the image's types, by number.
pub record Leaves (b table : List ℕ) : Type 0 where
  pub enough : length (records_of b).types ≤ length table
  pub counts : (t : ℕ) → t < length (records_of b).types → get_or table t 0 ≡ plain_leaves (type_of (records_of b) t)
