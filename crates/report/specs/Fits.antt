-- What fits the fields that it is written to (document 01, "A run"): domains in 2 bytes, numbers in 4, and the leaves of a plain cell in its length.
use Rattle.std.specs.Prelude.{ℕ, ◌%◌, ◌≤◌, Bool, List, length}
use Rattle.std.proofs.Math.Option.{Option, none, some}
use Rattle.calculus.specs.declared.Leaf.{Leaf}
use Rattle.calculus.specs.Limits.{leaf_limit}
use Rattle.calculus.specs.Syntax.{Dom}
use Rattle.calculus.specs.Run.{Ended}
use Rattle.calculus.specs.Report.{report}
use Rattle.laws.proofs.Lists.{All}

abbrev pub short_size : ℕ
short_size = 65536

-- A plain cell has at most 8 leaves.
abbrev pub FewLeaves : Option (List Leaf) → Type 0
FewLeaves none = Unit {0}
FewLeaves (some ls) = length ls ≤ leaf_limit

-- Of a reported run: every plain cell has at most 8 leaves.
abbrev pub CellsFew : Ended → Type 0
CellsFew E = All (λ c. FewLeaves c.held) (report E).cells

-- High by the 2 bytes that a domain is written to.
abbrev pub by_field : (Dom → Bool) → Dom → Bool
by_field high d = high (d % short_size)
