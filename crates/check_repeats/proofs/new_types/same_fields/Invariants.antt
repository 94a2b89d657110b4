-- `check_repeats::new_types::same_fields` meets its contract: so far all numbers are the same.
use Prim.Native.Nat.{ℕ}
use mathlib.Core.Path.{◌≡◌}
use mathlib.Core.Bool.{Bool, true}
use mathlib.Core.List.{List}
use lib.ListN.{length}
use lib.Dec.{eqb}
use Rattle.laws.specs.Tests.{all_below}
use Rattle.read_records.specs.Heads.{field_in}
use Rattle.check_repeats.proofs.new_types.same_fields.Given as goal

-- The numbers at a place are the same.
abbrev same : List ℕ → List ℕ → ℕ → Bool
same a b j = eqb (field_in a j) (field_in b j)

abbrev pub invariant-loop-i : goal.invariant-loop-i
invariant-loop-i l = (length l.a ≡ length l.b) × (all_below l.i (same l.a l.b) ≡ true)
