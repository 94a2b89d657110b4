-- `check_ranges::ranges::in_range` meets its contract: in each arm the code is a number, and the tests are the definition's.
use mathlib.Core.Path.{◌≡◌}
use Prim.Native.Nat.{ℕ}
use mathlib.Core.Bool.{and-true}
use mathlib.Core.Logic.{⊎_elim}
use native.Mathlib.Omega.{arith}
use Rattle.laws.specs.Tests.{all}
use Rattle.image.specs.Kinds.{TypeKind, domain, type}
use Rattle.read_records.specs.Codes.{class_numbers, code_of}
use Rattle.check_ranges.specs.Ranges.{ranges_from, groups_from, classes_past}
use Rattle.check_ranges.proofs.Numbers.{first_held}
use Rattle.check_ranges.proofs.ranges.in_range.Goals as goal

pub returns-in-1073758470 : goal.returns-in-1073758470
unfolding all ranges_from groups_from classes_past class_numbers
returns-in-1073758470 c =
    let k : ℕ = c.args.code in
    ⊎_elim (λ (e : k ≡ code_of domain). simp e) (λ (e : k ≡ code_of (type TypeKind.unit)). simp e) c.in-1073758470.is

pub returns-in-2147516936 : goal.returns-in-2147516936
unfolding all ranges_from groups_from classes_past
returns-in-2147516936 c = simp (c.in-2147516936.is, c.names-in-2147516936.ensures, c.names.ensures, and-true)

pub returns-in-2147517194 : goal.returns-in-2147517194
unfolding all ranges_from groups_from classes_past
returns-in-2147517194 c = simp (c.in-2147517194.is, c.names-in-2147517194-3.ensures, c.names-in-2147517194-2.ensures, c.names-in-2147517194.ensures, and-true)

pub returns-in-2147484168 : goal.returns-in-2147484168
unfolding all ranges_from groups_from classes_past
returns-in-2147484168 c = simp (c.in-2147484168.is, c.names-in-2147484168-2.ensures, c.names-in-2147484168.ensures, and-true)

pub returns-in-2147488006 : goal.returns-in-2147488006
unfolding all ranges_from groups_from classes_past
returns-in-2147488006 c = simp (c.in-2147488006.is, c.names-in-2147488006.ensures, and-true)

pub names-requires : goal.names-requires
names-requires c = omega (arith, first_held _ _ _ c.in-2147516936.is c.requires.1)

pub names-requires-in-2147516936 : goal.names-requires-in-2147516936
names-requires-in-2147516936 c = omega (arith, first_held _ _ _ c.in-2147516936.is c.requires.1)

pub names-requires-in-2147517194 : goal.names-requires-in-2147517194
names-requires-in-2147517194 c = omega (arith, first_held _ _ _ c.in-2147517194.is c.requires.1)

pub names-requires-in-2147517194-2 : goal.names-requires-in-2147517194-2
names-requires-in-2147517194-2 c = omega (arith, first_held _ _ _ c.in-2147517194.is c.requires.1)

pub names-requires-in-2147517194-3 : goal.names-requires-in-2147517194-3
names-requires-in-2147517194-3 c = omega (arith, first_held _ _ _ c.in-2147517194.is c.requires.1)

pub names-requires-in-2147484168 : goal.names-requires-in-2147484168
names-requires-in-2147484168 c = omega (arith, first_held _ _ _ c.in-2147484168.is c.requires.1)

pub names-requires-in-2147484168-2 : goal.names-requires-in-2147484168-2
names-requires-in-2147484168-2 c = omega (arith, first_held _ _ _ c.in-2147484168.is c.requires.1)

pub names-requires-in-2147488006 : goal.names-requires-in-2147488006
names-requires-in-2147488006 c = omega (arith, first_held _ _ _ c.in-2147488006.is c.requires.1)
