use Rattle.vm_machine.specs.Fetch.{Program}
use Rattle.vm_matches.specs.Matching.{match_fields}
use Rattle.vm_code.specs.Words.{count_of}
use mathlib.Core.Path.{◌≡◌}
use Prim.Native.Nat.{◌+◌, ◌-◌, ◌≤◌}
use Rattle.vm_machine.specs.Stacks.{variables}
use Rattle.vm_matches.proofs.entries.variables.Given as goal

abbrev pub invariant-loop-i : goal.invariant-loop-i
invariant-loop-i l = (l.c ≤ l.i) × ((C : Program) → l.fields ≡ match_fields C.image l.w → variables C l.w (count_of l.w) 0 ≡ l.c + variables C l.w (count_of l.w - l.i) l.i)
