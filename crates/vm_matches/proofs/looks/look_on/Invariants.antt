use Prim.Native.Nat.{ℕ, ◌-◌}
use mathlib.Core.List.{List}
use Rattle.vm_matches.specs.Matching.{match_fields, looked_of}
use Rattle.vm_memory.specs.View.{memory_of}
use mathlib.Core.Path.{◌≡◌}
use Rattle.vm_machine.specs.Stacks.{look_on}
use Rattle.vm_matches.proofs.looks.look_on.Given as goal

abbrev pub invariant-loop-k : goal.invariant-loop-k
invariant-loop-k l =
    ((image : List ℕ) → l.fields ≡ match_fields image l.w → look_on (record { code = l.code; image = image }) (memory_of l.work) l.env l.w (l.n - l.initial.k.next) (looked_of l.initial.k) ≡ look_on (record { code = l.code; image = image }) (memory_of l.work) l.env l.w (l.n - l.k.next) (looked_of l.k)) × (l.k.stack ≡ l.initial.k.stack)

abbrev pub decreases-loop-k : goal.decreases-loop-k
decreases-loop-k l = l.n - l.k.next
