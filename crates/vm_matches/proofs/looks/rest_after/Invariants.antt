use Rattle.vm_memory.specs.View.{memory_of}
use mathlib.Core.Path.{◌≡◌}
use Prim.Native.Nat.{◌-◌}
use Rattle.vm_machine.specs.Stacks.{rest_after}
use Rattle.vm_matches.proofs.looks.rest_after.Given as goal

abbrev pub invariant-loop : goal.invariant-loop
invariant-loop l = rest_after (memory_of l.work) l.n l.v ≡ rest_after (memory_of l.work) (l.n - l.counter) l.rest
