use mathlib.Core.Path.{◌≡◌}
use Prim.Native.Nat.{◌-◌}
use Rattle.vm_memory.specs.View.{memory_of}
use Rattle.vm_machine.specs.Memory as machine
use Rattle.vm_memory.proofs.Found.{outside}
use Rattle.vm_memory.proofs.bindings.lookup.Given as goal

abbrev pub invariant-loop : goal.invariant-loop
invariant-loop l = machine.lookup (memory_of l.work) l.env l.k ≡ outside (memory_of l.work) l.w (l.k - l.counter)
