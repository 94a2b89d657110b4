use mathlib.Core.Path.{◌≡◌}
use Prim.Native.Nat.{◌-◌}
use Rattle.vm_machine.specs.Memory.{label_set}
use Rattle.vm_memory.proofs.labels.label_set.Given as goal

abbrev pub invariant-loop : goal.invariant-loop
invariant-loop l = label_set l.n l.digits 0 ≡ label_set (l.n - l.counter) l.d l.s
