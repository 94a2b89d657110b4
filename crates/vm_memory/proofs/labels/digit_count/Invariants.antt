use mathlib.Core.Path.{◌≡◌}
use Prim.Native.Nat.{◌+◌, ◌-◌}
use Rattle.vm_machine.specs.Memory.{digit_count}
use Rattle.vm_memory.proofs.labels.digit_count.Given as goal

abbrev pub invariant-loop-i : goal.invariant-loop-i
invariant-loop-i l = digit_count l.n l.digits ≡ l.i + digit_count (l.n - l.i) l.d
