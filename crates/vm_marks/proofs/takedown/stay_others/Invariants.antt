use Rattle.vm_marks.specs.Binds.{bound_in}
use Rattle.vm_machine.specs.Reduce.{stay_others}
use Rattle.base_bytes.specs.Memory.{memory_length}
use lib.ListN.{length, drop}
use mathlib.Core.Path.{◌≡◌}
use Prim.Native.Nat.{◌-◌, ◌≤◌}
use Rattle.vm_marks.proofs.takedown.stay_others.Given as goal

abbrev pub invariant-loop-i : goal.invariant-loop-i
invariant-loop-i l =
    (length l.work ≡ length l.initial.work) × (l.m ≤ l.i) × (drop memory_length l.work ≡ drop memory_length l.initial.work) × (stay_others l.n 0 l.d.0 (bound_in l.initial.work 0) ≡ stay_others (l.n - l.i) l.i l.d.0 (bound_in l.work l.m))
