use Rattle.vm_marks.specs.Binds.{bound_in}
use Rattle.vm_pools.specs.Pools.{whole}
use Rattle.vm_machine.specs.Reduce.{bind_matching}
use Rattle.base_bytes.specs.Memory.{memory_length}
use lib.ListN.{length, drop}
use mathlib.Core.Path.{◌≡◌}
use Prim.Native.Nat.{◌+◌, ◌≤◌}
use Rattle.vm_marks.proofs.bind.bind_matching.Given as goal

abbrev pub invariant-loop-i : goal.invariant-loop-i
invariant-loop-i l =
    (length l.work ≡ length l.initial.work) × (whole l.initial.q ≤ whole l.q) × (whole l.q + l.i ≤ whole l.initial.q + l.n) × (drop memory_length l.work ≡ drop memory_length l.initial.work) × (bind_matching l.n l.l l.v (bound_in l.initial.work l.initial.q) ≡ bind_matching l.i l.l l.v (bound_in l.work l.q))
