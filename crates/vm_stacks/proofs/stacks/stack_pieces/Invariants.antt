use mathlib.Core.Path.{◌≡◌}
use Prim.Native.Nat.{◌-◌}
use Rattle.base_bytes.specs.Memory.{memory_length}
use lib.ListN.{length, drop}
use Rattle.vm_code.specs.Values.{bottom_value}
use Rattle.vm_machine.specs.Stacks.{stack_pieces}
use Rattle.vm_stacks.specs.StacksAndKeeps.{stacked_in}
use Rattle.vm_stacks.proofs.stacks.stack_pieces.Given as goal

abbrev pub invariant-loop-i : goal.invariant-loop-i
invariant-loop-i l = (length l.work ≡ length l.initial.work) × (drop memory_length l.work ≡ drop memory_length l.initial.work) × (stack_pieces l.n 0 l.p (stacked_in l.initial.work bottom_value) ≡ stack_pieces (l.n - l.i) l.i l.p (stacked_in l.work l.v))
