use Prim.Native.Nat.{ℕ, ◌-◌}
use mathlib.Core.Path.{◌≡◌}
use mathlib.Core.List.{List}
use Rattle.vm_machine.specs.Turn.{take_labels}
use Rattle.vm_memory.specs.View.{memory_of}
use Rattle.vm_labels.specs.PointcutChildren.{child_fields}
use Rattle.vm_labels.proofs.children.take_labels.Given as goal

abbrev pub invariant-loop-i : goal.invariant-loop-i
invariant-loop-i l = record {
  counted : l.done.count ≡ l.i;
  taken : (image : List ℕ) → l.fields ≡ child_fields image l.w
      → take_labels (record { code = l.code; image = image }) (memory_of l.work) l.env l.w (l.i-end - l.initial.i) l.initial.i l.initial.done.digits ≡ take_labels (record { code = l.code; image = image }) (memory_of l.work) l.env l.w (l.i-end - l.i) l.i l.done.digits;
}
