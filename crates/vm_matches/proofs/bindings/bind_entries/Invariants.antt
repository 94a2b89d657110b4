use mathlib.Core.Path.{◌≡◌}
use Prim.Native.Nat.{◌+◌, ◌-◌, ◌≤◌, ◌<◌}
use Rattle.base_bytes.specs.Memory.{memory_length}
use lib.ListN.{length, drop}
use Rattle.vm_code.specs.Words.{count_of}
use Rattle.vm_machine.specs.Fetch.{Program}
use Rattle.vm_machine.specs.Stacks.{variables, bind_entries}
use Rattle.vm_machine.specs.Memory.{binding_places}
use Rattle.vm_matches.specs.Matching.{match_fields, chain_in}
use Rattle.vm_matches.proofs.bindings.bind_entries.Given as goal

abbrev pub invariant-loop-i : goal.invariant-loop-i
invariant-loop-i l =
    (length l.work ≡ length l.initial.work) × (drop memory_length l.work ≡ drop memory_length l.initial.work) × (l.b.env < binding_places)
    × ((C : Program) × (l.fields ≡ match_fields C.image l.w) × (l.b.count + variables C l.w (count_of l.w - l.i) l.i ≤ binding_places))
    × ((C : Program) → l.fields ≡ match_fields C.image l.w → bind_entries C l.w (count_of l.w) 0 l.v (chain_in l.initial.work l.initial.b) ≡ bind_entries C l.w (count_of l.w - l.i) l.i l.rest (chain_in l.work l.b))
