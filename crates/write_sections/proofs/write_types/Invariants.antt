-- `write_sections::write_types` meets its contract.
use Prim.Native.Nat.{ℕ, ◌+◌}
use mathlib.Core.Path.{◌≡◌}
use mathlib.Core.List.{List, map}
use lib.ListN.{length}
use Rattle.base_bytes.specs.Bytes.{over}
use Rattle.image_written.specs.Records.{Record}
use Rattle.image_written.specs.Written.{type_record}
use Rattle.write_types.specs.declared.TypeTable.{TypeTable}
use Rattle.write_types.specs.Entries.{types_of}
use Rattle.write_sections.proofs.Firsts.{firsts}
use Rattle.write_sections.proofs.write_types.Given as goal

-- The records of the types of the table.
abbrev records : List ℕ → TypeTable → List Record
records b T = map (λ t. type_record (types_of b T) t) (types_of b T)

abbrev pub invariant-loop-t : goal.invariant-loop-t
invariant-loop-t l = (l.at ≡ l.start + length (firsts (records l.image l.table) l.t-index)) × (l.out ≡ over l.start (firsts (records l.image l.table) l.t-index) l.initial.out)
