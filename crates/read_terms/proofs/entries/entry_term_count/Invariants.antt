-- `read_terms::entries::entry_term_count` meets its contract: the terms of the entries so far, and of those that are left.
use mathlib.Core.Path.{◌≡◌}
use Prim.Native.Nat.{◌+◌, ◌≤◌}
use lib.ListN.{length}
use Rattle.read_records.proofs.Entries.{entries_left}
use Rattle.read_terms.specs.Fields.{first_entry, entry_terms}
use Rattle.read_terms.proofs.entries.entry_term_count.Given as goal

abbrev pub invariant-loop-i : goal.invariant-loop-i
invariant-loop-i l = (l.count ≤ l.i) × (length (entry_terms l.fields) ≡ l.count + length (entries_left l.fields first_entry l.i-end l.i))
