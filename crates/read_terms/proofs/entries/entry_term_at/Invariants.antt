-- `read_terms::entries::entry_term_at` meets its contract: the term is one of those of the entries that are left.
use mathlib.Core.Path.{◌≡◌}
use Prim.Native.Nat.{◌<◌}
use lib.ListN.{length, get_or}
use Rattle.read_records.proofs.Entries.{entries_left}
use Rattle.read_terms.specs.Fields.{first_entry, entry_terms}
use Rattle.read_terms.proofs.entries.entry_term_at.Given as goal

abbrev pub invariant-loop-i : goal.invariant-loop-i
invariant-loop-i l = (l.left < length (entries_left l.fields first_entry l.i-end l.i)) × (get_or (entries_left l.fields first_entry l.i-end l.i) l.left 0 ≡ get_or (entry_terms l.fields) l.j 0)
