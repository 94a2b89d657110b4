-- `check_scopes::matches::bind_entries` meets its contract: who binds the entries that are left binds all.
use mathlib.Core.Path.{◌≡◌}
use Prim.Native.Nat.{ℕ, ◌+◌, ◌≤◌}
use mathlib.Core.List.{List}
use lib.ListN.{length}
use Rattle.image.specs.Layout.{records_of}
use Rattle.read_records.proofs.Entries.{entries_left}
use Rattle.read_terms.specs.Fields.{first_entry, entry_terms}
use Rattle.check_rules.specs.Scopes.{scope_length}
use Rattle.check_scopes.specs.Scopes.{value_types, Binds}
use Rattle.check_scopes.proofs.matches.bind_entries.Given as goal

abbrev pub invariant-loop-i : goal.invariant-loop-i
invariant-loop-i l =
    (l.used ≤ l.len + l.i) × (length l.scope ≡ scope_length)
    × ((s : List ℕ) (m : ℕ) → Binds l.scope s l.used m (value_types (records_of l.image) (entries_left l.fields first_entry l.i-end l.i)) → Binds l.initial.scope s l.len m (value_types (records_of l.image) (entry_terms l.fields)))
