-- `check_objects::stacks::entries_fit` meets its contract: so far each entry fits, and those that are left decide.
use mathlib.Core.Path.{◌≡◌}
use Rattle.laws.specs.Tests.{all_of}
use Rattle.image.specs.Layout.{records_of}
use Rattle.read_records.proofs.Entries.{entries_left}
use Rattle.read_terms.specs.Fields.{first_entry, entry_terms}
use Rattle.check_rules.specs.Judged.{cut_of}
use Rattle.check_objects.proofs.stacks.entries_fit.Given as goal

abbrev pub invariant-loop-i : goal.invariant-loop-i
invariant-loop-i l = all_of (cut_of (records_of l.image) l.descriptors) (entries_left l.fields first_entry l.i-end l.i) ≡ all_of (cut_of (records_of l.image) l.descriptors) (entry_terms l.fields)
