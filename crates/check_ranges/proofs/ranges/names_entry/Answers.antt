-- `check_ranges::ranges::names_entry` meets its contract.
use Rattle.check_ranges.proofs.ranges.names_entry.Goals as goal

pub returns : goal.returns
returns c = rw c.field-entry.ensures
