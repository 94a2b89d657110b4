use Rattle.vm_matches.proofs.entries.entry_at.Goals as goal

pub returns : goal.returns
returns c = c.field_or_zero.ensures
