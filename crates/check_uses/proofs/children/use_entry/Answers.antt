-- `check_uses::children::use_entry` meets its contract: an entry of 0 names no child, any other names one.
use mathlib.Core.Path.{refl}
use Rattle.check_uses.specs.Marks.{highest}
use Rattle.check_uses.proofs.children.use_entry.Goals as goal

pub returns-then-entry-eq0 : goal.returns-then-entry-eq0
unfolding highest
returns-then-entry-eq0 c = rw c.if-entry-eq0.true (refl, refl)
