-- `check_objects::stacks::entry_fits` meets its contract.
use mathlib.Core.Path.{refl, sym}
use mathlib.Core.Bool.{and-true}
use Rattle.laws.specs.Tests.{all_of}
use Rattle.check_objects.proofs.stacks.entry_fits.Goals as goal

pub returns-then-entry-eq0 : goal.returns-then-entry-eq0
unfolding all_of
returns-then-entry-eq0 c = rw c.if-entry-eq0.true refl

pub returns-else-entry-eq0 : goal.returns-else-entry-eq0
unfolding all_of
returns-else-entry-eq0 c =
    rw (c.entry_term.ensures, c.is_kind.ensures, c.type_descriptor.ensures, c.stated_type.ensures.0) (sym (and-true _))
