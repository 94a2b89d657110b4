-- `check_ranges::terms::take_leaf` meets its contract.
use mathlib.Core.Path.{refl, ◌∙◌}
use Rattle.check_ranges.proofs.terms.take_leaf.Goals as goal

pub returns-then-ok : goal.returns-then-ok
returns-then-ok c =
    (c.names-ok.ensures, rw c.if-ok.true (c.enter_leaf.ensures ∙ rw c.next.ensures refl))
