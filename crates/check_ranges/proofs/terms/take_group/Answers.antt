-- `check_ranges::terms::take_group` meets its contract: children that pass are there.
use native.Mathlib.Omega.{arith}
use mathlib.Core.Path.{refl, ◌∙◌}
use Rattle.check_uses.proofs.ChildByChild.{lower_up}
use Rattle.check_ranges.proofs.terms.take_group.Goals as goal

pub enter_children-requires : goal.enter_children-requires
enter_children-requires c =
    let p = c.requires in
    let same = rw (c.children_in_range.ensures, c.names.ensures) at c.if-ok.true in
    let l = p.4 in
    (p.1, omega (arith, c.next.ensures), lower_up _ _ _ (omega arith) (p.2 same))

pub returns-then-ok : goal.returns-then-ok
returns-then-ok c =
    (rw (c.children_in_range.ensures, c.names.ensures) refl, rw c.if-ok.true (c.enter_children.ensures ∙ rw c.next.ensures refl))

pub returns-else-ok : goal.returns-else-ok
returns-else-ok c =
    (rw (c.children_in_range.ensures, c.names.ensures) refl, rw c.if-ok.false refl)
