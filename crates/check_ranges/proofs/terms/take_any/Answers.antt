-- `check_ranges::terms::take_any` meets its contract: children that pass are there.
use native.Mathlib.Omega.{arith}
use mathlib.Core.Path.{refl, sym, ◌∙◌}
use Rattle.check_uses.proofs.ChildByChild.{lower_up}
use Rattle.check_ranges.proofs.terms.take_any.Goals as goal

pub enter_children-requires : goal.enter_children-requires
enter_children-requires c =
    let p = c.requires in
    let l = p.5 in
    (p.2, omega (arith, c.next.ensures), lower_up _ _ _ (omega arith) (p.3 (sym c.all_in_range-ok.ensures ∙ c.if-ok.true)))

pub returns-then-ok : goal.returns-then-ok
returns-then-ok c =
    (c.all_in_range-ok.ensures, rw c.if-ok.true (c.enter_children.ensures ∙ rw c.next.ensures refl))

pub returns-else-ok : goal.returns-else-ok
returns-else-ok c = (c.all_in_range-ok.ensures, rw c.if-ok.false refl)
