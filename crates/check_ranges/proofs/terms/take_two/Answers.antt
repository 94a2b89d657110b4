-- `check_ranges::terms::take_two` meets its contract: children that pass are there.
use native.Mathlib.Omega.{arith}
use mathlib.Core.Bool.{◌&&◌}
use mathlib.Core.Path.{refl, ◌∙◌}
use Rattle.check_ranges.proofs.Taken.{both_told, child_told}
use Rattle.check_ranges.proofs.terms.take_two.Goals as goal

pub enter_two-requires : goal.enter_two-requires
enter_two-requires c =
    let y1 = both_told c.names.result (c.names-2.result && c.names-3.result) refl c.if-ok.true in
    let y0 = both_told c.names-2.result c.names-3.result refl y1.1 in
    let l = c.requires.2 in
    (omega (arith, c.next.ensures), child_told c.names-2.ensures y0.0 c.field_as.ensures l, child_told c.names-3.ensures y0.1 c.field_as-then-ok.ensures l)

pub returns-then-ok : goal.returns-then-ok
returns-then-ok c =
    (rw (c.names-3.ensures, c.names-2.ensures, c.names.ensures) refl, rw c.if-ok.true (c.enter_two.ensures ∙ rw (c.next.ensures, c.field_as.ensures, c.field_as-then-ok.ensures) refl))

pub returns-else-ok : goal.returns-else-ok
returns-else-ok c =
    (rw (c.names-3.ensures, c.names-2.ensures, c.names.ensures) refl, rw c.if-ok.false refl)
