-- `check_ranges::terms::take_lowered` meets its contract: a child that passes is there.
use native.Mathlib.Omega.{arith}
use mathlib.Core.Bool.{◌&&◌}
use mathlib.Core.Path.{refl, ◌∙◌}
use Rattle.check_ranges.proofs.Taken.{both_told, child_told}
use Rattle.check_ranges.proofs.terms.take_lowered.Goals as goal

pub enter_one-requires : goal.enter_one-requires
enter_one-requires c =
    let y1 = both_told c.names.result (c.names-2.result && c.names-3.result) refl c.if-ok.true in
    let y0 = both_told c.names-2.result c.names-3.result refl y1.1 in
    (omega (arith, c.next.ensures), child_told c.names-3.ensures y0.1 c.field_as.ensures c.requires.2)

pub returns-then-ok : goal.returns-then-ok
returns-then-ok c =
    (rw (c.names-3.ensures, c.names-2.ensures, c.names.ensures) refl, rw c.if-ok.true (c.enter_one.ensures ∙ rw (c.next.ensures, c.field_as.ensures) refl))

pub returns-else-ok : goal.returns-else-ok
returns-else-ok c =
    (rw (c.names-3.ensures, c.names-2.ensures, c.names.ensures) refl, rw c.if-ok.false refl)
