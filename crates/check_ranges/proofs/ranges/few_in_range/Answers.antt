-- `check_ranges::ranges::few_in_range` meets its contract: none, one or two fields.
use native.Mathlib.Numerals.{add-one}
use mathlib.Core.Path.{◌≡◌}
use mathlib.Core.Bool.{and-true}
use native.Mathlib.Omega.{arith}
use Rattle.check_ranges.specs.Ranges.{ranges_from}
use Rattle.check_ranges.proofs.ranges.few_in_range.Goals as goal

pub returns-then-count-eq0 : goal.returns-then-count-eq0
unfolding ranges_from
returns-then-count-eq0 c = rw c.if-count-eq0.true

pub returns-then-count-eq1 : goal.returns-then-count-eq1
unfolding ranges_from
returns-then-count-eq1 c = simp (c.if-count-eq1.true, c.in_class-first.ensures, and-true)

pub returns : goal.returns
unfolding ranges_from
returns c =
    let e : c.args.count ≡ 2 = omega (arith, c.requires.0, c.if-count-eq0.false, c.if-count-eq1.false) in
    simp (e, c.in_class-first.ensures, c.in_class.ensures, add-one, and-true)
