-- `check_ranges::faults::right_length` meets its contract: the least length, a shorter one, a longer one without a group and with one.
use mathlib.Core.Path.{◌≡◌, sym, ap, ◌∙◌}
use native.Mathlib.Omega.{arith}
use Prim.Native.Nat.{◌-◌}
use Rattle.read_records.specs.Codes.{group_of}
use Rattle.check_ranges.specs.Numbers.{groups_fill}
use Rattle.check_ranges.proofs.Lengths.{least_fits, short_fails, longer_fits, group_fits}
use Rattle.check_ranges.proofs.faults.right_length.Goals as goal

pub returns-then-len-least : goal.returns-then-len-least
returns-then-len-least c = least_fits c.args.code c.args.len c.requires (c.if-len-least.true ∙ c.least_length-least.ensures)

pub returns-then-len-least-2 : goal.returns-then-len-least-2
returns-then-len-least-2 c = short_fails c.args.code c.args.len c.requires (omega (arith, c.least_length-least.ensures))

pub returns-then-group_count-eq0 : goal.returns-then-group_count-eq0
returns-then-group_count-eq0 c =
    longer_fits c.args.code c.args.len c.requires (omega (arith, c.least_length-least.ensures, c.if-len-least.false)) (sym c.group_count.ensures ∙ c.if-group_count-eq0.true)

pub returns : goal.returns
returns c =
    let e = c.least_length-least.ensures in
    c.groups_fill.ensures ∙ (ap (λ m. groups_fill c.args.code (c.args.len - m)) e ∙ group_fits c.args.code c.args.len c.requires (omega (arith, e, c.if-len-least.false)) (let z : group_of c.args.code ≡ 0 → ⊥ = λ z. c.if-group_count-eq0.false (c.group_count.ensures ∙ z) in omega arith))
