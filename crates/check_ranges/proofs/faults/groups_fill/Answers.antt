-- `check_ranges::faults::groups_fill` meets its contract.
use mathlib.Core.Path.{◌≡◌, sym, ◌∙◌}
use borrow.Author.Tests.{eq-eqb, ne_eqb}
use Rattle.read_records.specs.Codes.{group_of}
use Rattle.check_ranges.proofs.faults.groups_fill.Goals as goal

pub returns-then-bytes-eq0 : goal.returns-then-bytes-eq0
returns-then-bytes-eq0 c =
    let e : group_of c.args.code ≡ 1 = sym c.group_count-group.ensures ∙ c.if-group-eq1.true in
    rw (c.least_times-most.ensures, e, eq-eqb _ _ c.if-bytes-eq0.true)

pub returns-else-bytes-eq0 : goal.returns-else-bytes-eq0
returns-else-bytes-eq0 c =
    let e : group_of c.args.code ≡ 1 = sym c.group_count-group.ensures ∙ c.if-group-eq1.true in
    rw (e, ne_eqb _ _ c.if-bytes-eq0.false)

pub returns-then-bytes-group-eq0 : goal.returns-then-bytes-group-eq0
returns-then-bytes-group-eq0 c = rw (c.least_times-most.ensures, ← c.group_count-group.ensures, eq-eqb _ _ c.if-bytes-group-eq0.true)

pub returns-else-bytes-group-eq0 : goal.returns-else-bytes-group-eq0
returns-else-bytes-group-eq0 c = rw (← c.group_count-group.ensures, ne_eqb _ _ c.if-bytes-group-eq0.false)
