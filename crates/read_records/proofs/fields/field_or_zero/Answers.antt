use Prim.Native.Nat.{◌*◌}
use Rattle.read_records.proofs.Clipped.{last_byte}
use borrow.Author.Rules.{rules}
use Rattle.read_records.proofs.fields.field_or_zero.Goals as goal

pub returns-then-at-fields-2 : goal.returns-then-at-fields-2
returns-then-at-fields-2 c =
    let a = c.args in
    last_byte a.fields.now (2 * a.i) _ (search rules) c.from.ensures
