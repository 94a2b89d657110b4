-- `write_records::put_head` meets its contract.
use borrow.Author.Rules.{rules}
use Prim.Native.Nat.{◌+◌, ◌*◌}
use native.Mathlib.Omega.{arith}
use mathlib.Core.Path.{ap, ◌∙◌}
use Rattle.base_bytes.specs.Bytes.{over}
use Rattle.write_records.proofs.Numbers.{two_numbers}
use Rattle.write_records.proofs.put_head.Goals as goal

pub returns : goal.returns
returns c =
    let w = c.put_header in
    let a = c.args in
    w.ensures ∙ ap (λ bs. over a.at bs a.out.now) (two_numbers (4 + 2 * a.count) a.kind (omega arith) (search rules))
