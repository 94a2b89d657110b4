-- `write_records::put_record` meets its contract.
use Prim.Native.Nat.{◌+◌, ◌*◌}
use mathlib.Core.Path.{refl}
use lib.ListN.{length}
use Rattle.write_records.proofs.Numbers.{record_whole}
use Rattle.write_records.proofs.put_record.Goals as goal

pub returns : goal.returns
returns c =
    let a = c.args in
    (refl, record_whole (4 + 2 * length a.numbers.now) a.kind a.numbers.now a.out.now _ _ a.at c.requires.1 c.put_head.ensures c.put_numbers.ensures)
