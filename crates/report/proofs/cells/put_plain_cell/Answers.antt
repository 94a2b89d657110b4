use Prim.Native.Nat.{◌+◌, ◌-◌}
use native.Mathlib.Omega.{arith}
use mathlib.Core.Path.{◌≡◌, refl}
use lib.ListN.{length}
use Rattle.base_bytes.specs.Bytes.{bytes_of}
use Rattle.base_bytes.specs.Records.{bytes16}
use Rattle.report.specs.Written.{plain_cell_kind, leaves_bytes, leaves_in}
use Rattle.report.proofs.Lengths.{slots_short}
use Rattle.report.proofs.Put.{header_last}
use Rattle.report.proofs.cells.put_plain_cell.Goals as goal

pub overflow_cast-end : goal.overflow_cast-end
overflow_cast-end c =
    let a = c.args in
    let n = slots_short a.count a.slots in
    record { fits = omega (arith, c.put_leaves-end.ensures.0) }

pub returns : goal.returns
unfolding bytes_of
returns c =
    let a = c.args in
    let ls = leaves_bytes (leaves_in a.count a.slots) in
    let n = slots_short a.count a.slots in
    let w = c.put_leaves-end.ensures in
    let e : c.put_leaves-end.result - a.at ≡ 6 + length ls = omega (arith, w.0) in
    let i : a.at + 6 ≡ a.at + 4 + 2 = omega arith in
    (omega (arith, w.0), header_last plain_cell_kind a.report.now a.at (bytes16 a.dom.0) ls (6 + length ls) (a.at + 6) refl i w.1 (rw e at c.put_header.ensures) c.put16.ensures (omega arith))
