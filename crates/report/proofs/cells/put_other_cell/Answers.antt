use native.Mathlib.Omega.{arith}
use mathlib.Core.Path.{refl}
use Rattle.base_bytes.specs.Bytes.{bytes_of}
use Rattle.report.proofs.Put.{record_written}
use Rattle.base_bytes.specs.Records.{bytes16}
use Rattle.report.specs.Written.{other_cell_kind}
use Rattle.report.proofs.cells.put_other_cell.Goals as goal

pub returns : goal.returns
unfolding bytes_of
returns c =
    let a = c.args in
    (refl, record_written other_cell_kind a.report.now a.at (bytes16 a.dom.0) 6 refl c.put_header.ensures c.put16.ensures (omega arith))
