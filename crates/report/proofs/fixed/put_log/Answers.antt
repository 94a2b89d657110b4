use Prim.Native.Nat.{◌+◌}
use native.Mathlib.Omega.{arith}
use mathlib.Core.Path.{refl}
use Rattle.base_bytes.specs.Bytes.{bytes_of}
use Rattle.report.proofs.Put.{fields_written}
use Rattle.base_bytes.specs.Records.{bytes16, bytes32, log_kind}
use Rattle.report.proofs.fixed.put_log.Goals as goal

pub returns : goal.returns
unfolding bytes_of
returns c =
    let a = c.args in
    fields_written log_kind a.log.now a.at (bytes16 a.dom.0) (bytes32 a.number) 10 (a.at + 6) refl (omega arith) c.put_header.ensures c.put16.ensures c.put32.ensures (omega arith)
