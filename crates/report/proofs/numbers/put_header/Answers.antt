use Prim.Native.Nat.{◌+◌}
use native.Mathlib.Omega.{arith}
use mathlib.Core.Path.{refl}
use Rattle.base_bytes.specs.Bytes.{bytes_of}
use Rattle.base_bytes.proofs.Over.{onward}
use Rattle.base_bytes.specs.Records.{bytes16}
use Rattle.report.proofs.numbers.put_header.Goals as goal

pub returns : goal.returns
unfolding bytes_of
returns c =
    let a = c.args in
    onward (bytes16 a.size) (bytes16 a.kind) a.out.now a.at (a.at + 2) c.put16.ensures c.put16-2.ensures refl (omega arith)
