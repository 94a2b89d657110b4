use native.Mathlib.Omega.{arith}
use mathlib.Core.Path.{refl}
use Rattle.base_bytes.specs.Bytes.{bytes_of}
use Rattle.report.proofs.Put.{fields_written}
use Rattle.calculus.specs.Report.{outcome_number}
use Rattle.base_bytes.specs.Records.{bytes16, bytes32}
use Rattle.report.specs.Written.{report_kind}
use Rattle.report.proofs.fixed.put_head.Goals as goal

pub returns : goal.returns
unfolding bytes_of
returns c =
    let a = c.args in
    let e = c.from.ensures in
    fields_written report_kind a.report.now 0 (bytes16 (outcome_number a.outcome)) (bytes32 a.steps) 10 6 refl refl c.put_header.ensures (rw e at c.put16.ensures) c.put32.ensures (omega arith)
