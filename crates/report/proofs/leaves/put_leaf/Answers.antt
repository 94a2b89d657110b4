use native.Mathlib.Omega.{arith}
use mathlib.Core.Path.{◌≡◌, refl, ◌∙◌}
use mathlib.Core.Bool.{Bool, true, false}
use mir.Val.{bool_byte}
use Rattle.calculus.specs.Combinators.{choose}
use Rattle.base_bytes.specs.Bytes.{bytes_of}
use Rattle.base_bytes.specs.Records.{bytes16, bytes32}
use Rattle.report.proofs.Put.{record_written}
use Rattle.report.proofs.leaves.put_leaf.Goals as goal

-- A truth as a number.
bit : (b : Bool) → bool_byte b ≡ choose b 1 0
bit true = refl
bit false = refl

pub returns-in-Unit : goal.returns-in-Unit
unfolding bytes_of
returns-in-Unit c = rw c.in-Unit.is (refl, c.put_header.ensures)

pub returns-in-Truth : goal.returns-in-Truth
unfolding bytes_of
returns-in-Truth c =
    let a = c.args in
    let w = rw (c.from.ensures ∙ bit c.in-Truth.b) at c.put16.ensures in
    rw c.in-Truth.is (refl, record_written 66 a.report.now a.at (bytes16 (choose c.in-Truth.b 1 0)) 6 refl c.put_header-in-Truth.ensures w (omega arith))

pub returns-in-Number : goal.returns-in-Number
unfolding bytes_of
returns-in-Number c =
    let a = c.args in
    rw c.in-Number.is (refl, record_written 67 a.report.now a.at (bytes32 c.in-Number.n) 8 refl c.put_header-in-Number.ensures c.put32.ensures (omega arith))
