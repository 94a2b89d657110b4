use Prim.Native.Nat.{◌*◌}
use native.Mathlib.Omega.{arith}
use mathlib.Core.Path.{ap, ◌∙◌}
use Rattle.base_bytes.specs.Bytes.{number_of, number_at}
use Rattle.base_bytes.proofs.Bytes.{gets, bytes_at}
use Rattle.base_bytes.proofs.load.Goals as goal

pub returns : goal.returns
unfolding number_at gets number_of
returns c =
    let a = c.args in
    let b = a.area.now in
    let k = 8 * a.i in
    let read = c.from_le_bytes.ensures in
    omega arith ∙ ap number_of (bytes_at b k 7 (omega arith))
