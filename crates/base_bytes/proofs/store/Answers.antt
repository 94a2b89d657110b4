use Prim.Native.Nat.{◌*◌}
use native.Mathlib.Omega.{arith}
use mathlib.Core.Path.{ap, ◌∙◌}
use Rattle.base_bytes.specs.Bytes.{bytes_of}
use Rattle.base_bytes.proofs.Bytes.{bytes8, length_bytes, put_over}
use Rattle.base_bytes.proofs.store.Goals as goal

pub returns : goal.returns
returns c =
    let a = c.args in
    rw (c.copy_from_slice.ensures.after ∙ (c.to_le_bytes.ensures ∙ bytes8 _ ∙ ap (bytes_of 8) {y = a.v} (omega arith))) (put_over (8 * a.i) 8 (bytes_of 8 a.v) a.area.now (length_bytes 8 a.v))
