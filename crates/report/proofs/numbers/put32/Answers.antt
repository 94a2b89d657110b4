use mathlib.Core.Path.{◌∙◌}
use Rattle.base_bytes.proofs.Bytes.{bytes4, length_bytes, put_over}
use Rattle.report.proofs.numbers.put32.Goals as goal

pub returns : goal.returns
returns c =
    let a = c.args in
    rw (c.copy_from_slice.ensures.after ∙ c.to_le_bytes.ensures ∙ bytes4 a.v) (put_over a.at 4 _ a.out.now (length_bytes 4 a.v))
