use mathlib.Core.Path.{◌∙◌}
use Rattle.base_bytes.proofs.Bytes.{bytes2, length_bytes, put_over}
use Rattle.report.proofs.numbers.put16.Goals as goal

pub returns : goal.returns
returns c =
    let a = c.args in
    rw (c.copy_from_slice.ensures.after ∙ c.to_le_bytes.ensures ∙ bytes2 a.v) (put_over a.at 2 _ a.out.now (length_bytes 2 a.v))
