-- `check_shape::descent::check_depths_in` meets its contract: the root has depth 1; the pass over the terms sets the others.
use Prim.Native.Nat.{◌-◌}
use mathlib.Core.Path.{◌∙◌}
use lib.ListN.{length}
use Rattle.image.specs.Limits.{term_limit}
use Rattle.image.specs.Layout.{records_of}
use Rattle.check_shape.proofs.Zeros.{front_length}
use Rattle.check_shape.proofs.DepthMarks.{deep_same}
use Rattle.check_shape.proofs.descent.check_depths_in.Goals as goal

pub returns : goal.returns
returns c =
    let q = c.set_mark.ensures in
    let p = c.requires in
    let a = c.args in
    let n = length a.terms.now in
    let k = rw q at c.mark_terms.auto.depths ∙ front_length term_limit a.depths.now p.3 n (n - 1) 1 p.1.few in
    c.first_deep.ensures ∙ deep_same (records_of a.image.now) a.depths.now c.mark_terms.new.depths _ term_limit p.3 a.image.now a.terms.now p.1 p.2 p.1.few k (rw q at c.mark_terms.ensures)
