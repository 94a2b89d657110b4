-- The loop goes down from the root; the lower terms are left.
use Prim.Native.Nat.{◌-◌}
use native.Mathlib.Omega.{arith}
use mathlib.Core.Path.{ap, sym, ◌∙◌}
use lib.ListN.{get_or}
use Rattle.image.specs.Layout.{records_of}
use Rattle.check_shape.specs.Depths.{capped_from}
use Rattle.check_shape.specs.Records.{children_of_term}
use Rattle.check_shape.proofs.DepthMarks.{capped_next, capped_end}
use Rattle.check_shape.proofs.descent.mark_terms.Goals as goal

pub loop-i-preserved : goal.loop-i-preserved
loop-i-preserved c =
    let l = c.loop-i in
    let L = records_of c.args.image.now in
    let cs = children_of_term c.args.image.now (get_or c.args.terms.now (l.i - 1) 0) in
    let s = c.mark_term in
    let after = c.mark_term.new.depths in
    let test = c.loop-i-test.true in
    let same = c.requires.1.same (l.i - 1) (omega arith) in
    let next = capped_next L l.i l.depths cs (omega arith) same in
    (c.mark_term.auto.depths ∙ l.invariant.0, l.invariant.1 ∙ next ∙ ap (λ ds. capped_from L (l.i - 1) ds) (sym s.ensures))

pub returns : goal.returns
returns c =
    let l = c.loop-i in
    let L = records_of c.args.image.now in
    sym (l.invariant.1 ∙ capped_end L l.i l.depths (omega arith))
