-- The numbers so far stand at the front.
use Rattle.std.proofs.Common.{rules, refl, length-set, ◌∙◌}
use Rattle.listing.specs.Conformance.{up_to}
use Rattle.watch.proofs.Frame.{frame_more}
use Rattle.watch.proofs.conformance.frame_bytes.Goals as goal

pub loop-i-init : goal.loop-i-init
unfolding up_to
loop-i-init c = (refl, refl)

pub loop-i-preserved : goal.loop-i-preserved
loop-i-preserved c =
    let l = c.loop-i in
    (length-set l.frame l.i l.i ∙ l.invariant.0, frame_more l.frame l.i (search rules) l.invariant.1)
