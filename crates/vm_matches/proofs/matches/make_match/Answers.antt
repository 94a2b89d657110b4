use Rattle.vm_labels.proofs.Labelling.{judged_frames, judged_made}
use Rattle.vm_matches.specs.Matching.{looked_of}
use Rattle.vm_machine.specs.Turn.{reduce_match}
use Rattle.vm_matches.proofs.matches.make_match.Goals as goal

pub returns-then-r-depth_of : goal.returns-then-r-depth_of
returns-then-r-depth_of c =
    let a = c.args in
    λ image e. judged_frames (reduce_match (record { code = a.code.now; image = image }) a.w a.k.stack (looked_of a.k)) a.work.now a.work.now a.r _ a.w _ c.depth_of.ensures c.if-r-depth_of.true c.halt.ensures

pub returns : goal.returns
returns c =
    let a = c.args in
    λ image e. judged_made (reduce_match (record { code = a.code.now; image = image }) a.w a.k.stack (looked_of a.k)) a.work.now _ a.r _ a.w _ c.depth_of.ensures c.if-r-depth_of.false (c.reduce_match.ensures image e)
