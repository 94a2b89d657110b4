use Rattle.vm_matches.specs.Matching.{looked_of}
use Rattle.vm_matches.proofs.Matching.{matched, not_matched}
use Rattle.vm_matches.proofs.matches.reduce_match.Goals as goal

pub returns-then-matches : goal.returns-then-matches
returns-then-matches c =
    let a = c.args in
    λ image e. matched (record { code = a.code.now; image = image }) a.work.now _ a.r _ a.w a.k.stack (looked_of a.k) _ (c.matches.ensures (record { code = a.code.now; image = image }) e) c.if-matches.true (c.first_branch.ensures image e)

pub returns : goal.returns
returns c =
    let a = c.args in
    λ image e. not_matched (record { code = a.code.now; image = image }) a.work.now _ a.r _ a.w a.k.stack (looked_of a.k) _ (c.matches.ensures (record { code = a.code.now; image = image }) e) c.if-matches.false (c.other_branch.ensures image e)
