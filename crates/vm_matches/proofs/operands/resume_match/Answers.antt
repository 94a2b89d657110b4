use mathlib.Core.Path.{ap, ◌∙◌}
use Rattle.vm_code.specs.Words.{depth_of}
use Rattle.vm_matches.proofs.Matching.{still_matchable, match_resumed}
use Rattle.vm_matches.proofs.operands.resume_match.Goals as goal

pub entries_from-requires : goal.entries_from-requires
entries_from-requires c =
    let a = c.args in
    let m = still_matchable a.code.now a.work.now a.r c.same-q.result a.f _ _ _ c.requires.0 c.requires.1 c.slot_pc-pc.ensures c.same-q.ensures (c.depth_of.ensures ∙ ap depth_of c.instruction-w.ensures) in
    (m.0, m.1, c.instruction-w.ensures, (a.image.now, c.match_fields.ensures))

pub returns : goal.returns
returns c =
    let a = c.args in
    match_resumed (record { code = a.code.now; image = a.image.now }) a.work.now _ a.r _ _ a.f _ _ _ _ c.looked_again-k.result c.byte_beside.ensures.0 c.looked_again-k.ensures.0 c.slot_pc-pc.ensures c.same-q.ensures (c.depth_of.ensures ∙ ap depth_of c.instruction-w.ensures) c.slot_env.ensures (c.entries_from.ensures a.image.now c.match_fields.ensures)
