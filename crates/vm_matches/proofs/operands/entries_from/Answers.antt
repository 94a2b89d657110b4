use native.Mathlib.Omega.{arith}
use Rattle.vm_machine.specs.Fetch.{Program}
use Rattle.vm_matches.proofs.Fields.{entry_of}
use Rattle.vm_matches.specs.Matching.{looked_of}
use Rattle.vm_matches.proofs.Matching.{entries_done, entries_on}
use Rattle.vm_matches.proofs.operands.entries_from.Goals as goal

pub returns-then-count_of-k : goal.returns-then-count_of-k
returns-then-count_of-k c =
    let a = c.args in
    λ image e.
    let C : Program = record { code = a.code.now; image = image } in
    entries_done C a.work.now _ a.r _ a.r.pc a.from.stack a.w c.requires.2 (looked_of a.from) (looked_of c.look_on-k.result) (c.look_on-k.ensures.0 image e) _ c.count_of.ensures _ c.look_on-k.ensures.1 c.if-count_of-k.true (c.make_match.ensures image e)

pub returns : goal.returns
returns c =
    let a = c.args in
    λ image e.
    let C : Program = record { code = a.code.now; image = image } in
    entries_on C a.work.now _ a.r _ a.r.pc a.from.stack a.w c.requires.2 (looked_of a.from) (looked_of c.look_on-k.result) (c.look_on-k.ensures.0 image e) _ c.count_of.ensures _ _ _ _ c.look_on-k.ensures.1 c.if-count_of-k.false
    (entry_of C a.w a.fields.now e c.look_on-k.result.next _ (omega (arith, c.count_of.ensures, c.if-count_of-k.false)) c.entry_at.ensures) c.cut_term-x.ensures c.looked_byte.ensures.0 (c.begin_operand.ensures image)
