use mathlib.Core.Path.{ap, ◌∙◌}
use native.Mathlib.Omega.{arith}
use Rattle.vm_code.specs.Words.{class_of}
use Rattle.vm_machine.specs.Fetch.{Program, atom_value}
use Rattle.vm_memory.specs.View.{memory_of}
use Rattle.vm_matches.proofs.Fields.{term_of}
use Rattle.vm_matches.proofs.Matching.{match_atom, match_operand}
use Rattle.vm_matches.proofs.operands.begin_match.Goals as goal

pub entries_from-requires : goal.entries_from-requires
entries_from-requires c =
    let a = c.args in
    (c.requires.0, omega (arith, c.requires.1), c.instruction-w.ensures, (a.image.now, c.match_fields-fields.ensures))

pub returns-then-class_of-lt-INSTRUCTION : goal.returns-then-class_of-lt-INSTRUCTION
returns-then-class_of-lt-INSTRUCTION c =
    let a = c.args in
    let C : Program = record { code = a.code.now; image = a.image.now } in
    match_atom C a.work.now _ a.r _ c.instruction-w.result _ _ c.instruction-w.ensures (term_of C c.instruction-w.result _ c.match_fields-fields.ensures 0 _ (omega arith) c.term_at-x.ensures) (c.class_of.ensures ∙ ap class_of c.word_of-u.ensures)
    _ c.unlooked.result c.if-class_of-lt-INSTRUCTION.true (c.atom_value-v.ensures C ∙ ap (atom_value C (memory_of a.work.now) a.r.env) c.word_of-u.ensures) c.unlooked.ensures.0 c.unlooked.ensures.1 (c.entries_from.ensures a.image.now c.match_fields-fields.ensures)

pub returns : goal.returns
returns c =
    let a = c.args in
    let C : Program = record { code = a.code.now; image = a.image.now } in
    match_operand C a.work.now _ a.r _ c.instruction-w.result _ _ c.instruction-w.ensures (term_of C c.instruction-w.result _ c.match_fields-fields.ensures 0 _ (omega arith) c.term_at-x.ensures) (c.class_of.ensures ∙ ap class_of c.word_of-u.ensures) c.if-class_of-lt-INSTRUCTION.false (c.begin_operand.ensures a.image.now)
