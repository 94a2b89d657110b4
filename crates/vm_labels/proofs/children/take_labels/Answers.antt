use mathlib.Core.Path.{refl, ◌∙◌}
use native.Mathlib.Omega.{arith}
use Rattle.vm_machine.specs.Fetch.{Program}
use Rattle.vm_memory.specs.View.{memory_of}
use Rattle.vm_labels.proofs.Taking.{child_in_lem, from_count, none_left, no_atom, one_taken}
use Rattle.vm_labels.proofs.children.take_labels.Goals as goal

pub returns-then-class_of-ge-INSTRUCTION : goal.returns-then-class_of-ge-INSTRUCTION
returns-then-class_of-ge-INSTRUCTION c =
    let a = c.args in
    let l = c.loop-i in
    let v = l.invariant in
    let M = memory_of a.work.now in
    let d = l.done.digits in
    let h = c.loop-i-test.true in
    let n = c.count_of-i-end.ensures in
    λ image e.
    let C : Program = record { code = a.code.now; image = image } in
    rw v.counted (from_count C M a.env a.w _ _ _ _ n
    (v.taken image e ∙ no_atom C M a.env a.w _ l.i d _ _ _ h (child_in_lem C a.w l.i _ a.fields.now e (omega arith) c.term_at.ensures) c.word_of-u.ensures c.class_of.ensures c.if-class_of-ge-INSTRUCTION.true))

pub loop-i-preserved : goal.loop-i-preserved
loop-i-preserved c =
    let a = c.args in
    let l = c.loop-i in
    let M = memory_of a.work.now in
    let h = c.loop-i-test.true in
    let n = c.count_of-i-end.ensures in
    record {
      counted = refl;
      taken = λ image e.
          let C : Program = record { code = a.code.now; image = image } in
          l.invariant.taken image e ∙ one_taken C M a.env a.w _ l.i l.done.digits _ _ _ h (child_in_lem C a.w l.i _ a.fields.now e (omega arith) c.term_at.ensures) c.word_of-u.ensures c.class_of.ensures _ _ _ c.if-class_of-ge-INSTRUCTION.false (c.atom_value-v.ensures C) c.body.ensures c.with_digit.ensures;
    }

pub returns : goal.returns
returns c =
    let a = c.args in
    let l = c.loop-i in
    let v = l.invariant in
    let M = memory_of a.work.now in
    λ image e.
    let C : Program = record { code = a.code.now; image = image } in
    rw v.counted (from_count C M a.env a.w _ _ _ _ c.count_of-i-end.ensures (v.taken image e ∙ none_left C M a.env a.w _ l.i l.done.digits c.loop-i-test.false))
