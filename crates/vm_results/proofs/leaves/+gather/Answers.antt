use Rattle.std.proofs.Common.{sym, ◌∙◌}
use Rattle.vm_memory.specs.View.{memory_of}
use Rattle.vm_results.proofs.Gathering.{leaves_word, leaves_deep, leaves_pair}
use Rattle.vm_results.proofs.leaves.+gather.Goals as goal

pub returns-then-tag-ne-PAIR : goal.returns-then-tag-ne-PAIR
returns-then-tag-ne-PAIR t c =
    let a = c.args in
    c.with_word.ensures ∙ sym (leaves_word _ _ c.tag.ensures (memory_of a.work.now) a.held a.depth c.if-tag-ne-PAIR.true)

pub returns-then-depth-eq0 : goal.returns-then-depth-eq0
returns-then-depth-eq0 t c =
    let a = c.args in
    sym (leaves_deep _ _ c.tag.ensures (memory_of a.work.now) a.held a.depth c.if-tag-ne-PAIR.false c.if-depth-eq0.true)

pub returns : goal.returns
returns t c =
    let a = c.args in
    leaves_pair _ _ c.tag.ensures (memory_of a.work.now) a.held a.depth _ _ _ _ _ c.if-tag-ne-PAIR.false c.if-depth-eq0.false c.piece_of-p.ensures c.piece_first-a.ensures c.piece_second-b.ensures c.gather-first.ensures c.gather.ensures
