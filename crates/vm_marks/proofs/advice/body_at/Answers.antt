use Rattle.vm_memory.specs.View.{memory_of}
use Rattle.vm_marks.proofs.Advised.{body_instruction, body_atom}
use Rattle.vm_marks.proofs.advice.body_at.Goals as goal

pub returns-then-g-ge-TERMS : goal.returns-then-g-ge-TERMS
returns-then-g-ge-TERMS c = let a = c.args in body_instruction (memory_of a.work.now) a.b _ _ c.binding_at.ensures c.bound_target-g.ensures c.if-g-ge-TERMS.true

pub returns-else-g-ge-TERMS : goal.returns-else-g-ge-TERMS
returns-else-g-ge-TERMS c = let a = c.args in body_atom (memory_of a.work.now) a.b _ _ c.binding_at.ensures c.bound_target-g.ensures c.if-g-ge-TERMS.false
