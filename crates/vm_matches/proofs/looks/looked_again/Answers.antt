use Rattle.vm_memory.specs.View.{memory_of}
use native.Mathlib.Omega.{arith}
use Rattle.vm_matches.proofs.Looking.{stack_came, cut_came}
use Rattle.vm_matches.proofs.looks.looked_again.Goals as goal

pub returns-then-byte-ge-STACK_TO_COME : goal.returns-then-byte-ge-STACK_TO_COME
returns-then-byte-ge-STACK_TO_COME c = let a = c.args in (stack_came (memory_of a.work.now) a.v a.f a.byte _ c.if-byte-ge-STACK_TO_COME.true c.unlooked.ensures.0 c.unlooked.ensures.1, c.unlooked.ensures.2)

pub returns : goal.returns
returns c = let a = c.args in (cut_came (memory_of a.work.now) a.v a.f a.byte _ _ _ c.if-byte-ge-STACK_TO_COME.false c.held_stack.ensures c.looked_with-k.ensures.0 c.looked_with-k.ensures.1 c.past_cut.ensures.0 c.past_cut.ensures.1, omega (arith, c.past_cut.ensures.2, c.looked_with-k.ensures.2))
