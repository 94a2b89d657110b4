use Rattle.vm_memory.specs.View.{memory_of}
use mathlib.Core.Path.{sym, ◌∙◌}
use Rattle.vm_matches.proofs.Looking.{behind_start, behind_more, behind_all}
use Rattle.vm_matches.proofs.looks.rest_after.Goals as goal

pub loop-init : goal.loop-init
loop-init c = behind_start _ _ 0 _

pub loop-preserved : goal.loop-preserved
loop-preserved c = let a = c.args in let l = c.loop in l.invariant ∙ behind_more (memory_of a.work.now) a.n l.counter l.rest _ c.loop-test.true c.rest_of-rest.ensures

pub returns : goal.returns
returns c = let a = c.args in let l = c.loop in sym (l.invariant ∙ behind_all (memory_of a.work.now) a.n l.counter l.rest c.loop-test.false)
