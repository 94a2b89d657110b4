use Rattle.vm_marks.proofs.Matched.{placed, past}
use Rattle.vm_marks.proofs.bind.bind_advice.Goals as goal

pub returns-then-n-lt-BINDING_PLACES : goal.returns-then-n-lt-BINDING_PLACES
returns-then-n-lt-BINDING_PLACES c =
    let a = c.args in
    placed a.work.now _ a.n a.v a.a _ _ c.if-n-lt-BINDING_PLACES.true c.advice_target.ensures c.advice_env.ensures c.bind.ensures

pub returns-else-n-lt-BINDING_PLACES : goal.returns-else-n-lt-BINDING_PLACES
returns-else-n-lt-BINDING_PLACES c = let a = c.args in past a.work.now a.work.now a.n a.v a.a c.if-n-lt-BINDING_PLACES.false
