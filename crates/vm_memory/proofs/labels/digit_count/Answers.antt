use mathlib.Core.Path.{◌≡◌, sym, ◌∙◌}
use native.Mathlib.Omega.{arith}
use Prim.Native.Nat.{◌-◌}
use Rattle.vm_memory.proofs.Found.{count_none, count_end, count_more}
use Rattle.vm_memory.proofs.labels.digit_count.Goals as goal

pub loop-i-init : goal.loop-i-init
loop-i-init c = let e : c.args.n - 0 ≡ c.args.n = omega arith in rw e (omega arith)

pub loop-i-preserved : goal.loop-i-preserved
loop-i-preserved c = c.loop-i.invariant ∙ count_more _ _ _ c.loop-i-test.true c.if-d-le1.false

pub returns-then-d-le1 : goal.returns-then-d-le1
returns-then-d-le1 c = sym (c.loop-i.invariant ∙ count_none _ _ _ c.if-d-le1.true)

pub returns : goal.returns
returns c = sym (c.loop-i.invariant ∙ count_end _ _ _ c.loop-i-test.false ∙ omega arith)
