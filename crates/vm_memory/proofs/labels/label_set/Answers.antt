use mathlib.Core.Path.{◌≡◌, sym, ◌∙◌}
use native.Mathlib.Omega.{arith}
use Prim.Native.Nat.{◌-◌}
use Rattle.vm_memory.proofs.Found.{set_more, set_end}
use Rattle.vm_memory.proofs.labels.label_set.Goals as goal

pub loop-init : goal.loop-init
loop-init c = let e : c.args.n - 0 ≡ c.args.n = omega arith in rw e

pub loop-preserved : goal.loop-preserved
loop-preserved c = c.loop.invariant ∙ set_more _ _ _ _ _ c.loop-test.true c.with_bit-s.ensures

pub returns : goal.returns
returns c = sym (c.loop.invariant ∙ set_end _ _ _ _ c.loop-test.false)
