use mathlib.Core.Path.{◌≡◌, sym, ap, ◌∙◌}
use native.Mathlib.Omega.{arith}
use Prim.Native.Nat.{◌-◌}
use Rattle.vm_memory.specs.View.{memory_of}
use Rattle.vm_memory.proofs.Found.{outside, lookup_outside, outside_none, outside_on, outside_here}
use Rattle.vm_memory.proofs.bindings.lookup.Goals as goal

pub loop-init : goal.loop-init
loop-init c =
    let e : c.args.k - 0 ≡ c.args.k = omega arith in
    rw e (lookup_outside _ _ _ ∙ ap (λ x. outside (memory_of c.args.work.now) x c.args.k) (sym c.binding_at-w.ensures))

pub returns-then-l-ge-NO_BINDING : goal.returns-then-l-ge-NO_BINDING
returns-then-l-ge-NO_BINDING c = sym (c.loop.invariant ∙ outside_none _ _ _ (omega arith) (omega (arith, c.bound_link-l.ensures, c.if-l-ge-NO_BINDING.true)))

pub loop-preserved : goal.loop-preserved
loop-preserved c =
    let a = c.args in
    c.loop.invariant
    ∙ outside_on _ _ _ _ _ (omega arith) c.bound_link-l.ensures c.if-l-ge-NO_BINDING.false c.binding_at-w-in-loop.ensures
    ∙ ap (outside (memory_of a.work.now) c.binding_at-w-in-loop.result) (omega arith)

pub returns : goal.returns
returns c = sym (c.loop.invariant ∙ outside_here _ _ _ (omega arith))
