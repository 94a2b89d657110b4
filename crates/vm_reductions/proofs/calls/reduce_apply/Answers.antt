use Rattle.vm_reductions.proofs.Reduced.{apply_made}
use Rattle.vm_registers.proofs.Quotas.{whole_capacity}
use Rattle.vm_pools.specs.Pools.{bindings_out}
use Rattle.vm_machine.specs.declared.Regs.{Regs}
use Rattle.calculus.specs.Limits.{binding_limit}
use mathlib.Core.Path.{ap}
use native.Mathlib.Omega.{arith}
use Rattle.vm_reductions.proofs.calls.reduce_apply.Goals as goal

pub called-requires : goal.called-requires
called-requires c =
    let f = c.requires.4.1 in
    let e = c.same-s.ensures in
    (omega (arith, c.requires.0), omega (arith, c.bind.auto.work, c.requires.1), omega (arith, ap (λ (v : Regs). v.frames) e, f.frames), omega (arith, ap (λ (v : Regs). v.frames) e, c.requires.3), omega (arith, ap (λ (v : Regs). v.pc) e, f.pc), omega (arith, ap (λ (v : Regs). v.env) e, f.env), omega (arith, c.whole-n.ensures, whole_capacity binding_limit 1 (λ p. p.bindings) bindings_out c.args.w c.args.r _ _ c.quota_of-h.ensures c.has_capacity.ensures c.requires.4.1.bindings c.if-has_capacity.true))

pub returns-then-has_capacity : goal.returns-then-has_capacity
returns-then-has_capacity c =
    let a = c.args in
    λ image. apply_made (record { code = a.code.now; image = image }) a.work.now _ _ a.r _ a.w a.x a.y _ _ c.quota_of-h.ensures c.has_capacity.ensures c.requires.2 _ _ _ _ _ c.if-has_capacity.true c.whole-n.ensures c.function_target.ensures c.closure_env.ensures c.same-s.ensures c.charge_bindings-s.ensures c.bind.ensures (c.called.ensures image)
