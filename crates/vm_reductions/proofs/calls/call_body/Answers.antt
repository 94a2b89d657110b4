use Rattle.vm_reductions.proofs.Reduced.{call_made}
use Rattle.vm_registers.proofs.Quotas.{whole_capacity}
use Rattle.vm_pools.specs.Pools.{bindings_out}
use Rattle.calculus.specs.Limits.{binding_limit}
use native.Mathlib.Omega.{arith}
use borrow.Author.Rules.{rules}
use Rattle.vm_reductions.proofs.calls.call_body.Goals as goal

pub called-q-requires : goal.called-q-requires
called-q-requires c =
    let f = c.requires.3.1 in
    (search rules, search rules, omega (arith, f.frames), c.requires.2, f.pc, f.env, omega (arith, c.whole-n.ensures, whole_capacity binding_limit 1 (λ p. p.bindings) bindings_out c.args.w c.args.r _ _ c.quota_of-h.ensures c.has_capacity.ensures c.requires.3.1.bindings c.if-has_capacity.true))

pub returns-then-has_capacity : goal.returns-then-has_capacity
returns-then-has_capacity c =
    let a = c.args in
    λ image. call_made (record { code = a.code.now; image = image }) a.work.now _ _ a.r _ a.w a.x a.g _ _ c.quota_of-h.ensures c.has_capacity.ensures c.if-r-le-FUEL_BIAS.false _ _ _ c.if-has_capacity.true c.whole-n.ensures c.closure_env.ensures c.charge_bindings-q.ensures c.bind.ensures (c.called-q.ensures image)
