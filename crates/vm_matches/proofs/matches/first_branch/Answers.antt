use mathlib.Core.Bool.{not}
use mathlib.Core.Path.{refl, ap}
use Rattle.vm_machine.specs.Fetch.{Program}
use native.Mathlib.Omega.{arith}
use Prim.Native.Nat.{◌+◌, ◌≤◌}
use Rattle.calculus.specs.Limits.{binding_limit}
use Rattle.vm_code.specs.Words.{count_of}
use Rattle.vm_pools.specs.Pools.{bindings_out}
use Rattle.vm_machine.specs.Stacks.{variables}
use Rattle.vm_machine.specs.Memory.{binding_places}
use Rattle.vm_registers.proofs.Quotas.{whole_capacity}
use Rattle.vm_matches.proofs.Matching.{branch_full, branch_spent, branch_made}
use borrow.Author.Rules.{rules}
use Rattle.vm_matches.proofs.matches.first_branch.Goals as goal

pub returns-then-not-has_capacity : goal.returns-then-not-has_capacity
returns-then-not-has_capacity c =
    let a = c.args in
    λ image e.
    let C : Program = record { code = a.code.now; image = image } in
    branch_full C a.work.now a.work.now a.work.now a.r _ a.w a.v _ (c.variables-m.ensures.0 C e) _ _ c.quota_of-h.ensures c.has_capacity.ensures _ (ap not c.if-not-has_capacity.true) c.bindings_out.ensures c.halt.ensures

pub returns-then-r-le-FUEL_BIAS : goal.returns-then-r-le-FUEL_BIAS
returns-then-r-le-FUEL_BIAS c =
    let a = c.args in
    λ image e.
    let C : Program = record { code = a.code.now; image = image } in
    branch_spent C a.work.now a.work.now a.work.now a.r _ a.w a.v _ (c.variables-m.ensures.0 C e) _ _ c.quota_of-h.ensures c.has_capacity.ensures c.if-r-le-FUEL_BIAS.true (ap not c.if-not-has_capacity.false) c.halt-then-r-le-FUEL_BIAS.ensures

pub bind_entries-b-requires : goal.bind_entries-b-requires
bind_entries-b-requires c =
    let a = c.args in
    let p = c.requires.2 in
    let C : Program = record { code = a.code.now; image = p.0 } in
    let k = whole_capacity binding_limit c.variables-m.result (λ p. p.bindings) bindings_out a.w a.r _ _ c.quota_of-h.ensures c.has_capacity.ensures c.requires.0.bindings (c.if-not-has_capacity.false) in
    let h : c.whole.result + variables C a.w (count_of a.w) 0 ≤ binding_places = omega (arith, c.variables-m.ensures.0 C p.1, c.whole.ensures, k) in
    (search rules, c.requires.0.env, (C, p.1, h))

pub called-q-requires : goal.called-q-requires
called-q-requires c =
    let m = c.requires.0 in
    (omega (arith, m.coded), search rules, m.frames, c.requires.1, m.pc, m.env, c.bind_entries-b.ensures.1)

pub charge_bindings-q-requires : goal.charge_bindings-q-requires
charge_bindings-q-requires c =
    let a = c.args in
    omega (arith, whole_capacity binding_limit c.variables-m.result (λ p. p.bindings) bindings_out a.w a.r _ _ c.quota_of-h.ensures c.has_capacity.ensures c.requires.0.bindings (c.if-not-has_capacity.false))

pub returns : goal.returns
returns c =
    let a = c.args in
    λ image e.
    let C : Program = record { code = a.code.now; image = image } in
    branch_made C a.work.now _ _ a.r _ a.w a.v _ (c.variables-m.ensures.0 C e) _ _ c.quota_of-h.ensures c.has_capacity.ensures c.if-r-le-FUEL_BIAS.false _ _ _ _ _ (ap not c.if-not-has_capacity.false) c.whole.ensures c.charge_bindings-q.ensures (c.bind_entries-b.ensures.0 C e) refl (c.branch_at-g.ensures image a.w e) (c.called-q.ensures image)
