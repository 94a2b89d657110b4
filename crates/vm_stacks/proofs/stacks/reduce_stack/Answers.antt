use mathlib.Core.Path.{ap}
use mathlib.Core.Bool.{not}
use native.Mathlib.Omega.{arith}
use Rattle.calculus.specs.Limits.{piece_limit}
use Rattle.vm_pools.specs.Pools.{pieces_out}
use Rattle.vm_registers.proofs.Quotas.{whole_capacity}
use Rattle.vm_stacks.proofs.Stacked.{stack_full, stack_spent, stack_made}
use borrow.Author.Rules.{rules}
use Rattle.vm_stacks.proofs.stacks.reduce_stack.Goals as goal

pub returns-then-not-has_capacity : goal.returns-then-not-has_capacity
returns-then-not-has_capacity c =
    let a = c.args in
    stack_full a.work.now a.work.now a.work.now a.r _ a.w _ _ c.quota_of-h.ensures c.has_capacity.ensures _ (ap not c.if-not-has_capacity.true) c.pieces_out.ensures c.halt.ensures

pub returns-then-r-le-FUEL_BIAS : goal.returns-then-r-le-FUEL_BIAS
returns-then-r-le-FUEL_BIAS c =
    let a = c.args in
    stack_spent a.work.now a.work.now a.work.now a.r _ a.w _ _ c.quota_of-h.ensures c.has_capacity.ensures c.if-r-le-FUEL_BIAS.true (ap not c.if-not-has_capacity.false) c.halt-then-r-le-FUEL_BIAS.ensures

pub stack_pieces-v-requires : goal.stack_pieces-v-requires
stack_pieces-v-requires c =
    let a = c.args in
    (search rules, omega (arith, c.whole.ensures, whole_capacity piece_limit a.r.kept (λ p. p.pieces) pieces_out a.w a.r _ _ c.quota_of-h.ensures c.has_capacity.ensures c.requires.1.1.pieces (c.if-not-has_capacity.false)))

pub charge_pieces-q-requires : goal.charge_pieces-q-requires
charge_pieces-q-requires c =
    let a = c.args in
    omega (arith, whole_capacity piece_limit a.r.kept (λ p. p.pieces) pieces_out a.w a.r _ _ c.quota_of-h.ensures c.has_capacity.ensures c.requires.1.1.pieces (c.if-not-has_capacity.false))

pub returns : goal.returns
returns c =
    let a = c.args in
    stack_made a.work.now _ _ a.r _ a.w _ _ c.quota_of-h.ensures c.has_capacity.ensures c.if-r-le-FUEL_BIAS.false _ _ _ (ap not c.if-not-has_capacity.false) c.whole.ensures c.charge_pieces-q.ensures c.stack_pieces-v.ensures c.given-q.ensures
