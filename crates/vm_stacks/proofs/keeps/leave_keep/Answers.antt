use native.Mathlib.Omega.{arith}
use Prim.Native.Nat.{◌<◌}
use Rattle.vm_machine.specs.declared.Regs.{Regs}
use mathlib.Core.Path.{sym, subst}
use Rattle.vm_stacks.proofs.Keeping.{keep_spent, keep_left}
use borrow.Author.Rules.{rules}
use Rattle.vm_stacks.proofs.keeps.leave_keep.Goals as goal

pub returns-then-r-le-FUEL_BIAS : goal.returns-then-r-le-FUEL_BIAS
returns-then-r-le-FUEL_BIAS c = let a = c.args in λ image. keep_spent (record { code = a.code.now; image = image }) a.work.now a.work.now a.r _ a.f c.if-r-le-FUEL_BIAS.true c.halt.ensures

pub given-requires : goal.given-requires
given-requires c =
    (search rules, omega (arith, c.depth_of.ensures, c.requires.2), subst (λ (z : Regs). 0 < z.fuel) (sym c.same-q.ensures) (omega (arith, c.if-r-le-FUEL_BIAS.false)))

pub returns : goal.returns
returns c =
    let a = c.args in
    λ image. keep_left (record { code = a.code.now; image = image }) a.work.now _ a.r _ a.f _ _ _ _ _ _ c.if-r-le-FUEL_BIAS.false c.slot_pc-pc.ensures c.instruction-w.ensures c.same-q.ensures c.depth_of.ensures c.saturating_sub.ensures c.slot_env.ensures c.given.ensures
