-- What stays is moved together; then the instruction gives unit.
use Prim.Native.Nat.{◌<◌}
use native.Mathlib.Omega.{arith}
use mathlib.Core.Path.{sym, subst}
use Rattle.vm_machine.specs.declared.Regs.{Regs}
use Rattle.vm_machine.specs.Registers.{fuel_bias}
use Rattle.vm_marks.proofs.Stayed.{takedown_made}
use Rattle.vm_marks.proofs.Marked.{fits_same}
use borrow.Author.Rules.{rules}
use Rattle.vm_marks.proofs.takedown.reduce_takedown.Goals as goal

pub given-requires : goal.given-requires
given-requires c =
    let e = c.same-s.ensures in
    let f = fits_same c.requires.2.0 c.args.r _ e c.requires.2.1 in
    let l = subst (λ (v : Regs). fuel_bias < v.fuel) (sym e) c.requires.1 in
    (search rules, omega (arith, f.frames), omega (arith, l))

pub returns : goal.returns
returns c =
    let a = c.args in
    takedown_made a.work.now _ _ a.r _ _ a.w _ _ c.requires.1 c.takedown_domain.ensures c.stay_others-n.ensures c.same-s.ensures c.given.ensures
