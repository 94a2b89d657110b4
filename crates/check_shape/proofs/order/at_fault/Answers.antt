-- The loop keeps: the row gathered so far shows a fault if some e so far is one.
use native.Mathlib.Omega.{arith}
use mathlib.Core.Path.{sym, ap, ◌∙◌}
use mathlib.Core.Bool.{not, ◌||◌, or-true}
use Rattle.image.specs.Limits.{domain_limit}
use Rattle.check_shape.specs.Faults.{names}
use Rattle.check_shape.proofs.Named.{found_none, found_absent, found_unnamed, found_own, found_other}
use Rattle.check_shape.proofs.order.at_fault.Goals as goal
use Rattle.check_shape.proofs.order.at_fault.Goals.{then-own-e+else-n-e+else-e-i, then-own-e+else-n-e+then-e-i, else-own-e}

pub loop-e-init : goal.loop-e-init
loop-e-init c =
    let a = c.args in
    found_none a.o a.n a.d.0 domain_limit

pub returns-then-n-e : goal.returns-then-n-e
returns-then-n-e c =
    let a = c.args in
    let l = c.loop-e in
    let unnamed = not (names a.o a.d.0 a.d.0) in
    let some = found_absent a.o a.n a.d.0 l.e (omega arith) c.if-own-e.true c.if-n-e.true in
    sym (ap (unnamed ||◌) some ∙ or-true unnamed)

pub loop-e-preserved : goal.loop-e-preserved
loop-e-preserved c =
    let a = c.args in
    let l = c.loop-e in
    let o = a.o in
    elim c.if-own-e.branch [
      | then-own-e+else-n-e+then-e-i w ↦ rw (w.named-is ∙ w.either_row-named.ensures) (found_other o a.n a.d.0 l.e l.named l.invariant w.if-own-e.true w.if-n-e.false w.if-e-i.true)
      | then-own-e+else-n-e+else-e-i w ↦ rw w.named-is (found_own o a.n a.d.0 l.e l.named l.invariant w.if-n-e.false w.if-e-i.false)
      | else-own-e w ↦ rw w.named-is (found_unnamed o a.n a.d.0 l.e l.named l.invariant w.if-own-e.false)
    ]
