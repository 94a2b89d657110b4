use Rattle.vm_matches.proofs.Fields.{entry_of}
use mathlib.Core.Path.{sym, ◌∙◌}
use native.Mathlib.Omega.{arith}
use Prim.Native.Nat.{◌<◌}
use Rattle.vm_code.specs.Words.{count_of}
use Rattle.vm_matches.proofs.Looking.{one_at_most, count_more, count_all}
use Rattle.vm_matches.proofs.entries.variables.Goals as goal

pub loop-i-preserved : goal.loop-i-preserved
loop-i-preserved c =
    let a = c.args in
    let l = c.loop-i in
    let h : l.i < count_of a.w = omega (arith, c.loop-i-test.true, c.count_of-i-end.ensures) in
    (omega (arith, one_at_most _ _ c.from-c.ensures, l.invariant.0), λ C e. l.invariant.1 C e ∙ count_more C a.w _ l.i _ _ h (entry_of C a.w a.fields.now e l.i _ h c.entry_at.ensures) c.from-c.ensures l.c)

pub returns : goal.returns
returns c =
    let a = c.args in
    let l = c.loop-i in
    ((λ C e. sym (l.invariant.1 C e ∙ count_all C a.w _ l.i _ _ (omega (arith, c.loop-i-test.false, c.count_of-i-end.ensures)) (c.binds_rest.ensures C e) c.from.ensures l.c)), omega (arith, c.count_of-i-end.ensures, one_at_most _ _ c.from.ensures, l.invariant.0, c.loop-i.auto.i-end))
