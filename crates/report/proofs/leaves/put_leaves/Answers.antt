use native.Mathlib.Omega.{arith}
use mathlib.Core.Path.{◌≡◌, refl, sym, ◌∙◌}
use lib.ListN.{length, take}
use lib.Seq.{take_all, length-take-le}
use Rattle.base_bytes.proofs.Over.{over_nothing}
use Rattle.report.specs.Records.{records_bytes}
use Rattle.report.proofs.Put.{leaves_step}
use borrow.Author.Rules.{rules}
use Rattle.report.proofs.leaves.put_leaves.Goals as goal

pub loop-slot-init : goal.loop-slot-init
unfolding records_bytes
loop-slot-init c = let a = c.args in (omega arith, refl, omega arith, sym (over_nothing a.report.now a.at))

pub loop-slot-preserved : goal.loop-slot-preserved
loop-slot-preserved c =
    let a = c.args in
    let l = c.loop-slot in
    let w = c.put_leaf-o in
    let few : length a.slots ≡ 8 = search rules in
    let most = length-take-le a.count a.slots (omega arith) in
    let s = leaves_step (take a.count a.slots) a.report.now a.at l.slot-index l.o _ (omega arith) l.invariant.2 l.invariant.3 w.ensures.0 w.ensures.1 (omega arith) in
    (omega (arith, s.2), w.auto.report ∙ l.invariant.1, s.0, s.1)

pub returns : goal.returns
returns c =
    let l = c.loop-slot in
    let all = take_all l.slot-index (take c.args.count c.args.slots) c.loop-slot-test.false in
    (rw all at l.invariant.2, rw all at l.invariant.3)

pub put_leaf-o-requires : goal.put_leaf-o-requires
put_leaf-o-requires c =
    let few : length c.args.slots ≡ 8 = search rules in
    let most = length-take-le c.args.count c.args.slots (omega arith) in
    omega arith
