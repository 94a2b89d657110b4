use Prim.Native.Nat.{◌<◌}
use native.Mathlib.Omega.{arith}
use Rattle.vm_code.specs.Words.{count_of}
use Rattle.vm_machine.specs.Fetch.{Program}
use Rattle.vm_matches.specs.Matching.{looked_of}
use Rattle.vm_memory.specs.View.{memory_of}
use mathlib.Core.Path.{refl, sym, ◌∙◌}
use Rattle.vm_matches.proofs.Looking.{look_none, look_stop, look_past, look_all}
use Rattle.vm_matches.proofs.looks.look_on.Goals as goal

pub returns-then-stops_at : goal.returns-then-stops_at
returns-then-stops_at c =
    let a = c.args in
    let l = c.loop-k in
    let M = memory_of a.work.now in
    let h : l.k.next < count_of a.w = omega (arith, c.loop-k-test.true, c.count_of-n.ensures) in (
      (λ image e.
          let C : Program = record { code = a.code.now; image = image } in
          look_all C M a.env a.w _ a.from.next (looked_of a.from) c.count_of-n.ensures (l.invariant.0 image e ∙ look_stop C M a.env a.w _ (looked_of l.k) c.loop-k-test.true (sym (c.stops_at.ensures image a.w h e) ∙ c.if-stops_at.true))),
      l.invariant.1,
    )

pub loop-k-preserved : goal.loop-k-preserved
loop-k-preserved c =
    let a = c.args in
    let l = c.loop-k in
    let M = memory_of a.work.now in
    let h : l.k.next < count_of a.w = omega (arith, c.loop-k-test.true, c.count_of-n.ensures) in (
      (λ image e.
          let C : Program = record { code = a.code.now; image = image } in
          l.invariant.0 image e ∙ look_past C M a.env a.w _ (looked_of l.k) _ c.loop-k-test.true (sym (c.stops_at.ensures image a.w h e) ∙ c.if-stops_at.false) (c.past_entry-k.ensures.0 image a.w h e) c.past_entry-k.ensures.2),
      c.past_entry-k.ensures.1 ∙ l.invariant.1,
    )

pub returns : goal.returns
returns c =
    let a = c.args in
    let l = c.loop-k in
    let M = memory_of a.work.now in (
      (λ image e.
          let C : Program = record { code = a.code.now; image = image } in
          look_all C M a.env a.w _ a.from.next (looked_of a.from) c.count_of-n.ensures (l.invariant.0 image e ∙ look_none C M a.env a.w _ (looked_of l.k) c.loop-k-test.false)),
      l.invariant.1,
    )

pub loop-k-init : goal.loop-k-init
loop-k-init c = ((λ image e. refl), refl)
