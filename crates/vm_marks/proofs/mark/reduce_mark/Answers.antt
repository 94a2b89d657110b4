-- No advice names the label; no room for the bindings; nothing left of the budget; no advice matches; or the advice runs.
use mathlib.Core.Path.{ap}
use mathlib.Core.Bool.{not}
use native.Mathlib.Omega.{arith}
use Rattle.vm_marks.proofs.Marked.{without_advice_made, over_made, spent_made, none_made, some_made, fits_same, places_for, bound_places}
use borrow.Author.Rules.{rules}
use Rattle.vm_marks.proofs.mark.reduce_mark.Goals as goal

pub returns-then-not-has_bit : goal.returns-then-not-has_bit
returns-then-not-has_bit c =
    let a = c.args in
    without_advice_made a.work.now a.r _ a.w a.x a.y _ _ c.label_of-l.ensures.0 c.has_bit.ensures _ (ap not c.if-not-has_bit.true) c.mark_without_advice.ensures

pub bind_matching-c-requires : goal.bind_matching-c-requires
bind_matching-c-requires c =
    let f = c.requires.1.1 in
    (search rules, c.label_of-l.ensures.1, f.installed, bound_places _ f.bindings)

pub returns-then-not-within_quotas : goal.returns-then-not-within_quotas
returns-then-not-within_quotas c =
    let a = c.args in
    over_made a.work.now a.r _ a.w a.x a.y _ _ c.label_of-l.ensures.0 c.has_bit.ensures (ap not c.if-not-has_bit.false) _ _ c.bind_matching-c.ensures.0 _ c.within_quotas.ensures _ (ap not c.if-not-within_quotas.true) c.mark_out.ensures c.halt.ensures

pub returns-then-r-le-FUEL_BIAS : goal.returns-then-r-le-FUEL_BIAS
returns-then-r-le-FUEL_BIAS c =
    let a = c.args in
    spent_made a.work.now a.r _ a.w a.x a.y _ _ c.label_of-l.ensures.0 c.has_bit.ensures (ap not c.if-not-has_bit.false) _ _ c.bind_matching-c.ensures.0 _ c.within_quotas.ensures (ap not c.if-not-within_quotas.false) c.if-r-le-FUEL_BIAS.true c.halt-then-r-le-FUEL_BIAS.ensures

pub whole-n-requires : goal.whole-n-requires
whole-n-requires c =
    omega (arith, bound_places _ c.requires.1.1.bindings)

pub whole-m-requires : goal.whole-m-requires
whole-m-requires c =
    omega (arith, c.bind_matching-c.ensures.2)

pub given-requires : goal.given-requires
given-requires c =
    (omega (arith, c.bind_matching-c.auto.work, c.requires.0), omega (arith, c.requires.1.1.frames), omega (arith, c.if-r-le-FUEL_BIAS.false))

pub returns-then-m-n : goal.returns-then-m-n
returns-then-m-n c =
    let a = c.args in
    none_made a.work.now a.r _ a.w a.x a.y _ _ c.label_of-l.ensures.0 c.has_bit.ensures (ap not c.if-not-has_bit.false) _ _ c.bind_matching-c.ensures.0 _ c.within_quotas.ensures (ap not c.if-not-within_quotas.false) c.if-r-le-FUEL_BIAS.false _ _ c.whole-m.ensures c.whole-n.ensures _ c.if-m-n.true c.given.ensures

pub start_advice-requires : goal.start_advice-requires
start_advice-requires c =
    let f = fits_same c.requires.1.0 c.args.r c.same-s.result c.same-s.ensures c.requires.1.1 in
    let h = places_for c.bind_matching-c.result c.within_quotas.result c.within_quotas.ensures (ap not c.if-not-within_quotas.false) in
    (omega (arith, c.bind_matching-c.auto.work, c.requires.0), f.frames, f.pc, f.env, omega (arith, h, c.bind_matching-c.ensures.1, c.if-m-n.false, c.whole-m.ensures, c.whole-n.ensures), omega (arith, h, c.whole-m.ensures))

pub returns : goal.returns
returns c =
    let a = c.args in
    some_made a.work.now a.r _ a.w a.x a.y _ _ c.label_of-l.ensures.0 c.has_bit.ensures (ap not c.if-not-has_bit.false) _ _ c.bind_matching-c.ensures.0 _ c.within_quotas.ensures (ap not c.if-not-within_quotas.false) c.if-r-le-FUEL_BIAS.false _ _ c.whole-m.ensures c.whole-n.ensures _ _ c.if-m-n.false c.same-s.ensures c.start_advice.ensures

pub mark_without_advice-requires : goal.mark_without_advice-requires
mark_without_advice-requires c = (search rules, c.requires.1.1.frames)

pub overflow_sub-s : goal.overflow_sub-s
overflow_sub-s c = omega (arith, c.if-r-le-FUEL_BIAS.false)
