-- `check_uses::uses::first_misused` meets its contract: the terms before i are used once.
use native.Mathlib.Omega.{arith}
use mathlib.Core.Path.{ap, sym, ◌∙◌}
use Rattle.laws.proofs.Tests.{all_below_lem}
use Rattle.check_uses.specs.Marks.{is_once}
use Rattle.check_uses.proofs.Below.{holds_more}
use Rattle.check_uses.proofs.uses.first_misused.Goals as goal

pub returns-then-all_once : goal.returns-then-all_once
returns-then-all_once c =
    let a = c.args in
    record { inside = omega arith; before = all_below_lem a.root.0 _ (sym c.all_once.ensures ∙ c.if-all_once.true); here = λ h. absurd (omega arith) }

pub returns-then-not-is_once : goal.returns-then-not-is_once
returns-then-not-is_once c =
    let l = c.loop-i in
    record { inside = omega arith; before = l.invariant; here = λ h. sym (c.is_once.ensures ∙ ap is_once c.mark_of.ensures) ∙ c.if-not-is_once.true }

pub loop-i-preserved : goal.loop-i-preserved
loop-i-preserved c =
    let l = c.loop-i in
    holds_more l.i _ l.invariant (sym (c.is_once.ensures ∙ ap is_once c.mark_of.ensures) ∙ c.if-not-is_once.false)

pub returns : goal.returns
returns c =
    let l = c.loop-i in
    record { inside = omega arith; before = λ k h. l.invariant k (omega arith); here = λ h. absurd (omega arith) }

pub loop-i-init : goal.loop-i-init
loop-i-init c = λ k h. absurd (omega arith)
