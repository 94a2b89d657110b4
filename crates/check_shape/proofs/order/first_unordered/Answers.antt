-- The loop keeps what is required of the domains from d on.
use native.Mathlib.Omega.{arith}
use mathlib.Core.Bool.{not}
use mathlib.Core.Path.{ap, sym, ◌∙◌}
use Rattle.image.specs.declared.Refusal.{Refusal}
use Rattle.verdict.specs.Answers.{refused_at}
use Rattle.check_shape.proofs.Answers.{from_end, from_next, from_here}
use Rattle.check_shape.proofs.order.first_unordered.Goals as goal

pub returns-then-at_fault : goal.returns-then-at_fault
returns-then-at_fault c =
    let l = c.loop-d in
    sym (l.invariant ∙ from_here _ _ _ _ l.d (omega arith) (ap not (sym c.at_fault.ensures ∙ c.if-at_fault.true)) ∙ ap (λ o. refused_at Refusal.DomainOrder o) (sym c.domain_offset.ensures))

pub loop-d-preserved : goal.loop-d-preserved
loop-d-preserved c =
    let l = c.loop-d in
    l.invariant ∙ from_next _ _ _ _ l.d (omega arith) (ap not (sym c.at_fault.ensures ∙ c.if-at_fault.false))

pub returns : goal.returns
returns c =
    let l = c.loop-d in
    sym (l.invariant ∙ from_end _ _ _ _ l.d (omega arith))
