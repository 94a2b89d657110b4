-- `check_shape::depths::first_deep` meets its contract: the loop keeps what is required of the terms from i on.
use borrow.Author.Tests.{le-leb, lt-leb}
use native.Mathlib.Omega.{arith}
use mathlib.Core.Path.{ap, sym, ◌∙◌}
use lib.ListN.{get_or}
use Rattle.image.specs.declared.Refusal.{Refusal}
use Rattle.image.specs.Limits.{depth_limit}
use Rattle.verdict.specs.Answers.{refused_at}
use Rattle.check_shape.proofs.Answers.{from_end, from_next, from_here}
use Rattle.check_shape.proofs.depths.first_deep.Goals as goal

pub returns-then-mark_of-gt-DEEPEST : goal.returns-then-mark_of-gt-DEEPEST
returns-then-mark_of-gt-DEEPEST c =
    let l = c.loop-i in
    let d = get_or c.args.depths.now l.i 0 in
    let z = c.mark_of.ensures in
    let deep = lt-leb d depth_limit (omega (arith, c.if-mark_of-gt-DEEPEST.true)) in
    sym (l.invariant ∙ from_here _ _ _ _ l.i (omega arith) deep ∙ ap (λ o. refused_at Refusal.TooDeep o) (sym c.term_offset.ensures))

pub loop-i-preserved : goal.loop-i-preserved
loop-i-preserved c =
    let l = c.loop-i in
    let d = get_or c.args.depths.now l.i 0 in
    let z = c.mark_of.ensures in
    l.invariant ∙ from_next _ _ _ _ l.i (omega arith) (le-leb d depth_limit (omega (arith, c.if-mark_of-gt-DEEPEST.false)))

pub returns : goal.returns
returns c =
    let l = c.loop-i in
    sym (l.invariant ∙ from_end _ _ _ _ l.i (omega arith))
