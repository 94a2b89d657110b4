-- `check_shape::check_terms` meets its contract: the marks show the uses, and how deep a term can be.
use native.Mathlib.Omega.{arith}
use mathlib.Core.Path.{ap, sym, ◌∙◌}
use Rattle.image.specs.declared.Refusal.{Refusal}
use Rattle.verdict.specs.Answers.{refused_at}
use Rattle.check_shape.proofs.MarkedTerms.{enough_marks, refused_first, depths_decide, accepted_low}
use Rattle.check_shape.proofs.check_terms.Goals as goal

pub first_misused-first-requires : goal.first_misused-first-requires
first_misused-first-requires c = let p = c.requires in let l = enough_marks _ _ _ p.1 p.3 in omega arith

pub returns-then-first-root : goal.returns-then-first-root
returns-then-first-root c =
    let p = c.requires in
    ap (λ o. refused_at Refusal.UseCount o) c.term_offset.ensures ∙ sym (refused_first _ _ _ p.1 p.3 _ p.2 c.first_misused-first.ensures (omega arith))

pub mark_of-requires : goal.mark_of-requires
mark_of-requires c =
    let p = c.requires in
    let l = enough_marks _ _ _ p.1 p.3 in
    let z = p.2 in
    omega arith

pub returns-then-mark_of-le-DEEPEST : goal.returns-then-mark_of-le-DEEPEST
returns-then-mark_of-le-DEEPEST c =
    let p = c.requires in
    sym (accepted_low _ _ _ p.1 p.3 _ p.2 c.first_misused-first.ensures (omega arith) (omega (arith, c.mark_of.ensures)))

pub returns : goal.returns
returns c =
    let p = c.requires in
    c.check_depths.ensures ∙ sym (depths_decide _ _ _ p.1 p.3 _ p.2 c.first_misused-first.ensures (omega arith))
