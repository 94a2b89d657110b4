-- `check_ranges::terms::term_fault` meets its contract: each answer is the first test that fails.
use native.Mathlib.Omega.{arith}
use mathlib.Core.Path.{refl, sym, ◌∙◌}
use lib.ListN.{length}
use Rattle.check_ranges.proofs.Numbers.{fits_held, yes_of, no_of, fault4, fault6, fault7, no_fault}
use Rattle.check_ranges.proofs.Taken.{term_ordered, term_capacity}
use Rattle.check_ranges.proofs.terms.term_fault.Goals as goal

pub returns-then-not-right_length : goal.returns-then-not-right_length
returns-then-not-right_length c = (fault4 _ _ _ _ (no_of _ _ c.right_length.ensures c.if-not-right_length.true), refl)

pub returns-then-not-has_capacity : goal.returns-then-not-has_capacity
returns-then-not-has_capacity c =
    (fault6 _ _ _ _ (yes_of _ _ c.right_length.ensures c.if-not-right_length.false) (term_ordered _ c.args.counts c.requires.1.term) (no_of _ _ c.has_capacity.ensures c.if-not-has_capacity.true), refl)

pub take-requires : goal.take-requires
take-requires c =
    let T = c.requires.1 in
    let long = yes_of _ _ c.right_length.ensures c.if-not-right_length.false in
    let ordered = term_ordered _ c.args.counts T.term in
    let capacity = yes_of _ _ c.has_capacity.ensures c.if-not-has_capacity.false in
    let m = term_capacity c.args.code c.args.counts T.term capacity in
    let e = c.requires.3 in
    (T.sized, fits_held c.args.code (length c.args.fields.now) long, T.fitting long, λ h. T.lower (no_fault _ _ _ _ long ordered capacity h), c.requires.2, omega arith)

pub returns-then-not-take : goal.returns-then-not-take
returns-then-not-take c =
    let no = c.if-not-take.true in
    (fault7 _ _ _ _ (yes_of _ _ c.right_length.ensures c.if-not-right_length.false) (term_ordered _ c.args.counts c.requires.1.term) (yes_of _ _ c.has_capacity.ensures c.if-not-has_capacity.false) (sym c.take.ensures.0 ∙ no), c.take.ensures.1 ∙ rw no refl)

pub returns : goal.returns
returns c =
    let yes = c.if-not-take.false in
    (no_fault _ _ _ _ (yes_of _ _ c.right_length.ensures c.if-not-right_length.false) (term_ordered _ c.args.counts c.requires.1.term) (yes_of _ _ c.has_capacity.ensures c.if-not-has_capacity.false) (sym c.take.ensures.0 ∙ yes), c.take.ensures.1 ∙ rw yes refl)
