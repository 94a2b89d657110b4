-- `check_ranges::terms::take` meets its contract: in each arm the code is a number, and the tests and the children are the definition's.
use native.Mathlib.Omega.{arith}
use mathlib.Core.Path.{sym, ◌∙◌}
use mathlib.Core.Logic.{⊎_elim}
use Rattle.read_records.specs.Codes.{class_numbers}
use Rattle.check_ranges.proofs.Numbers.{first_held}
use Rattle.check_ranges.proofs.Frequent.{taken, unit_has, var_has, number_has, one_has, two_has, three_has, arith_has, lower_has, pointcut_range}
use Rattle.check_ranges.proofs.terms.take.Goals as goal

pub take_leaf-requires : goal.take_leaf-requires
take_leaf-requires c =
    let p = c.requires in
    (⊎_elim (λ e. omega (arith, first_held _ _ _ e p.1)) (⊎_elim (λ e. omega (arith, first_held _ _ _ e p.1)) (λ e. omega (arith, first_held _ _ _ e p.1))) c.in-3221225734.is, p.4, p.5)

pub take_one-requires : goal.take_one-requires
take_one-requires c =
    let p = c.requires in
    (omega (arith, first_held _ _ _ c.in-3221389592.is p.1), p.4, p.5)

pub take_two-requires : goal.take_two-requires
take_two-requires c =
    let p = c.requires in
    (omega (arith, first_held _ _ _ c.in-3222700330.is p.1), p.4, p.5)

pub take_three-requires : goal.take_three-requires
take_three-requires c =
    let p = c.requires in
    (omega (arith, first_held _ _ _ c.in-3233186108.is p.1), p.4, p.5)

pub take_operation-requires : goal.take_operation-requires
take_operation-requires c =
    let p = c.requires in
    (omega (arith, first_held _ _ _ c.in-3233088044.is p.1), p.4, p.5)

pub take_lowered-requires : goal.take_lowered-requires
take_lowered-requires c =
    let p = c.requires in
    (omega (arith, first_held _ _ _ c.in-3222569498.is p.1), p.4, p.5)

pub take_group-requires : goal.take_group-requires
unfolding class_numbers
take_group-requires c =
    let p = c.requires in
    (omega (arith, first_held _ _ _ c.in-3221389638.is p.1), p.2, λ h. p.3 (sym (pointcut_range _ _ _ c.in-3221389638.is) ∙ h), p.4, p.5)

pub returns-in-3221225734 : goal.returns-in-3221225734
unfolding class_numbers
returns-in-3221225734 c =
    let has = ⊎_elim (unit_has _ _ _) (⊎_elim (var_has _ _ _) (number_has _ _ _)) c.in-3221225734.is in
    taken has _ _ _ c.take_leaf.ensures

pub returns-in-3221389592 : goal.returns-in-3221389592
unfolding class_numbers
returns-in-3221389592 c = taken (one_has _ _ _ c.in-3221389592.is) _ _ _ c.take_one.ensures

pub returns-in-3222700330 : goal.returns-in-3222700330
unfolding class_numbers
returns-in-3222700330 c = taken (two_has _ _ _ c.in-3222700330.is) _ _ _ c.take_two.ensures

pub returns-in-3233186108 : goal.returns-in-3233186108
unfolding class_numbers
returns-in-3233186108 c = taken (three_has _ _ _ c.in-3233186108.is) _ _ _ c.take_three.ensures

pub returns-in-3233088044 : goal.returns-in-3233088044
unfolding class_numbers
returns-in-3233088044 c = taken (arith_has _ _ _ c.in-3233088044.is) _ _ _ c.take_operation.ensures

pub returns-in-3222569498 : goal.returns-in-3222569498
unfolding class_numbers
returns-in-3222569498 c = taken (lower_has _ _ _ c.in-3222569498.is) _ _ _ c.take_lowered.ensures

pub returns-in-3221389638 : goal.returns-in-3221389638
unfolding class_numbers
returns-in-3221389638 c =
    (c.take_group.ensures.0 ∙ pointcut_range _ _ _ c.in-3221389638.is, c.take_group.ensures.1)
