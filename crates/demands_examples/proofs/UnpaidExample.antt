-- A call whose answer card 5 changes: "Budget 0 is such a case where the first step lacks room." The program prints, and the log lent is a byte too short for a record.
use Prim.Native.Nat.{ℕ}
use mathlib.Core.Path.{◌≡◌, refl}
use mathlib.Core.List.{List, [], ◌∷◌}
use Rattle.calculus.specs.declared.Outcome.{Outcome}
use Rattle.calculus.specs.Combinators.{cases}
use Rattle.calculus.specs.State.{picked}
use Rattle.calculus.specs.Answer.{by_capacity, with}
use Rattle.calculus.specs.Step.{step}
use Rattle.calculus.specs.Run.{run}
use Rattle.image.specs.Limits.{work_length, report_length}
use Rattle.laws.specs.Tests.{all, all_of, any_below, first_fault}
use Rattle.image.specs.Bytes.{words}
use Rattle.image.specs.Kinds.{find}
use Rattle.image.specs.Layout.{all_within, tests, walk, layout, records_of}
use Rattle.image.specs.Types.{type_out, type_from, type_of}
use Rattle.image.specs.Program.{tree, program, assemble, to_tm}
use Rattle.verdict.specs.Answers.{require_from, in_turn}
use Rattle.verdict.specs.Domains.{bits, order, leq}
use Rattle.verdict.specs.Order.{at_fault}
use Rattle.verdict.specs.Shape.{count, uses, depths_from, depths, shape}
use Rattle.verdict.specs.Check.{check_all, check, typing}
use Rattle.verdict.specs.Verdicts.{verdict}
use Rattle.verdict.proofs.Images.{little, rec, image, one_domain, unit, number, literal}
use Rattle.report.specs.declared.Ending.{Ending}
use Rattle.call_spec.specs.Calls.{called}
use Rattle.listing.specs.Conformance.{zeros}
use Rattle.demands.specs.Unpaid.{run_before, called_before}

unfoldable printing : List ℕ
printing = image (one_domain ∷ number ∷ unit ∷ literal 3 ∷ rec 37 (1 ∷ 0 ∷ []) ∷ [])

abbrev endings : ℕ → List Ending
endings length =
    (called printing [] 0 (zeros length) (zeros report_length) (zeros work_length)).answer.ending
    ∷ (called_before printing [] 0 (zeros length) (zeros report_length) (zeros work_length)).answer.ending
    ∷ []

-- Now and before: the log, where there was spent; and spent, where the log is long enough.
unpaid_print : (endings 9 ≡ Ending.Ended Outcome.Log ∷ Ending.Ended Outcome.Spent ∷ []) × (endings 10 ≡ Ending.Ended Outcome.Spent ∷ Ending.Ended Outcome.Spent ∷ [])
unfolding printing called
    verdict in_turn require_from walk layout records_of tests find words all_within all all_of any_below first_fault shape at_fault leq order bits count uses depths depths_from typing check check_all type_of type_from type_out
    little rec image one_domain unit number literal
    program tree to_tm assemble run run_before cases step by_capacity with picked
unpaid_print = (refl, refl)
