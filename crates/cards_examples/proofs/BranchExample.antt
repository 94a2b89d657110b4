-- Card 6 of two calls: domain 0 keeps 3 under a label, and matches the stack with a pointcut of that label; before that a low body does nothing, or matches the stack too, at domain 1. The branches at domain 0 are the same, those at domain 1 are not.
use Prim.Native.Nat.{ℕ, ◌+◌}
use mathlib.Core.Path.{◌≡◌, refl}
use mathlib.Core.Bool.{true}
use mathlib.Core.List.{List, [], ◌∷◌, ◌++◌}
use Rattle.calculus.specs.Combinators.{cases}
use Rattle.calculus.specs.State.{Branch, picked, branches_of}
use Rattle.calculus.specs.Subst.{subst}
use Rattle.calculus.specs.Answer.{carry, by_capacity, with, spend}
use Rattle.calculus.specs.Step.{step}
use Rattle.calculus.specs.Run.{Ended, after, run}
use Rattle.calculus_noninterference.specs.Observe.{high_of, high_branches, CutEqual}
use Rattle.image.specs.Limits.{work_length, report_length}
use Rattle.laws.specs.Tests.{all, all_of, any_below, first_fault}
use Rattle.image.specs.Bytes.{words}
use Rattle.image.specs.Kinds.{find}
use Rattle.image.specs.Layout.{all_within, tests, walk, layout, records_of}
use Rattle.image.specs.Types.{type_out, type_from, type_of}
use Rattle.image.specs.Program.{tree, program, assemble, to_tm, blanked}
use Rattle.verdict.specs.Answers.{require_from, in_turn}
use Rattle.verdict.specs.Domains.{bits, order, leq}
use Rattle.verdict.specs.Order.{at_fault}
use Rattle.verdict.specs.Shape.{count, uses, depths_from, depths, shape}
use Rattle.verdict.specs.Check.{check_all, check, typing}
use Rattle.verdict.specs.Verdicts.{verdict}
use Rattle.verdict.proofs.Images.{little, rec, image, one_domain, two_domains, unit, number, literal}
use Rattle.call_spec.specs.Runs.{run_of}
use Rattle.listing.specs.Conformance.{zeros}
use Rattle.demands.specs.Calls.{Runs}
use Rattle.demands.specs.Compare.{HighSet, Compared}
use Rattle.demands.proofs.Branches.{card6}
use Rattle.demands_examples.proofs.Mainline.{mainline_only, mainline_high}

-- A function of a label, applied to a new one: 3 is kept, the low body runs, the stack is matched; the first branch prints what is kept, the second 8. The records of the low body end with term k.
unfoldable pub matched_under : ℕ → List (List ℕ) → List ℕ
matched_under k lowRecords =
    image
    ((two_domains ∷ number ∷ unit ∷ rec 22 (0 ∷ 0 ∷ []) ∷ rec 23 (0 ∷ 0 ∷ []) ∷ rec 26 [] ∷ rec 20 (2 ∷ 0 ∷ 1 ∷ []) ∷ [])
    ++ lowRecords
    ++ (rec 52 (1 ∷ 1 ∷ k ∷ []) ∷ rec 56 (4 ∷ []) ∷ rec 35 (0 ∷ 0 ∷ []) ∷ rec 37 (1 ∷ (k + 3) ∷ []) ∷ literal 8 ∷ rec 37 (1 ∷ (k + 5) ∷ []) ∷ rec 35 (2 ∷ 0 ∷ []) ∷ rec 46 (3 ∷ (k + 7) ∷ [])
    ∷ rec 58 (1 ∷ (k + 2) ∷ (k + 4) ∷ (k + 6) ∷ (k + 9) ∷ 0 ∷ []) ∷ rec 36 (1 ∷ (k + 1) ∷ (k + 9) ∷ []) ∷ rec 35 (2 ∷ 0 ∷ []) ∷ literal 3 ∷ rec 57 (1 ∷ (k + 11) ∷ (k + 12) ∷ (k + 10) ∷ [])
    ∷ rec 41 (5 ∷ (k + 13) ∷ []) ∷ rec 44 (2 ∷ []) ∷ rec 42 (1 ∷ (k + 14) ∷ (k + 15) ∷ []) ∷ []))

-- The low body is unit; or it matches any stack, and goes on at unit either way.
unfoldable pub high_match : List ℕ
high_match = matched_under 0 (rec 32 (1 ∷ []) ∷ [])

unfoldable pub both_match : List ℕ
both_match = matched_under 3 (rec 56 (4 ∷ []) ∷ rec 32 (1 ∷ []) ∷ rec 32 (1 ∷ []) ∷ rec 58 (1 ∷ 0 ∷ 1 ∷ 2 ∷ 1 ∷ []) ∷ [])

high_mainline : HighSet (records_of high_match) mainline_only
unfolding leq order bits records_of layout walk tests find words all_within all all_of first_fault
    little rec image one_domain two_domains unit number literal matched_under high_match
high_mainline = mainline_high (records_of high_match) refl refl

compared : Compared mainline_only high_match both_match
unfolding blanked program tree records_of layout walk tests find words all_within all all_of first_fault type_of type_from type_out
    little rec image one_domain two_domains unit number literal matched_under high_match both_match
compared = record { domains = refl; highs = high_mainline; programs = refl }

both_run : Runs high_match (zeros report_length) (zeros work_length) × Runs both_match (zeros report_length) (zeros work_length)
unfolding verdict in_turn require_from walk layout records_of tests find words all_within all all_of any_below first_fault shape at_fault leq order bits count uses depths depths_from typing check check_all type_of type_from type_out
    little rec image one_domain two_domains unit number literal matched_under high_match both_match
both_run = (refl, refl)

unfoldable pub match_run : List ℕ → Ended
match_run b = run_of b [] 100 (zeros 40)

abbrev first_at : ℕ → Branch
first_at d = record { dom = d; first = true }

-- There is a branch at domain 0 in each, and a branch at domain 1 in one of them.
pub branches_taken : (high_branches mainline_only (match_run high_match) ≡ first_at 0 ∷ []) × (high_branches mainline_only (match_run both_match) ≡ first_at 0 ∷ [])
    × (branches_of (match_run high_match).state.trace ≡ first_at 0 ∷ []) × (branches_of (match_run both_match).state.trace ≡ first_at 1 ∷ first_at 0 ∷ [])
unfolding match_run high_of walk layout records_of tests find words all_within all all_of first_fault type_of type_from type_out
    little rec image one_domain two_domains unit number literal matched_under high_match both_match
    program tree to_tm assemble run after cases step subst carry by_capacity with spend picked
branches_taken = (refl, refl, refl, refl)

pub branches_same : CutEqual (high_branches mainline_only (match_run high_match)) (high_branches mainline_only (match_run both_match))
unfolding match_run
branches_same =
    card6 mainline_only high_match both_match compared [] 100 100 (zeros 40) (zeros 40) (zeros report_length) (zeros report_length) (zeros work_length) (zeros work_length)
    both_run.0 both_run.1
