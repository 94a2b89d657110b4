-- Card 9 of two calls: a watch of domain 1 makes a cell, a pair and four bindings, or does nothing; domain 0 marks, and then prints 9. Its counts are the same, the other domains' are not.
use Prim.Native.Nat.{ℕ, ◌+◌}
use mathlib.Core.Path.{◌≡◌, refl}
use mathlib.Core.List.{List, [], ◌∷◌, ◌++◌}
use Rattle.calculus.specs.Combinators.{cases}
use Rattle.calculus.specs.State.{Counts, picked, mainline_counts}
use Rattle.calculus.specs.Subst.{subst}
use Rattle.calculus.specs.Answer.{carry, by_capacity, with, spend}
use Rattle.calculus.specs.Step.{step}
use Rattle.calculus.specs.Run.{Ended, after, run}
use Rattle.image.specs.Limits.{work_length, report_length}
use Rattle.laws.specs.Tests.{all, all_of, any_below, first_fault}
use Rattle.image.specs.Bytes.{words}
use Rattle.image.specs.Kinds.{find}
use Rattle.image.specs.Layout.{all_within, tests, walk, layout, records_of}
use Rattle.image.specs.Types.{type_out, type_from, type_of}
use Rattle.image.specs.Program.{tree, program, assemble, to_tm, blanked}
use Rattle.verdict.specs.Answers.{require_from, in_turn}
use Rattle.verdict.specs.Domains.{bits, order, leq}
use Rattle.verdict.specs.Order.{at_fault}
use Rattle.verdict.specs.Shape.{count, uses, depths_from, depths, shape}
use Rattle.verdict.specs.Check.{check_all, check, typing}
use Rattle.verdict.specs.Verdicts.{verdict}
use Rattle.verdict.proofs.Images.{little, rec, image, one_domain, two_domains, unit, number, literal}
use Rattle.call_spec.specs.Runs.{run_of}
use Rattle.call_spec.specs.Calls.{Left, called}
use Rattle.listing.specs.Conformance.{zeros}
use Rattle.demands.specs.Calls.{Runs}
use Rattle.demands.specs.MainlineCapacity.{DifferBelow, SameCounts}
use Rattle.demands.proofs.MainlineCapacity.{card9}

-- A function of a label, applied to a new one: the watch, the mark with 3, the print. The records of the watch's body end with term k.
unfoldable pub watched_by : ℕ → List (List ℕ) → List ℕ
watched_by k bodyRecords =
    image
    (((two_domains ∷ number ∷ unit ∷ rec 22 (0 ∷ 0 ∷ []) ∷ rec 23 (0 ∷ 1 ∷ []) ∷ rec 24 (1 ∷ []) ∷ rec 20 (2 ∷ 0 ∷ 1 ∷ []) ∷ rec 19 (0 ∷ 0 ∷ []) ∷ rec 21 (0 ∷ 1 ∷ []) ∷ rec 20 (7 ∷ 1 ∷ 1 ∷ []) ∷ [])
    ++ (rec 35 (2 ∷ 0 ∷ []) ∷ rec 46 (3 ∷ 0 ∷ []) ∷ []))
    ++ bodyRecords
    ++ (rec 47 (4 ∷ 1 ∷ k ∷ []) ∷ rec 48 (1 ∷ (k + 1) ∷ []) ∷ rec 35 (2 ∷ 0 ∷ []) ∷ literal 3 ∷ rec 45 (1 ∷ (k + 3) ∷ (k + 4) ∷ []) ∷ literal 9 ∷ rec 37 (1 ∷ (k + 6) ∷ [])
    ∷ rec 36 (1 ∷ (k + 5) ∷ (k + 7) ∷ []) ∷ rec 36 (1 ∷ (k + 2) ∷ (k + 8) ∷ []) ∷ rec 41 (5 ∷ (k + 9) ∷ []) ∷ rec 44 (2 ∷ []) ∷ rec 42 (1 ∷ (k + 10) ∷ (k + 11) ∷ []) ∷ []))

-- A function that splits a pair and prints, applied to a new cell; and nothing.
unfoldable pub greedy : List ℕ
greedy =
    watched_by 11
    (rec 35 (0 ∷ 1 ∷ []) ∷ rec 35 (0 ∷ 1 ∷ []) ∷ rec 39 (6 ∷ 2 ∷ 3 ∷ []) ∷ rec 35 (0 ∷ 0 ∷ []) ∷ rec 37 (1 ∷ 5 ∷ []) ∷ rec 40 (1 ∷ 4 ∷ 6 ∷ []) ∷ rec 41 (8 ∷ 7 ∷ []) ∷ rec 35 (0 ∷ 0 ∷ []) ∷ rec 49 (7 ∷ 9 ∷ [])
    ∷ rec 42 (1 ∷ 8 ∷ 10 ∷ []) ∷ [])

unfoldable pub quiet : List ℕ
quiet = watched_by 2 (rec 32 (1 ∷ []) ∷ [])

differ : DifferBelow greedy quiet
unfolding leq order bits blanked program tree records_of layout walk tests find words all_within all all_of first_fault type_of type_from type_out
    little rec image one_domain two_domains unit number literal watched_by greedy quiet
differ = record { domains = refl; programs = refl }

both_run : Runs greedy (zeros report_length) (zeros work_length) × Runs quiet (zeros report_length) (zeros work_length)
unfolding verdict in_turn require_from walk layout records_of tests find words all_within all all_of any_below first_fault shape at_fault leq order bits count uses depths depths_from typing check check_all type_of type_from type_out
    little rec image one_domain two_domains unit number literal watched_by greedy quiet
both_run = (refl, refl)

unfoldable pub watched_run : List ℕ → Ended
watched_run b = run_of b [] 100 (zeros 40)

unfoldable pub watched_call : List ℕ → Left
watched_call b = called b [] 100 (zeros 40) (zeros report_length) (zeros work_length)

-- The function's application, the pointcut and the advice.
abbrev mainline_use : Counts
mainline_use = record { bindings = 1; cells = 0; pieces = 2 }

pub capacity_counts : (mainline_counts (watched_run greedy).state.trace ≡ mainline_use ∷ []) × (mainline_counts (watched_run quiet).state.trace ≡ mainline_use ∷ [])
    × ((watched_run greedy).state.used ≡ record { mainline = mainline_use; others = record { bindings = 4; cells = 1; pieces = 1 } })
    × ((watched_run quiet).state.used ≡ record { mainline = mainline_use; others = record { bindings = 1; cells = 0; pieces = 0 } })
unfolding watched_run walk layout records_of tests find words all_within all all_of first_fault type_of type_from type_out
    little rec image one_domain two_domains unit number literal watched_by greedy quiet
    program tree to_tm assemble run after cases step subst carry by_capacity with spend picked
capacity_counts = (refl, refl, refl, refl)

pub capacity_same : SameCounts (watched_run greedy) (watched_run quiet) (watched_call greedy) (watched_call quiet)
unfolding watched_run watched_call
capacity_same =
    card9 greedy quiet differ [] 100 100 (zeros 40) (zeros 40) (zeros report_length) (zeros report_length) (zeros work_length) (zeros work_length)
    both_run.0 both_run.1
