-- Card 8: "A low watch between two high advices leaves these two in their order", of two calls. A watch of domain 0 prints what is marked, a later one 7; between the two, the body of a lower to domain 1 installs a watch that prints 5 there, or does nothing.
use Prim.Native.Nat.{ℕ, ◌+◌}
use mathlib.Core.Path.{◌≡◌, refl}
use mathlib.Core.List.{List, [], ◌∷◌, ◌++◌}
use Rattle.calculus.specs.Combinators.{cases}
use Rattle.calculus.specs.State.{picked}
use Rattle.calculus.specs.Subst.{subst}
use Rattle.calculus.specs.Answer.{carry, by_capacity, with, spend}
use Rattle.calculus.specs.Step.{step}
use Rattle.calculus.specs.Run.{after, run}
use Rattle.calculus.specs.Report.{leaves}
use Rattle.image.specs.Limits.{work_length, report_length}
use Rattle.laws.specs.Tests.{all, all_of, any_below, first_fault}
use Rattle.image.specs.Bytes.{words}
use Rattle.image.specs.Kinds.{find}
use Rattle.image.specs.Layout.{all_within, tests, walk, layout, records_of}
use Rattle.image.specs.Types.{type_out, type_from, type_of}
use Rattle.image.specs.Program.{tree, program, assemble, to_tm, blanked}
use Rattle.verdict.specs.Answers.{require_from, in_turn}
use Rattle.verdict.specs.Domains.{bits, order, leq}
use Rattle.verdict.specs.Order.{at_fault}
use Rattle.verdict.specs.Shape.{count, uses, depths_from, depths, shape}
use Rattle.verdict.specs.Check.{check_all, check, typing}
use Rattle.verdict.specs.Verdicts.{verdict}
use Rattle.verdict.proofs.Images.{little, rec, image, one_domain, two_domains, unit, number, literal}
use Rattle.base_bytes.specs.Bytes.{bytes_of, over, cleared}
use Rattle.report.specs.Records.{records_bytes}
use Rattle.call_spec.specs.Calls.{Left, called}
use Rattle.listing.specs.Conformance.{zeros}
use Rattle.demands.specs.Calls.{Runs, log_written}
use Rattle.demands.specs.Compare.{Compared, SameLeft}
use Rattle.demands.proofs.Demands.{demand3}
use Rattle.demands_examples.proofs.Mainline.{mainline_only, mainline_high}

-- A function of a label, applied to a new one: a watch, the low body, the later watch, and the mark with 3. The records of the low body end with term k.
unfoldable pub watched_twice : ℕ → List (List ℕ) → List ℕ
watched_twice k lowRecords =
    image
    (((two_domains ∷ number ∷ unit ∷ rec 22 (0 ∷ 0 ∷ []) ∷ rec 23 (0 ∷ 0 ∷ []) ∷ rec 24 (0 ∷ []) ∷ rec 24 (1 ∷ []) ∷ rec 20 (2 ∷ 0 ∷ 1 ∷ []) ∷ [])
    ++ (rec 35 (2 ∷ 0 ∷ []) ∷ rec 46 (3 ∷ 0 ∷ []) ∷ rec 35 (0 ∷ 0 ∷ []) ∷ rec 37 (1 ∷ 2 ∷ []) ∷ rec 47 (4 ∷ 1 ∷ 3 ∷ []) ∷ rec 48 (1 ∷ 4 ∷ []) ∷ []))
    ++ lowRecords
    ++ (rec 52 (1 ∷ 1 ∷ k ∷ []) ∷ rec 35 (2 ∷ 0 ∷ []) ∷ rec 46 (3 ∷ (k + 2) ∷ []) ∷ literal 7 ∷ rec 37 (1 ∷ (k + 4) ∷ []) ∷ rec 47 (4 ∷ (k + 3) ∷ (k + 5) ∷ []) ∷ rec 48 (1 ∷ (k + 6) ∷ [])
    ∷ rec 35 (2 ∷ 0 ∷ []) ∷ literal 3 ∷ rec 45 (1 ∷ (k + 8) ∷ (k + 9) ∷ [])
    ∷ rec 36 (1 ∷ (k + 7) ∷ (k + 10) ∷ []) ∷ rec 36 (1 ∷ (k + 1) ∷ (k + 11) ∷ []) ∷ rec 36 (1 ∷ 5 ∷ (k + 12) ∷ []) ∷ rec 41 (6 ∷ (k + 13) ∷ []) ∷ rec 44 (2 ∷ []) ∷ rec 42 (1 ∷ (k + 14) ∷ (k + 15) ∷ []) ∷ []))

unfoldable pub low_between : List ℕ
low_between = watched_twice 11 (rec 35 (2 ∷ 0 ∷ []) ∷ rec 46 (3 ∷ 6 ∷ []) ∷ literal 5 ∷ rec 37 (1 ∷ 8 ∷ []) ∷ rec 47 (5 ∷ 7 ∷ 9 ∷ []) ∷ rec 48 (1 ∷ 10 ∷ []) ∷ [])

unfoldable pub none_between : List ℕ
none_between = watched_twice 6 (rec 32 (1 ∷ []) ∷ [])

compared : Compared mainline_only low_between none_between
unfolding leq order bits blanked program tree records_of layout walk tests find words all_within all all_of first_fault type_of type_from type_out
    little rec image one_domain two_domains unit number literal watched_twice low_between none_between
compared = record { domains = refl; highs = mainline_high (records_of low_between) refl refl; programs = refl }

unfoldable pub mark_call : List ℕ → Left
mark_call b = called b [] 100 (zeros 40) (zeros report_length) (zeros work_length)

both_run : Runs low_between (zeros report_length) (zeros work_length) × Runs none_between (zeros report_length) (zeros work_length)
unfolding verdict in_turn require_from walk layout records_of tests find words all_within all all_of any_below first_fault shape at_fault leq order bits count uses depths depths_from typing check check_all type_of type_from type_out
    little rec image one_domain two_domains unit number literal watched_twice low_between none_between
both_run = (refl, refl)

abbrev logged : ℕ → ℕ → List ℕ
logged d n = 10 ∷ 0 ∷ 64 ∷ 0 ∷ d ∷ 0 ∷ n ∷ 0 ∷ 0 ∷ 0 ∷ []

-- The newest first: 7, then 5 at domain 1 if it is there, then 3.
pub mark_logs : (log_written (mark_call low_between) ≡ logged 0 7 ++ logged 1 5 ++ logged 0 3) × (log_written (mark_call none_between) ≡ logged 0 7 ++ logged 0 3)
unfolding mark_call called verdict in_turn require_from walk layout records_of tests find words all_within all all_of any_below first_fault shape at_fault leq order bits count uses depths depths_from typing check check_all type_of type_from type_out
    little rec image one_domain two_domains unit number literal watched_twice low_between none_between
    program tree to_tm assemble run after cases step subst carry by_capacity with spend picked leaves
    over cleared bytes_of records_bytes
mark_logs = (refl, refl)

-- What is seen from domain 0 is the same.
pub mark_same : SameLeft mainline_only (mark_call low_between) (mark_call none_between)
unfolding mark_call
mark_same =
    demand3 mainline_only low_between none_between compared [] 100 100 (zeros 40) (zeros 40) (zeros report_length) (zeros report_length) (zeros work_length) (zeros work_length)
    both_run.0 both_run.1
