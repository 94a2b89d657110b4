-- Two calls compared: images that print different numbers at domain 1, below 0, seen from domain 0 (document 01, "Two runs compared"), in the body of a lower and in that of a method (card 3).
use Prim.Native.Nat.{ℕ}
use mathlib.Core.Path.{◌≡◌, refl}
use mathlib.Core.List.{List, [], ◌∷◌}
use Rattle.calculus.specs.Combinators.{cases}
use Rattle.calculus.specs.State.{picked}
use Rattle.calculus.specs.Subst.{subst}
use Rattle.calculus.specs.Answer.{carry, by_capacity, with, spend}
use Rattle.calculus.specs.Step.{step}
use Rattle.calculus.specs.Run.{after, run}
use Rattle.calculus.specs.Report.{leaves}
use Rattle.image.specs.Limits.{work_length, report_length}
use Rattle.laws.specs.Tests.{all, all_of, any_below, first_fault}
use Rattle.image.specs.Bytes.{words}
use Rattle.image.specs.Kinds.{find}
use Rattle.image.specs.Layout.{all_within, tests, walk, layout, records_of}
use Rattle.image.specs.Types.{type_out, type_from, type_of}
use Rattle.image.specs.Program.{tree, program, assemble, to_tm}
use Rattle.verdict.specs.Answers.{require_from, in_turn}
use Rattle.verdict.specs.Domains.{bits, masks, order, leq}
use Rattle.verdict.specs.Order.{at_fault}
use Rattle.verdict.specs.Shape.{count, uses, depths_from, depths, shape}
use Rattle.verdict.specs.Check.{check_all, check, typing}
use Rattle.verdict.specs.Verdicts.{verdict}
use Rattle.verdict.proofs.Images.{little, rec, image, one_domain, two_domains, unit, number, literal}
use Rattle.verdict.proofs.Examples.{lowered, same_lowered}
use Rattle.base_bytes.specs.Bytes.{bytes_of, over, cleared}
use Rattle.report.specs.Records.{records_bytes}
use Rattle.call_spec.specs.Runs.{program_of}
use Rattle.call_spec.specs.Calls.{Left, called}
use Rattle.listing.specs.Conformance.{zeros}
use Rattle.demands.specs.Calls.{Runs, log_written}
use Rattle.demands.specs.Compare.{HighSet, Compared, SameLeft}
use Rattle.demands.specs.LowMethods.{SameButMethods, inside, object, no_child, alike, a_low_body}
use Rattle.demands.proofs.Demands.{demand3}
use Rattle.demands_examples.proofs.Mainline.{mainline_only, mainline_high}
use Rattle.demands.proofs.LowMethods.{card3}

high_mainline : HighSet (records_of (lowered 1)) mainline_only
unfolding lowered leq order bits records_of layout walk tests find words all_within all all_of first_fault little rec image two_domains number unit literal
high_mainline = mainline_high (records_of (lowered 1)) refl refl

compared : Compared mainline_only (lowered 1) (lowered 2)
unfolding lowered records_of layout walk tests find words all_within all all_of first_fault little rec image two_domains number unit literal
compared = record { domains = refl; highs = high_mainline; programs = same_lowered }

-- Calls with an empty frame, budget 100 and a log of 20 bytes: both run.
unfoldable pub low_call : ℕ → Left
low_call n = called (lowered n) [] 100 (zeros 20) (zeros report_length) (zeros work_length)

low_runs : Runs (lowered 1) (zeros report_length) (zeros work_length) × Runs (lowered 2) (zeros report_length) (zeros work_length)
unfolding lowered verdict in_turn require_from walk layout records_of tests find words all_within all all_of any_below first_fault shape at_fault leq order bits count uses depths depths_from typing check check_all type_of type_from type_out
    little rec image one_domain two_domains unit number literal
low_runs = (refl, refl)

-- Their logs differ, at domain 1; what is seen from domain 0 does not.
pub low_logs : (log_written (low_call 1) ≡ 10 ∷ 0 ∷ 64 ∷ 0 ∷ 1 ∷ 0 ∷ 1 ∷ 0 ∷ 0 ∷ 0 ∷ []) × (log_written (low_call 2) ≡ 10 ∷ 0 ∷ 64 ∷ 0 ∷ 1 ∷ 0 ∷ 2 ∷ 0 ∷ 0 ∷ 0 ∷ [])
unfolding low_call called lowered verdict in_turn require_from walk layout records_of tests find words all_within all all_of any_below first_fault shape at_fault leq order bits count uses depths depths_from typing check check_all type_of type_from type_out
    little rec image one_domain two_domains unit number literal
    program tree to_tm assemble run after cases step subst carry by_capacity with spend picked leaves
    over cleared bytes_of records_bytes
low_logs = (refl, refl)

pub low_same : SameLeft mainline_only (low_call 1) (low_call 2)
unfolding low_call
low_same = demand3 mainline_only (lowered 1) (lowered 2) compared [] 100 100 (zeros 20) (zeros 20) (zeros report_length) (zeros report_length) (zeros work_length) (zeros work_length) low_runs.0 low_runs.1

-- An object whose one method prints n at domain 1; the method is called there.
unfoldable pub calling : ℕ → List ℕ
calling n =
    image
    (two_domains
    ∷ number
    ∷ unit
    ∷ rec 25 (1 ∷ 1 ∷ [])
    ∷ literal n
    ∷ rec 37 (1 ∷ 0 ∷ [])
    ∷ rec 54 (2 ∷ 1 ∷ [])
    ∷ rec 55 (1 ∷ 2 ∷ 0 ∷ [])
    ∷ rec 52 (1 ∷ 1 ∷ 3 ∷ [])
    ∷ [])

high_calling : HighSet (records_of (calling 1)) mainline_only
unfolding calling leq order bits records_of layout walk tests find words all_within all all_of first_fault little rec image two_domains number unit literal
high_calling = mainline_high (records_of (calling 1)) refl refl

-- Their programs are the same but for that body.
same_calling : SameButMethods mainline_only (program_of (calling 1)) (program_of (calling 2))
unfolding calling program tree records_of layout walk tests find words all_within all all_of first_fault type_of type_from type_out little rec image two_domains number unit literal
same_calling = inside (alike (inside (alike (object (a_low_body refl no_child)) no_child)) no_child)

unfoldable pub method_call : ℕ → Left
method_call n = called (calling n) [] 100 (zeros 20) (zeros report_length) (zeros work_length)

-- The same domains; and both calls run.
same_domains : masks (records_of (calling 1)) ≡ masks (records_of (calling 2))
unfolding calling records_of layout walk tests find words all_within all all_of first_fault little rec image two_domains number unit literal
same_domains = refl

both_run : Runs (calling 1) (zeros report_length) (zeros work_length) × Runs (calling 2) (zeros report_length) (zeros work_length)
unfolding calling verdict in_turn require_from walk layout records_of tests find words all_within all all_of any_below first_fault shape at_fault leq order bits count uses depths depths_from typing check check_all type_of type_from type_out
    little rec image one_domain two_domains unit number literal
both_run = (refl, refl)

-- Their logs differ, at domain 1; what is seen from domain 0 does not.
pub method_logs : (log_written (method_call 1) ≡ 10 ∷ 0 ∷ 64 ∷ 0 ∷ 1 ∷ 0 ∷ 1 ∷ 0 ∷ 0 ∷ 0 ∷ []) × (log_written (method_call 2) ≡ 10 ∷ 0 ∷ 64 ∷ 0 ∷ 1 ∷ 0 ∷ 2 ∷ 0 ∷ 0 ∷ 0 ∷ [])
unfolding method_call called calling verdict in_turn require_from walk layout records_of tests find words all_within all all_of any_below first_fault shape at_fault leq order bits count uses depths depths_from typing check check_all type_of type_from type_out
    little rec image one_domain two_domains unit number literal
    program tree to_tm assemble run after cases step subst carry by_capacity with spend picked leaves
    over cleared bytes_of records_bytes
method_logs = (refl, refl)

pub method_same : SameLeft mainline_only (method_call 1) (method_call 2)
unfolding method_call
method_same =
    card3 mainline_only (calling 1) (calling 2) same_domains high_calling same_calling [] 100 100 (zeros 20) (zeros 20) (zeros report_length) (zeros report_length) (zeros work_length) (zeros work_length)
    both_run.0 both_run.1
