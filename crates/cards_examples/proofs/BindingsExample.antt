-- Card 9, what it is for, of two calls: domain 0 calls a method that calls itself, and runs out of its 1,024 bindings; before that a low body does nothing, or prints. Neither call is done.
use Prim.Native.Nat.{ℕ, ◌+◌}
use mathlib.Core.Path.{◌≡◌, refl}
use mathlib.Core.List.{List, [], ◌∷◌, ◌++◌}
use Rattle.calculus.specs.declared.Outcome.{Outcome}
use Rattle.calculus.specs.Combinators.{cases}
use Rattle.calculus.specs.State.{picked}
use Rattle.calculus.specs.Subst.{subst}
use Rattle.calculus.specs.Answer.{carry, by_capacity, with, spend}
use Rattle.calculus.specs.Step.{step}
use Rattle.calculus.specs.Run.{after, run}
use Rattle.calculus.specs.Report.{leaves, outcome_number}
use Rattle.image.specs.Limits.{work_length, report_length}
use Rattle.laws.specs.Tests.{all, all_of, any_below, first_fault}
use Rattle.image.specs.Bytes.{words}
use Rattle.image.specs.Kinds.{find}
use Rattle.image.specs.Layout.{all_within, tests, walk, layout, records_of}
use Rattle.image.specs.Types.{type_out, type_from, type_of}
use Rattle.image.specs.Program.{tree, program, assemble, to_tm, blanked}
use Rattle.verdict.specs.Answers.{require_from, in_turn}
use Rattle.verdict.specs.Domains.{bits, order, leq}
use Rattle.verdict.specs.Order.{at_fault}
use Rattle.verdict.specs.Shape.{count, uses, depths_from, depths, shape}
use Rattle.verdict.specs.Check.{check_all, check, typing}
use Rattle.verdict.specs.Verdicts.{verdict}
use Rattle.verdict.proofs.Images.{little, rec, image, one_domain, two_domains, unit, number, literal}
use Rattle.base_bytes.specs.Bytes.{bytes_of, number_of, number_at, over, cleared}
use Rattle.report.specs.Records.{records_bytes}
use Rattle.report.specs.Read.{read_report}
use Rattle.call_spec.specs.Calls.{Left, called}
use Rattle.listing.specs.Conformance.{zeros}
use Rattle.demands.specs.Calls.{Runs, report_written}
use Rattle.demands.specs.MainlineCapacity.{from_mainline, DifferBelow, SaysShort, NoFurther}
use Rattle.demands.proofs.MainlineCapacity.{card9_capacity}

-- The low body, then the call. The records of the low body end with term k.
unfoldable pub endless : ℕ → List (List ℕ) → List ℕ
endless k lowRecords =
    image
    ((two_domains ∷ number ∷ unit ∷ rec 25 (0 ∷ 1 ∷ []) ∷ [])
    ++ lowRecords
    ++ (rec 52 (1 ∷ 1 ∷ k ∷ []) ∷ rec 35 (2 ∷ 0 ∷ []) ∷ rec 55 (1 ∷ (k + 2) ∷ 0 ∷ []) ∷ rec 54 (2 ∷ (k + 3) ∷ []) ∷ rec 55 (1 ∷ (k + 4) ∷ 0 ∷ []) ∷ rec 36 (1 ∷ (k + 1) ∷ (k + 5) ∷ []) ∷ []))

unfoldable pub idle_image : List ℕ
idle_image = endless 0 (rec 32 (1 ∷ []) ∷ [])

unfoldable pub printing_image : List ℕ
printing_image = endless 1 (literal 4 ∷ rec 37 (1 ∷ 0 ∷ []) ∷ [])

differ : DifferBelow idle_image printing_image
unfolding leq order bits blanked program tree records_of layout walk tests find words all_within all all_of first_fault type_of type_from type_out
    little rec image one_domain two_domains unit number literal endless idle_image printing_image
differ = record { domains = refl; programs = refl }

both_run : Runs idle_image (zeros report_length) (zeros work_length) × Runs printing_image (zeros report_length) (zeros work_length)
unfolding verdict in_turn require_from walk layout records_of tests find words all_within all all_of any_below first_fault shape at_fault leq order bits count uses depths depths_from typing check check_all type_of type_from type_out
    little rec image one_domain two_domains unit number literal endless idle_image printing_image
both_run = (refl, refl)

unfoldable pub endless_call : List ℕ → Left
endless_call b = called b [] 2000 (zeros 40) (zeros report_length) (zeros work_length)

-- The premise: outcome 4.
outcome_4 : (read_report (report_written (endless_call idle_image))).outcome ≡ outcome_number Outcome.Bindings
unfolding endless_call called
    verdict in_turn require_from walk layout records_of tests find words all_within all all_of any_below first_fault shape at_fault leq order bits count uses depths depths_from typing check check_all type_of type_from type_out
    little rec image one_domain two_domains unit number literal endless idle_image
    program tree to_tm assemble run after cases step subst carry by_capacity with spend picked leaves
    over cleared bytes_of records_bytes number_at number_of
outcome_4 = refl

says_short : SaysShort (report_written (endless_call idle_image))
says_short = rw outcome_4 refl

pub short_too : NoFurther (from_mainline (records_of idle_image)) (endless_call idle_image) (endless_call printing_image)
unfolding endless_call
short_too =
    card9_capacity idle_image printing_image differ [] 2000 2000 (zeros 40) (zeros 40) (zeros report_length) (zeros report_length) (zeros work_length) (zeros work_length)
    both_run.0 both_run.1 says_short
