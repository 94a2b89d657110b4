-- Card 7: two calls compared, whose programs differ by a takedown in a low body, seen from domain 0. A watch of domain 1 prints what is marked; the body of a lower to domain 1, before the mark, is unit, or takes the watches of domain 1 down first.
use Prim.Native.Nat.{ℕ, ◌+◌}
use mathlib.Core.Path.{◌≡◌, refl}
use mathlib.Core.List.{List, [], ◌∷◌, ◌++◌}
use Rattle.calculus.specs.Combinators.{cases}
use Rattle.calculus.specs.State.{picked}
use Rattle.calculus.specs.Subst.{subst}
use Rattle.calculus.specs.Answer.{carry, by_capacity, with, spend}
use Rattle.calculus.specs.Step.{step}
use Rattle.calculus.specs.Run.{after, run}
use Rattle.calculus.specs.Report.{leaves}
use Rattle.image.specs.Limits.{work_length, report_length}
use Rattle.laws.specs.Tests.{all, all_of, any_below, first_fault}
use Rattle.image.specs.Bytes.{words}
use Rattle.image.specs.Kinds.{find}
use Rattle.image.specs.Layout.{all_within, tests, walk, layout, records_of}
use Rattle.image.specs.Types.{type_out, type_from, type_of}
use Rattle.image.specs.Program.{tree, program, assemble, to_tm}
use Rattle.verdict.specs.Answers.{require_from, in_turn}
use Rattle.verdict.specs.Domains.{bits, masks, order, leq}
use Rattle.verdict.specs.Order.{at_fault}
use Rattle.verdict.specs.Shape.{count, uses, depths_from, depths, shape}
use Rattle.verdict.specs.Check.{check_all, check, typing}
use Rattle.verdict.specs.Verdicts.{verdict}
use Rattle.verdict.proofs.Images.{little, rec, image, one_domain, two_domains, unit, number, literal}
use Rattle.base_bytes.specs.Bytes.{bytes_of, over, cleared}
use Rattle.report.specs.Records.{records_bytes}
use Rattle.call_spec.specs.Runs.{program_of}
use Rattle.call_spec.specs.Calls.{Left, called}
use Rattle.listing.specs.Conformance.{zeros}
use Rattle.demands.specs.Calls.{Runs, log_written}
use Rattle.demands.specs.Compare.{HighSet, SameLeft}
use Rattle.demands.specs.LowTakedowns.{takes_down, low_takes_down, WithTakedown, same, inside, no_child, alike, a_low_body}
use Rattle.demands_examples.proofs.Mainline.{mainline_only, mainline_high}
use Rattle.demands.proofs.LowTakedowns.{card7}

-- A function of a label, applied to a new one: the watch is installed, the low body runs, 5 is marked, 6 is printed. The records of the low body end with term k.
unfoldable pub watched_once : ℕ → List (List ℕ) → List ℕ
watched_once k lowRecords =
    image
    (((two_domains ∷ number ∷ unit ∷ rec 22 (0 ∷ 0 ∷ []) ∷ rec 23 (0 ∷ 0 ∷ []) ∷ rec 24 (1 ∷ []) ∷ rec 20 (2 ∷ 0 ∷ 1 ∷ []) ∷ [])
    ++ (rec 35 (2 ∷ 0 ∷ []) ∷ rec 46 (3 ∷ 0 ∷ []) ∷ rec 35 (0 ∷ 0 ∷ []) ∷ rec 37 (1 ∷ 2 ∷ []) ∷ rec 47 (4 ∷ 1 ∷ 3 ∷ []) ∷ rec 48 (1 ∷ 4 ∷ []) ∷ []))
    ++ lowRecords
    ++ (rec 52 (1 ∷ 1 ∷ k ∷ []) ∷ rec 35 (2 ∷ 0 ∷ []) ∷ literal 5 ∷ rec 45 (1 ∷ (k + 2) ∷ (k + 3) ∷ []) ∷ literal 6 ∷ rec 37 (1 ∷ (k + 5) ∷ [])
    ∷ rec 36 (1 ∷ (k + 4) ∷ (k + 6) ∷ []) ∷ rec 36 (1 ∷ (k + 1) ∷ (k + 7) ∷ []) ∷ rec 36 (1 ∷ 5 ∷ (k + 8) ∷ []) ∷ rec 41 (5 ∷ (k + 9) ∷ []) ∷ rec 44 (2 ∷ []) ∷ rec 42 (1 ∷ (k + 10) ∷ (k + 11) ∷ []) ∷ []))

unfoldable pub left_image : List ℕ
left_image = watched_once 6 (rec 32 (1 ∷ []) ∷ [])

unfoldable pub cleared_image : List ℕ
cleared_image = watched_once 8 (rec 59 (1 ∷ 1 ∷ []) ∷ rec 32 (1 ∷ []) ∷ rec 36 (1 ∷ 6 ∷ 7 ∷ []) ∷ [])

high_mainline : HighSet (records_of left_image) mainline_only
unfolding leq order bits records_of layout walk tests find words all_within all all_of first_fault
    little rec image one_domain two_domains unit number literal watched_once cleared_image left_image
high_mainline = mainline_high (records_of left_image) refl refl

with_takedown : WithTakedown mainline_only (program_of left_image) (program_of cleared_image)
unfolding program tree records_of layout walk tests find words all_within all all_of first_fault type_of type_from type_out
    little rec image one_domain two_domains unit number literal watched_once cleared_image left_image takes_down low_takes_down
with_takedown = record {
  programs =
      inside
      (alike (inside (alike (inside (alike (same _) (alike (inside (alike (inside (a_low_body refl no_child)) (alike (same _) no_child))) no_child))) no_child)) (alike (same _) no_child));
  takedown = refl;
}

unfoldable pub watch_call : List ℕ → Left
watch_call b = called b [] 100 (zeros 40) (zeros report_length) (zeros work_length)

same_domains : masks (records_of left_image) ≡ masks (records_of cleared_image)
unfolding records_of layout walk tests find words all_within all all_of first_fault
    little rec image one_domain two_domains unit number literal watched_once cleared_image left_image
same_domains = refl

both_run : Runs left_image (zeros report_length) (zeros work_length) × Runs cleared_image (zeros report_length) (zeros work_length)
unfolding verdict in_turn require_from walk layout records_of tests find words all_within all all_of any_below first_fault shape at_fault leq order bits count uses depths depths_from typing check check_all type_of type_from type_out
    little rec image one_domain two_domains unit number literal watched_once cleared_image left_image
both_run = (refl, refl)

-- The watch prints 5 at domain 1, or is down; what is seen from domain 0 is the same.
pub takedown_logs : (log_written (watch_call left_image) ≡ 10 ∷ 0 ∷ 64 ∷ 0 ∷ 1 ∷ 0 ∷ 5 ∷ 0 ∷ 0 ∷ 0 ∷ 10 ∷ 0 ∷ 64 ∷ 0 ∷ 0 ∷ 0 ∷ 6 ∷ 0 ∷ 0 ∷ 0 ∷ []) × (log_written (watch_call cleared_image) ≡ 10 ∷ 0 ∷ 64 ∷ 0 ∷ 0 ∷ 0 ∷ 6 ∷ 0 ∷ 0 ∷ 0 ∷ [])
unfolding watch_call called verdict in_turn require_from walk layout records_of tests find words all_within all all_of any_below first_fault shape at_fault leq order bits count uses depths depths_from typing check check_all type_of type_from type_out
    little rec image one_domain two_domains unit number literal watched_once cleared_image left_image
    program tree to_tm assemble run after cases step subst carry by_capacity with spend picked leaves
    over cleared bytes_of records_bytes
takedown_logs = (refl, refl)

pub takedown_same : SameLeft mainline_only (watch_call left_image) (watch_call cleared_image)
unfolding watch_call
takedown_same =
    card7 mainline_only left_image cleared_image same_domains high_mainline with_takedown [] 100 100 (zeros 40) (zeros 40) (zeros report_length) (zeros report_length) (zeros work_length) (zeros work_length)
    both_run.0 both_run.1
