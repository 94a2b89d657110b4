-- Card 10 of a call: domain 0 installs an advice and prints, and domain 1 makes a cell and a pair, and splits it. There is no choice, mark or takedown, and the call is done: it meets its forecast.
use Prim.Native.Nat.{ℕ}
use mathlib.Core.Path.{◌≡◌, refl}
use mathlib.Core.List.{List, [], ◌∷◌}
use Rattle.calculus.specs.Combinators.{cases}
use Rattle.calculus.specs.State.{picked}
use Rattle.calculus.specs.Subst.{subst}
use Rattle.calculus.specs.Answer.{carry, by_capacity, with, spend}
use Rattle.calculus.specs.Step.{step}
use Rattle.calculus.specs.Run.{after, run}
use Rattle.calculus.specs.Report.{leaves}
use Rattle.calculus_needs.specs.Numbers.{◌⊕◌, dearer}
use Rattle.calculus_needs.specs.Class.{straight}
use Rattle.calculus_needs.specs.Needs.{need, rounds}
use Rattle.image.specs.Limits.{work_length, report_length}
use Rattle.laws.specs.Tests.{all, all_of, any_below, first_fault}
use Rattle.image.specs.Bytes.{words}
use Rattle.image.specs.Kinds.{find}
use Rattle.image.specs.Layout.{all_within, tests, walk, layout, records_of}
use Rattle.image.specs.Types.{type_out, type_from, type_of}
use Rattle.image.specs.Program.{tree, program, assemble, to_tm}
use Rattle.verdict.specs.Answers.{require_from, in_turn}
use Rattle.verdict.specs.Domains.{bits, order, leq}
use Rattle.verdict.specs.Order.{at_fault}
use Rattle.verdict.specs.Shape.{count, uses, depths_from, depths, shape}
use Rattle.verdict.specs.Check.{check_all, check, typing}
use Rattle.verdict.specs.Verdicts.{verdict}
use Rattle.verdict.proofs.Images.{little, rec, image, one_domain, two_domains, unit, number, literal}
use Rattle.base_bytes.specs.Bytes.{bytes_of, number_of, number_at, over, cleared}
use Rattle.report.specs.Records.{records_bytes}
use Rattle.image_needs.specs.declared.Needs.{Needs}
use Rattle.std.proofs.Common.{Ok}
use Rattle.image_needs.specs.Faults.{least, lowest, lowest_fault}
use Rattle.image_needs.specs.Forecasts.{forecast}
use Rattle.call_spec.specs.Calls.{Left, called}
use Rattle.listing.specs.Conformance.{zeros}
use Rattle.demands.specs.Calls.{Runs, report_written}
use Rattle.demands.specs.SameBytes.{SaysDone}
use Rattle.demands.specs.Forecast.{numbers_of, used_of, Told, OneWay}
use Rattle.demands.proofs.Forecast.{card10}

unfoldable pub one_way_image : List ℕ
one_way_image =
    image
    (two_domains ∷ number ∷ unit ∷ rec 22 (0 ∷ 0 ∷ []) ∷ rec 23 (0 ∷ 0 ∷ []) ∷ rec 24 (0 ∷ []) ∷ rec 21 (0 ∷ 1 ∷ []) ∷ rec 19 (5 ∷ 0 ∷ [])
    ∷ rec 44 (2 ∷ []) ∷ rec 46 (3 ∷ 0 ∷ []) ∷ rec 32 (1 ∷ []) ∷ rec 47 (4 ∷ 1 ∷ 2 ∷ []) ∷ rec 48 (1 ∷ 3 ∷ []) ∷ literal 3 ∷ rec 37 (1 ∷ 5 ∷ []) ∷ rec 36 (1 ∷ 4 ∷ 6 ∷ [])
    ∷ literal 5 ∷ rec 49 (5 ∷ 8 ∷ []) ∷ literal 2 ∷ rec 39 (6 ∷ 9 ∷ 10 ∷ []) ∷ rec 32 (1 ∷ []) ∷ rec 40 (1 ∷ 11 ∷ 12 ∷ []) ∷ rec 52 (1 ∷ 1 ∷ 13 ∷ []) ∷ rec 36 (1 ∷ 7 ∷ 14 ∷ []) ∷ [])

-- The forecast.
abbrev pub needed : Needs
needed = record {
  steps = 11;
  bindings = 0;
  other_bindings = 2;
  pieces = 2;
  other_pieces = 1;
  cells = 0;
  other_cells = 1;
  labels = 1;
  advice = 1;
  frames = 5;
  log = 1;
}

forecast_is : forecast one_way_image ≡ Ok needed
unfolding one_way_image forecast lowest_fault lowest least need rounds ◌⊕◌ dearer
    verdict in_turn require_from walk layout records_of tests find words all_within all all_of any_below first_fault shape at_fault leq order bits count uses depths depths_from typing check check_all type_of type_from type_out
    little rec image one_domain two_domains unit number literal
    program tree to_tm assemble
forecast_is = refl

runs : Runs one_way_image (zeros report_length) (zeros work_length)
unfolding one_way_image verdict in_turn require_from walk layout records_of tests find words all_within all all_of any_below first_fault shape at_fault leq order bits count uses depths depths_from typing check check_all type_of type_from type_out
    little rec image one_domain two_domains unit number literal
runs = refl

no_other_way : OneWay one_way_image
unfolding one_way_image straight walk layout records_of tests find words all_within all all_of first_fault little rec image one_domain two_domains unit number literal type_of type_from type_out program tree to_tm assemble
no_other_way = tt

unfoldable pub one_way_call : Left
one_way_call = called one_way_image [] 11 (zeros 10) (zeros report_length) (zeros work_length)

-- With just the steps and the log that it needs.
says_done : SaysDone (report_written one_way_call)
unfolding one_way_image one_way_call called
    verdict in_turn require_from walk layout records_of tests find words all_within all all_of any_below first_fault shape at_fault leq order bits count uses depths depths_from typing check check_all type_of type_from type_out
    little rec image one_domain two_domains unit number literal
    program tree to_tm assemble run after cases step subst carry by_capacity with spend picked leaves
    over cleared bytes_of records_bytes number_at number_of
says_done = refl

pub forecast_met : (used_of one_way_image [] 11 (zeros 10) ≡ numbers_of needed) × Told ◌≡◌ needed 11 one_way_call
unfolding one_way_call
forecast_met =
    let H = card10 one_way_image needed forecast_is [] 11 (zeros 10) (zeros report_length) (zeros work_length) runs in
    (H.meets no_other_way says_done, H.told_meets no_other_way says_done)
