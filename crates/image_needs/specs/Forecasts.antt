-- What is said of an image before a launch (document 02, card 10): the check's refusals, 1 to 16; then 19; then the eleven numbers of its program.
use Rattle.std.specs.Prelude.{ℕ, List, Result, Ok, Err, length, ltb}
use Rattle.calculus.specs.Combinators.{choose}
use Rattle.calculus_needs.specs.Numbers.{Numbers}
use Rattle.calculus_needs.specs.Needs.{need_of}
use Rattle.image.specs.Limits.{work_length, report_length}
use Rattle.image.specs.Refusals.{refusal_number}
use Rattle.image.specs.Records.{Layout}
use Rattle.image.specs.Layout.{records_of}
use Rattle.image.specs.Types.{term_place}
use Rattle.image.specs.Program.{program, to_tm}
use Rattle.verdict.specs.Answers.{Verdict}
use Rattle.verdict.specs.Verdicts.{verdict}
use Rattle.image_needs.specs.declared.Needs.{Needs}
use Rattle.image_needs.specs.declared.Unforeseen.{Unforeseen}
use Rattle.image_needs.specs.Faults.{lowest_fault}

-- The numbers as they are answered.
abbrev pub needs_of : Numbers → Needs
needs_of N = record {
  steps = N.steps;
  bindings = N.used.mainline.bindings;
  other_bindings = N.used.others.bindings;
  pieces = N.used.mainline.pieces;
  other_pieces = N.used.others.pieces;
  cells = N.used.mainline.cells;
  other_cells = N.used.others.cells;
  labels = N.labels;
  advice = N.advices;
  frames = N.frames;
  log = N.prints;
}

abbrev pub Forecast : Type 0
Forecast = Result Needs Unforeseen

-- Of an image that the check accepts.
abbrev pub classed : Layout → Forecast
classed L = choose (ltb (lowest_fault L) (length L.terms)) (Err (Unforeseen.OutsideClass (term_place L (lowest_fault L)))) (Ok (needs_of (need_of (to_tm (program L)))))

abbrev pub unless : Verdict → Forecast → Forecast
unless (Ok tt) f = f
unless (Err refusal) f = Err (Unforeseen.Refused refusal)

-- The check is that of a work area and a report that are long enough: 17 and 18 speak of a run's memory, and there is no run.
unfoldable pub forecast : List ℕ → Forecast
forecast b = unless (verdict b work_length report_length) (classed (records_of b))

-- Document 02's number of each answer, 0 where the numbers are known, and its place.
abbrev pub forecast_number : Forecast → ℕ
forecast_number (Ok n) = 0
forecast_number (Err (Unforeseen.Refused x)) = refusal_number x.why
forecast_number (Err (Unforeseen.OutsideClass place)) = 19

abbrev pub forecast_place : Forecast → ℕ
forecast_place (Ok n) = 0
forecast_place (Err (Unforeseen.Refused x)) = x.place
forecast_place (Err (Unforeseen.OutsideClass place)) = place
