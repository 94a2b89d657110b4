-- The forecast of an accepted image (document 02, card 10) as it is worked out: in 32-bit numbers, whose sums stop at the largest. No number of an accepted image reaches it.
use Rattle.std.specs.Prelude.{Ok, Err, length, ltb}
use Rattle.calculus.specs.Combinators.{choose}
use Rattle.calculus_needs.specs.Needs.{need_of}
use Rattle.image.specs.Records.{Layout}
use Rattle.image.specs.Types.{term_place}
use Rattle.image.specs.Program.{program, to_tm}
use Rattle.image_needs.specs.declared.Needs.{Needs}
use Rattle.image_needs.specs.declared.Unforeseen.{Unforeseen}
use Rattle.image_needs.specs.Faults.{lowest_fault}
use Rattle.image_needs.specs.Forecasts.{Forecast}
use Rattle.need_sums.specs.declared.positions.Mode.{Mode}
use Rattle.need_sums.specs.declared.positions.Position.{Position}
use Rattle.need_sums.specs.Sums.{cut_needs}

abbrev pub program_position : Position
program_position = record { mode = Mode.Program; dom = record { 0 = 0 }; depth = 0; kept = 0 }

-- The numbers of a program.
abbrev pub cut_program : Layout → Needs
cut_program L = cut_needs (need_of (to_tm (program L)))

-- Of an image that the check accepts: 19, or the numbers.
abbrev pub cut_classed : Layout → Forecast
cut_classed L = choose (ltb (lowest_fault L) (length L.terms)) (Err (Unforeseen.OutsideClass (term_place L (lowest_fault L)))) (Ok (cut_program L))
