-- What lent numbers hold after a forecast (document 02, card 10).
use Rattle.std.specs.Prelude.{ℕ, cond, ◌&&◌, List, [], ◌∷◌, Ok, Err, length, eqb, ltb}
use Rattle.base_bytes.specs.Bytes.{over}
use Rattle.image_needs.specs.declared.Needs.{Needs}
use Rattle.image_needs.specs.Forecasts.{Forecast, forecast_number}

-- The eleven numbers, in the order of the declaration.
abbrev pub numbers_of : Needs → List ℕ
numbers_of n =
    n.steps
    ∷ n.bindings
    ∷ n.other_bindings
    ∷ n.pieces
    ∷ n.other_pieces
    ∷ n.cells
    ∷ n.other_cells
    ∷ n.labels
    ∷ n.advice
    ∷ n.frames
    ∷ n.log
    ∷ []

abbrev pub number_count : ℕ
number_count = 11

-- If the forecast has numbers and at least eleven places are lent, the numbers stand in the first eleven; else nothing is written.
abbrev pub numbers_left : Forecast → List ℕ → List ℕ
numbers_left (Err u) xs = xs
numbers_left (Ok n) xs = cond (ltb (length xs) number_count) xs (over 0 (numbers_of n) xs)

-- The number that is answered, given how many places are lent: the number of the forecast; or, where its numbers are known and fewer than eleven places are lent, the first number behind those of documents 01 and 02.
abbrev pub too_few_places : ℕ
too_few_places = 25

abbrev pub need_number : Forecast → ℕ → ℕ
need_number f places = cond (eqb (forecast_number f) 0 && ltb places number_count) too_few_places (forecast_number f)
