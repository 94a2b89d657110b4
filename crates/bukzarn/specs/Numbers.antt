-- What each function of the library answers as one number.
use Rattle.std.specs.Prelude.{ℕ, ◌≡◌, List, Result}
use Rattle.verdict.specs.Answers.{Verdict}
use Rattle.validator.specs.Numbers.{verdict_number, verdict_place}
use Rattle.image_needs.specs.Forecasts.{Forecast, forecast_place}
use Rattle.call_spec.specs.Calls.{Left}
use Rattle.write_fixed.specs.declared.FixedError.{FixedError}
use Rattle.write_fixed.specs.Calls.{written_number, written_place, written_bytes}
use Rattle.write_load.specs.declared.LoadError.{LoadError}
use Rattle.write_load.specs.Loads.{load_number, load_bytes}
use Rattle.write_stripped.specs.declared.StripError.{StripError}
use Rattle.write_stripped.specs.Calls.{stripped_number, stripped_place, stripped_bytes}
use Rattle.answers_as_numbers.specs.Numbers.{as_number, refused_as_number, call_number}
use Rattle.answers_as_numbers.specs.Forecasts.{need_number}

abbrev pub verdict_as_number : Verdict → ℕ
verdict_as_number v = refused_as_number (verdict_number v) (verdict_place v)

-- The answer to a forecast, given how many places are lent.
abbrev pub need_as_number : Forecast → ℕ → ℕ
need_as_number f places = refused_as_number (need_number f places) (forecast_place f)

abbrev pub written_as_number : Result ℕ FixedError → ℕ
written_as_number w = as_number (written_bytes w) (written_number w) (written_place w)

abbrev pub load_as_number : Result ℕ LoadError → ℕ
load_as_number a = as_number (load_bytes a) (load_number a) 0

abbrev pub stripped_as_number : Result ℕ StripError → ℕ
stripped_as_number s = as_number (stripped_bytes s) (stripped_number s) (stripped_place s)

-- A call with its answer as one number: n is that of what the call answers, and log, report and work area hold l, r and w as it leaves them.
pub record Numbered (L : Left) (n : ℕ) (l r w : List ℕ) : Type 0 where
  pub number : n ≡ call_number L.answer
  pub log : l ≡ L.log
  pub report : r ≡ L.report
  pub work : w ≡ L.work
