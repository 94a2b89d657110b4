-- Card 13 of the reports of two runs.
use mathlib.Core.Path.{◌≡◌, sym, ap, ◌∙◌}
use mathlib.Core.Bool.{Bool}
use mathlib.Core.List.{map}
use Rattle.calculus.specs.Syntax.{Dom, Val}
use Rattle.calculus.specs.Report.{leaves, result_of, report}
use Rattle.calculus.specs.Run.{done, Ended}
use Rattle.calculus_noninterference.specs.Observe.{high_of}
use Rattle.calculus_noninterference.proofs.Reported.{reported, reported_cells}
use Rattle.calculus_stripped.specs.Shared.{SharesDone}

module _ {hi : Dom → Bool} {v : Val} {E E' : Ended} (S : SharesDone hi v E E') where
  pub shares_result : E.end ≡ done v → (report E).result ≡ (report E').result
  shares_result p = ap (result_of leaves) (p ∙ sym S.result)

  pub shares_cells : high_of hi (λ a. a.dom) (report E).cells ≡ high_of hi (λ a. a.dom) (report E').cells
  shares_cells = sym (reported_cells hi E.state.cells) ∙ ap (map reported) S.cells ∙ reported_cells hi E'.state.cells
