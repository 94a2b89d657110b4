-- Card 13: what the run of a stripped program shares with the run of the full one.
use Rattle.std.specs.Prelude.{◌≤◌, ◌≡◌, Bool}
use Rattle.calculus.specs.Syntax.{Dom, Val}
use Rattle.calculus.specs.Run.{done, Ended}
use Rattle.calculus_noninterference.specs.Observe.{high_prints, high_cells, NoMore}

-- The full run E is done with the result v; the stripped run E' is "done … with the same result, the same plain high cells and high log, in no more steps", and has used no more room.
pub record SharesDone (hi : Dom → Bool) (v : Val) (E E' : Ended) : Type 0 where
  pub result : E'.end ≡ done v
  pub cells : high_cells hi E ≡ high_cells hi E'
  pub prints : high_prints hi E ≡ high_prints hi E'
  pub steps : E'.steps ≤ E.steps
  -- card 9's halves: of domain 0's as much, of the other domains' no more
  pub mainline : E.state.used.mainline ≡ E'.state.used.mainline
  pub others : NoMore E.state.used.others E'.state.used.others
