-- `write_load::Growth::put_number` meets its contract.
use mathlib.Core.Path.{ap}
use Rattle.write_load.proofs.Growing.{number_grew}
use Rattle.write_load.proofs.Growth.put_number.Goals as goal

pub returns : goal.returns
returns c = let h = c.drawn-here.ensures in number_grew h.0 (ap (λ d. d.at) h.1) (ap (λ d. d.terms) h.1) c.put_term.ensures
