use mathlib.Core.Path.{refl}
use Rattle.validator.proofs.verdict_place.Goals as goal

pub returns-in-Err : goal.returns-in-Err
returns-in-Err c = rw c.in-Err.is refl
