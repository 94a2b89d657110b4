use mathlib.Core.Path.{refl}
use Rattle.vm_matches.proofs.bindings.bind_inside.Goals as goal

pub returns : goal.returns
returns c = (record { memory = c.bind.ensures; count = refl; env = refl }, c.requires.1)
