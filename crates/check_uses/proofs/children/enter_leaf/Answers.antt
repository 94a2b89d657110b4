-- `check_uses::children::enter_leaf` meets its contract: a term without children has the height 1.
use Rattle.check_uses.specs.Marks.{highest}
use Rattle.check_uses.proofs.children.enter_leaf.Goals as goal

pub returns : goal.returns
unfolding highest
returns c = c.set_height.ensures
