-- `check_uses::children::enter_one` meets its contract: the child is used, and the term is higher.
use lib.Dec.{lit<}
use Rattle.check_uses.proofs.ChildByChild.{high_low}
use borrow.Author.Rules.{rules}
use Rattle.check_uses.proofs.children.enter_one.Goals as goal

pub set_height-requires : goal.set_height-requires
set_height-requires c = (search rules, high_low _ _ 0 _ c.use_child-h.ensures.0 (lit< tt))
