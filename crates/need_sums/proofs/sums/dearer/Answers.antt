use borrow.Author.Rules.{rules}
use Rattle.need_sums.proofs.Joined.{dearer_of}
use Rattle.need_sums.proofs.sums.dearer.Goals as goal

pub returns : goal.returns
returns c = dearer_of c.joined.ensures (λ x y r e. search rules)
