use borrow.Author.Rules.{rules}
use Rattle.need_sums.proofs.Joined.{sum_of}
use Rattle.need_sums.proofs.sums.add.Goals as goal

pub returns : goal.returns
returns c = sum_of c.joined.ensures (λ x y r e. search rules)
