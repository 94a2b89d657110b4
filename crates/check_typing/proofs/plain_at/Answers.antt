-- `check_typing::plain_at` meets its contract.
use Rattle.check_typing.specs.Turns.{plain_at}
use borrow.Author.Tests.{lt-ltb, le-ltb}
use Rattle.check_typing.proofs.plain_at.Goals as goal

pub returns-then-leaves-gt0 : goal.returns-then-leaves-gt0
unfolding plain_at
returns-then-leaves-gt0 c = simp (lt-ltb _ _ c.if-leaves-gt0.true)

pub returns : goal.returns
unfolding plain_at
returns c = simp (le-ltb _ _ c.if-leaves-gt0.false)
