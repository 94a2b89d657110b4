-- `check_rules::judge::judge` meets its contract.
use mathlib.Core.Path.{refl}
use Rattle.check_rules.proofs.Small.{mistyped, not_allowed, accepted}
use Rattle.check_rules.proofs.judge.judge.Goals as goal

pub returns-then-not-allowed : goal.returns-then-not-allowed
returns-then-not-allowed c = not_allowed _ _ _ _ refl (c.if-not-typed.false) (c.if-not-allowed.true)

pub returns : goal.returns
returns c = accepted _ _ _ _ refl (c.if-not-typed.false) (c.if-not-allowed.false)

pub returns-then-not-typed : goal.returns-then-not-typed
returns-then-not-typed c = mistyped _ _ _ _ refl (c.if-not-typed.true)
