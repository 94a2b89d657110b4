-- A cell or a label that is not in the store has no rule (document 003, section 2.3, figure 4): a run that reads, stores to or marks one is stuck.
use Prim.Native.Nat.{ℕ, suc}
use mathlib.Core.Path.{◌≡◌, refl}
use Rattle.calculus.specs.Combinators.{cases}
use Rattle.calculus.specs.Syntax.{Ty, Val, Tm, val, op1, op2, read, mark, store}
use Rattle.calculus.specs.State.{Given, fresh}
use Rattle.calculus.specs.Answer.{by_capacity, with}
use Rattle.calculus.specs.Step.{step}
use Rattle.calculus.specs.Run.{stuck, ended, after, run}

-- From the empty state, at every budget that has a step.
abbrev Stuck : Tm → Type 0
Stuck e = (n : ℕ) (G : Given) → run (suc n) G 0 fresh e ≡ ended stuck 0 fresh

abbrev three : Tm
three = val (Val.number 3)

-- !r
pub read_absent : Stuck (op1 read Ty.number (val (Val.cell 7)))
unfolding run after cases step by_capacity with
read_absent n G = refl

-- r := 3
pub store_absent : Stuck (op2 store Ty.unit (val (Val.cell 7)) three)
unfolding run after cases step by_capacity with
store_absent n G = refl

-- l[3]
pub mark_absent : Stuck (op2 mark Ty.unit (val (Val.label 7)) three)
unfolding run after cases step by_capacity with
mark_absent n G = refl
