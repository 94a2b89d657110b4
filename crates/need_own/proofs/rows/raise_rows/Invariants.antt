use Prim.Native.Nat.{max}
use lib.ListN.{get_or}
use Rattle.need_sums.specs.Rows.{Changed}
use Rattle.need_own.proofs.rows.raise_rows.Given as goal

abbrev pub invariant-loop-x : goal.invariant-loop-x
invariant-loop-x l = Changed (λ z y. max y (get_or l.part z 0)) 0 l.x l.initial.rows l.rows
