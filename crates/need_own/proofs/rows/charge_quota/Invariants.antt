use Prim.Native.Nat.{◌+◌, ◌-◌}
use Rattle.need_sums.specs.Sums.{cut}
use Rattle.need_sums.specs.Rows.{Changed, pieces_of}
use Rattle.need_own.proofs.rows.charge_quota.Given as goal

abbrev pub invariant-loop-i : goal.invariant-loop-i
invariant-loop-i l = Changed (λ x y. cut (y + pieces_of l.own (x - l.at + l.kept))) l.at (l.at + l.i) l.initial.rows l.rows
