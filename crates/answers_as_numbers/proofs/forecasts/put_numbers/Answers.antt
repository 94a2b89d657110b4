-- Eleven stores are the eleven numbers written over the front.
use Prim.Native.Nat.{◌≤◌}
use native.Mathlib.Omega.{arith}
use lib.ListN.{length, length-set}
use lib.Seq.{sets-eq}
use Rattle.base_bytes.specs.Bytes.{over}
use Rattle.answers_as_numbers.specs.Forecasts.{numbers_of}
use borrow.Author.Rules.{rules}
use Rattle.answers_as_numbers.proofs.forecasts.put_numbers.Goals as goal

pub returns : goal.returns
unfolding over
returns c =
    let h : 11 ≤ length c.args.numbers.now = search rules in
    sets-eq (numbers_of c.args.n) c.args.numbers.now 0 h

pub bounds-numbers-1 : goal.bounds-numbers-1
bounds-numbers-1 c = simp length-set (omega arith)

pub bounds-numbers-2 : goal.bounds-numbers-2
bounds-numbers-2 c = simp length-set (omega arith)

pub bounds-numbers-3 : goal.bounds-numbers-3
bounds-numbers-3 c = simp length-set (omega arith)

pub bounds-numbers-4 : goal.bounds-numbers-4
bounds-numbers-4 c = simp length-set (omega arith)

pub bounds-numbers-5 : goal.bounds-numbers-5
bounds-numbers-5 c = simp length-set (omega arith)

pub bounds-numbers-6 : goal.bounds-numbers-6
bounds-numbers-6 c = simp length-set (omega arith)

pub bounds-numbers-7 : goal.bounds-numbers-7
bounds-numbers-7 c = simp length-set (omega arith)

pub bounds-numbers-8 : goal.bounds-numbers-8
bounds-numbers-8 c = simp length-set (omega arith)

pub bounds-numbers-9 : goal.bounds-numbers-9
bounds-numbers-9 c = simp length-set (omega arith)
