-- `check_uses::uses::all_once` meets its contract: so far each test holds, or one does not.
use mathlib.Core.Path.{◌≡◌}
use lib.ListN.{get_or}
use Rattle.laws.specs.Tests.{all_below}
use Rattle.check_uses.specs.Marks.{is_once}
use Rattle.check_uses.proofs.uses.all_once.Given as goal

abbrev pub invariant-loop-i : goal.invariant-loop-i
invariant-loop-i l = (l.ok ≡ all_below l.i (λ k. is_once (get_or l.marks k 0)))
