use Prim.Native.Nat.{ℕ}
use mathlib.Core.Path.{◌≡◌}
use Rattle.image.specs.Layout.{records_of}
use Rattle.need_sums.specs.Sums.{cut_needs}
use Rattle.need_terms.specs.GivenToChildren.{HasFields}
use Rattle.need_walk.proofs.Walked.{sum_to, choice_to}
use Rattle.need_walk.proofs.+walk.Given as goal

abbrev pub decreases-walk : goal.decreases-walk
decreases-walk l = l.at.term.0

-- The sums over the children before child j, of every term that has these fields.
abbrev pub invariant-loop-j : goal.invariant-loop-j
invariant-loop-j l =
    (n : ℕ) → HasFields l.image n l.kind l.fields → (l.sum ≡ cut_needs (sum_to (records_of l.image) n l.s l.j)) × (l.choice ≡ cut_needs (choice_to (records_of l.image) n l.s l.j))
