-- `need_rows::add_branches` and `add_pieces` meet their contracts.
use Prim.Native.Nat.{ℕ, ◌+◌, ◌*◌, max}
use Rattle.image.specs.Layout.{records_of}
use Rattle.need_rows.proofs.Children.{Through}
use Rattle.need_terms.specs.GivenToChildren.{HasFields}
use Rattle.need_rows.proofs.+add_branches_add_pieces.Given as goal

abbrev pub decreases-add_branches : goal.decreases-add_branches
decreases-add_branches l = 2 * max l.both.first.0 l.both.second.0 + 2

abbrev pub decreases-add_pieces : goal.decreases-add_pieces
decreases-add_pieces l = 2 * l.n.0 + 1

-- The children before child j are through, of every term that has these fields.
abbrev pub invariant-add_pieces-loop-j : goal.invariant-add_pieces-loop-j
invariant-add_pieces-loop-j l = (n : ℕ) → HasFields l.image n l.kind l.fields → Through (records_of l.image) n l.s l.shape.own l.initial.rows l.j l.rows
