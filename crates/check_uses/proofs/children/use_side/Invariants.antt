-- `check_uses::children::use_side` meets its contract: the loop uses one child after another; the rest of them is left.
use mathlib.Core.Path.{◌≡◌}
use lib.ListN.{length, drop}
use Rattle.read_records.specs.Heads.{side_of}
use Rattle.check_uses.specs.Marks.{use_all, highest}
use Rattle.check_uses.proofs.children.use_side.Given as goal

abbrev pub invariant-loop-j : goal.invariant-loop-j
invariant-loop-j l =
    (length l.marks ≡ length l.initial.marks)
    × (highest (side_of l.code l.fields) l.initial.marks l.initial.h ≡ highest (drop l.j (side_of l.code l.fields)) l.marks l.h)
    × (use_all (side_of l.code l.fields) l.initial.marks ≡ use_all (drop l.j (side_of l.code l.fields)) l.marks)
