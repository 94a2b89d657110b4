-- `check_uses::children::use_entries` meets its contract: the loop uses what one entry after another names; the rest of the entries is left.
use mathlib.Core.Path.{◌≡◌}
use lib.ListN.{length}
use Rattle.read_records.specs.Heads.{entries_of}
use Rattle.read_records.proofs.Entries.{entries_left}
use Rattle.check_uses.specs.Marks.{Lower, use_all, highest}
use Rattle.check_uses.proofs.children.use_entries.Given as goal

abbrev pub invariant-loop-j : goal.invariant-loop-j
invariant-loop-j l =
    (length l.marks ≡ length l.initial.marks)
    × Lower (length l.marks) (entries_left l.fields l.first l.count l.j)
    × (highest (entries_of l.code l.fields) l.initial.marks l.initial.h ≡ highest (entries_left l.fields l.first l.count l.j) l.marks l.h)
    × (use_all (entries_of l.code l.fields) l.initial.marks ≡ use_all (entries_left l.fields l.first l.count l.j) l.marks)
