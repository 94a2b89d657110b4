-- The loop marks what one entry after another names; the rest of the entries is left.
use mathlib.Core.Path.{◌≡◌}
use lib.ListN.{length}
use Rattle.verdict.specs.Shape.{set_all}
use Rattle.read_records.specs.Heads.{entries_of}
use Rattle.read_records.proofs.Entries.{entries_left}
use Rattle.check_uses.specs.Marks.{Lower}
use Rattle.check_shape.proofs.descent.mark_entries.Given as goal

abbrev pub invariant-loop-j : goal.invariant-loop-j
invariant-loop-j l =
    (length l.depths ≡ length l.initial.depths)
    × Lower (length l.depths) (entries_left l.fields l.first l.count l.j)
    × (set_all (entries_of l.code l.fields) l.d l.initial.depths ≡ set_all (entries_left l.fields l.first l.count l.j) l.d l.depths)
