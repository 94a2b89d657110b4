-- `check_shape::descent::mark_children` meets its contract: the children side by side, then those of the entries.
use mathlib.Core.Path.{subst, sym}
use Rattle.read_records.specs.Heads.{side_of, entries_of}
use Rattle.check_uses.specs.Marks.{Lower}
use Rattle.check_uses.proofs.ChildByChild.{lower_rest}
use Rattle.check_shape.proofs.descent.mark_children.Goals as goal

pub mark_entries-requires : goal.mark_entries-requires
mark_entries-requires c =
    let m = c.mark_side in
    let fs = c.args.fields.now in
    (c.requires.0, subst (λ n. Lower n (entries_of c.args.code fs)) (sym c.mark_side.auto.depths) (lower_rest _ (side_of c.args.code fs) (entries_of c.args.code fs) c.requires.1))
