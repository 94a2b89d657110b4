-- `check_uses::children::use_child` meets its contract.
use Prim.Native.Nat.{max}
use lib.ListN.{set}
use mathlib.Core.Path.{ap, ◌∙◌}
use Rattle.check_uses.specs.Marks.{height_in, used_mark, highest}
use Rattle.check_uses.proofs.children.use_child.Goals as goal

pub returns : goal.returns
unfolding highest
returns c =
    let a = c.args in
    let m = c.mark_of-mark.ensures in
    (c.higher.ensures ∙ ap (max a.h) (c.from.ensures ∙ ap height_in m), c.set_mark.ensures ∙ ap (set a.marks.now a.e.0) (c.used_mark.ensures ∙ ap used_mark m))
