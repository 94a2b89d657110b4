-- `write_stripped::is_wrong_set` meets its contract.
use mathlib.Core.Path.{◌∙◌}
use Rattle.write_stripped.proofs.HighSets.{wrong_is}
use Rattle.write_stripped.proofs.is_wrong_set.Goals as goal

pub returns : goal.returns
returns c =
    let m = c.set_masks in
    c.is_wrong.ensures ∙ wrong_is c.args.image.now _ m.ensures c.args.mask c.args.count c.requires.1
