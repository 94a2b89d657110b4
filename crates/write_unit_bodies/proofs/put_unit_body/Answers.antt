-- `write_unit_bodies::put_unit_body` meets its contract.
use Prim.Native.Nat.{◌+◌}
use mathlib.Core.Path.{ap, ◌∙◌}
use lib.ListN.{set}
use Rattle.image.specs.Layout.{records_of}
use Rattle.image.specs.Types.{term_place}
use Rattle.write_unit_bodies.proofs.put_unit_body.Goals as goal

pub returns : goal.returns
returns c =
    ap (λ o. set c.args.copy.now (o + 2) 32) (c.term_place-at.ensures.0 ∙ ap (λ n. term_place (records_of c.args.image.now) n) c.field_as.ensures)
