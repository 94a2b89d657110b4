-- `check_objects::objects::method_count` meets its contract.
use mathlib.Core.Path.{◌≡◌, ap, ◌∙◌}
use native.Mathlib.Omega.{arith}
use lib.ListN.{length}
use Prim.Native.Nat.{◌*◌}
use Rattle.image.specs.Layout.{records_of}
use Rattle.image.specs.Types.{method_count}
use Rattle.check_rules.proofs.Methods.{method_bytes}
use Rattle.check_objects.proofs.objects.method_count.Goals as goal

pub returns : goal.returns
returns c =
    let e : length c.type_fields.result.now ≡ 4 * method_count (records_of c.args.image.now) c.args.t.0 = ap length c.type_fields.ensures ∙ method_bytes c.requires.0 c.args.t.0 c.requires.1 in
    omega arith
