-- `check_objects::objects::method_domain` meets its contract.
use mathlib.Core.Path.{◌≡◌, ap, ◌∙◌}
use native.Mathlib.Omega.{arith}
use lib.ListN.{length}
use Prim.Native.Nat.{◌*◌}
use Rattle.image.specs.Layout.{records_of}
use Rattle.image.specs.Types.{method_count}
use Rattle.read_records.specs.Heads.{field_in}
use Rattle.check_rules.proofs.Methods.{few_methods, method_bytes, method_field}
use Rattle.check_objects.proofs.objects.method_domain.Goals as goal

pub overflow_mul-m : goal.overflow_mul-m
overflow_mul-m c =
    let k = few_methods c.requires.0 c.args.t.0 c.requires.1 in
    let m = c.requires.2 in
    omega arith

pub field_as-requires : goal.field_as-requires
field_as-requires c =
    let e : length c.type_fields.result.now ≡ 4 * method_count (records_of c.args.image.now) c.args.t.0 = ap length c.type_fields.ensures ∙ method_bytes c.requires.0 c.args.t.0 c.requires.1 in
    let m = c.requires.2 in
    omega arith

pub returns : goal.returns
returns c =
    let m = c.requires.2 in
    c.field_as.ensures ∙ (ap (λ fs. field_in fs (2 * c.args.m)) c.type_fields.ensures ∙ method_field c.requires.0 c.args.t.0 c.requires.1 (2 * c.args.m) (omega arith))
