-- `check_scopes::scope::object_setting` meets its contract.
use native.Mathlib.Omega.{arith}
use mathlib.Core.Path.{◌≡◌}
use Prim.Native.Nat.{◌*◌}
use Rattle.image.specs.Layout.{records_of}
use Rattle.image.specs.Types.{type_field}
use Rattle.read_records.specs.Heads.{field_in}
use Rattle.check_scopes.proofs.ChildSettings.{object_is, method_there, object_small, object_at}
use Rattle.check_scopes.proofs.scope.object_setting.Goals as goal

pub bind-requires : goal.bind-requires
bind-requires c =
    let r = c.requires.1.capacity in
    let l = c.requires.1.places in
    (omega arith, rw c.own_type-own.ensures (object_small c.requires.0 c.requires.1 c.requires.2))

pub method_domain-inner-requires : goal.method_domain-inner-requires
method_domain-inner-requires c =
    (c.requires.0, rw c.own_type-own.ensures (object_is c.requires.0 c.requires.1 c.requires.2), rw c.own_type-own.ensures (method_there c.requires.0 c.requires.1 c.requires.2))

pub returns : goal.returns
returns c =
    let d : c.method_domain-inner.result.0 ≡ type_field (records_of c.args.image.now) (field_in c.args.fields.now 0) (2 * c.args.i) = rw c.own_type-own.ensures at c.method_domain-inner.ensures in
    rw (c.bind.ensures, c.own_type-own.ensures, d) (object_at c.requires.0 c.requires.1 c.requires.2)
