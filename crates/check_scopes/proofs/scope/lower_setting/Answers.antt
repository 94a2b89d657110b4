-- `check_scopes::scope::lower_setting` meets its contract.
use Rattle.check_scopes.proofs.ChildSettings.{lower_at}
use Rattle.check_scopes.proofs.scope.lower_setting.Goals as goal

pub returns : goal.returns
returns c =
    rw c.other_field.ensures (lower_at c.args.image.now c.args.fields.now c.args.scope.now c.args.p.len c.args.p.dom.0)
