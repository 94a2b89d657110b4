-- `check_scopes::scope::split_setting` meets its contract.
use mathlib.Core.Path.{◌≡◌, ap, ◌∙◌}
use Rattle.read_records.specs.Descriptors.{descriptor_field0, descriptor_field1}
use Rattle.check_rules.proofs.OnDescriptors.{descriptor_at_field}
use Rattle.check_scopes.proofs.ChildSettings.{split_at}
use Rattle.check_scopes.proofs.scope.split_setting.Goals as goal

pub returns : goal.returns
returns c =
    let e : c.first_type-first.result.0 ≡ descriptor_field0 (descriptor_at_field c.args.image.now c.args.descriptors.now c.args.fields.now 1) = c.first_type-first.ensures ∙ ap descriptor_field0 c.descriptor_at_field-pair.ensures in
    let f : c.second_type-second.result.0 ≡ descriptor_field1 (descriptor_at_field c.args.image.now c.args.descriptors.now c.args.fields.now 1) = c.second_type-second.ensures ∙ ap descriptor_field1 c.descriptor_at_field-pair.ensures in
    rw (c.bind-2.ensures, c.bind.ensures, e, f) (split_at c.requires.0 c.requires.1)
