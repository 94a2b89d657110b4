-- `check_scopes::scope::function_setting` meets its contract.
use mathlib.Core.Path.{◌≡◌, ap, ◌∙◌}
use Rattle.read_records.specs.Descriptors.{descriptor_field0, descriptor_field1}
use Rattle.check_rules.proofs.OnDescriptors.{own_descriptor}
use Rattle.check_scopes.proofs.ChildSettings.{function_at}
use Rattle.check_scopes.proofs.scope.function_setting.Goals as goal

pub returns : goal.returns
returns c =
    let e : c.first_type.result.0 ≡ descriptor_field0 (own_descriptor c.args.descriptors.now c.args.fields.now) = c.first_type.ensures ∙ ap descriptor_field0 c.own_descriptor-own.ensures in
    let d : c.second_domain-inner.result.0 ≡ descriptor_field1 (own_descriptor c.args.descriptors.now c.args.fields.now) = c.second_domain-inner.ensures ∙ ap descriptor_field1 c.own_descriptor-own.ensures in
    rw (c.bind.ensures, e, d) (function_at c.requires.0 c.requires.1)
