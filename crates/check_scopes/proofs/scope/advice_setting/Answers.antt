-- `check_scopes::scope::advice_setting` meets its contract.
use mathlib.Core.Path.{◌≡◌, ap, ◌∙◌}
use Rattle.read_records.specs.Descriptors.{descriptor_field0}
use Rattle.check_rules.proofs.OnDescriptors.{own_descriptor, descriptor_at_field}
use Rattle.check_scopes.proofs.ChildSettings.{advice_at}
use Rattle.check_scopes.proofs.scope.advice_setting.Goals as goal

pub returns : goal.returns
returns c =
    let e : c.first_type.result.0 ≡ descriptor_field0 (descriptor_at_field c.args.image.now c.args.descriptors.now c.args.fields.now 1) = c.first_type.ensures ∙ ap descriptor_field0 c.descriptor_at_field-pointcut.ensures in
    let d : c.first_domain-inner.result.0 ≡ descriptor_field0 (own_descriptor c.args.descriptors.now c.args.fields.now) = c.first_domain-inner.ensures ∙ ap descriptor_field0 c.own_descriptor-own.ensures in
    rw (c.bind.ensures, e, d) (advice_at c.requires.0 c.requires.1)
