-- `check_objects::objects::check_method_call` meets its contract.
use mathlib.Core.Path.{◌≡◌, sym, ap, ◌∙◌}
use mathlib.Core.Bool.{true, false}
use Prim.Native.Nat.{◌*◌}
use lib.Dec.{eqb}
use Rattle.image.specs.Layout.{records_of}
use Rattle.image.specs.Types.{type_field}
use Rattle.read_records.specs.Heads.{field_in}
use Rattle.check_rules.specs.Judged.{call_fits}
use Rattle.check_rules.proofs.OnDescriptors.{type_at_field}
use Rattle.check_rules.proofs.Methods.{call_refused, call_judged, call_tells}
use Rattle.check_objects.proofs.objects.check_method_call.Goals as goal

pub returns-then-not-call_fits : goal.returns-then-not-call_fits
returns-then-not-call_fits c =
    let a = c.args in
    let f : call_fits (records_of a.image.now) (type_at_field a.image.now a.fields.now 1) (field_in a.fields.now 2) (field_in a.fields.now 0) ≡ false = sym (rw (c.type_at_field-a.ensures.0, c.method_number-m.ensures, c.own_type.ensures) at c.call_fits.ensures) ∙ c.if-not-call_fits.true in
    λ Γ. call_refused a.image.now a.fields.now (record { context = Γ; dom = a.c.0 }) a.at f

pub method_domain-requires : goal.method_domain-requires
method_domain-requires c =
    let f = sym c.call_fits.ensures ∙ c.if-not-call_fits.false in
    let z = call_tells c.args.image.now c.type_at_field-a.result.0 c.method_number-m.result c.own_type.result.0 c.type_at_field-a.ensures.1 f in
    (c.requires.1, z.0, z.1)

pub returns : goal.returns
returns c =
    let a = c.args in
    let f : call_fits (records_of a.image.now) (type_at_field a.image.now a.fields.now 1) (field_in a.fields.now 2) (field_in a.fields.now 0) ≡ true = sym (rw (c.type_at_field-a.ensures.0, c.method_number-m.ensures, c.own_type.ensures) at c.call_fits.ensures) ∙ c.if-not-call_fits.false in
    let d : c.same_domain.result ≡ eqb (type_field (records_of a.image.now) (type_at_field a.image.now a.fields.now 1) (2 * field_in a.fields.now 2)) a.c.0 = c.same_domain.ensures ∙ ap (λ x. eqb x a.c.0) (rw (c.type_at_field-a.ensures.0, c.method_number-m.ensures) at c.method_domain.ensures) in
    λ Γ. c.judge.ensures ∙ call_judged a.image.now a.fields.now (record { context = Γ; dom = a.c.0 }) a.at _ f d
