-- `check_core::watches::check_mark` meets its contract.
use native.Mathlib.Omega.{arith}
use Rattle.std.specs.Prelude.{[], ◌∷◌, ◌≡◌, eqb}
use mathlib.Core.Path.{ap, ◌∙◌}
use Rattle.laws.specs.Tests.{all}
use Rattle.image.specs.Bytes.{words}
use Rattle.image.specs.Kinds.{TypeKind, TermKind}
use Rattle.check_rules.proofs.OnDescriptors.{at_field_typed, on_descriptors}
use Rattle.read_records.specs.Descriptors.{descriptor_field0}
use Rattle.read_terms.specs.Descriptors.{descriptor_is}
use Rattle.check_rules.proofs.Small.{two_first}
use Rattle.check_core.proofs.watches.check_mark.Goals as goal
use Rattle.check_core.proofs.watches.check_mark.Goals.{then-is_kind, else-is_kind, then-is_kind-2, else-is_kind-2}

pub returns : goal.returns
unfolding words all
returns c =
    λ Γ.
    let d : c.if-is_kind.value ≡ all (c.is_kind.result ∷ descriptor_is c.descriptor_at_field-first.result TypeKind.label ∷ []) = elim c.if-is_kind.branch [ then-is_kind w ↦ grind arith | else-is_kind w ↦ grind arith ] in
    let l : c.if-is_kind-2.judge ≡ all (c.if-is_kind.value ∷ eqb (descriptor_field0 c.descriptor_at_field-first.result) c.type_at_field-second.result.0 ∷ []) = elim c.if-is_kind-2.branch [ then-is_kind-2 w ↦ grind arith | else-is_kind-2 w ↦ grind arith ] in
    let e = l ∙ ap (λ v. all (v ∷ eqb (descriptor_field0 c.descriptor_at_field-first.result) c.type_at_field-second.result.0 ∷ [])) d ∙ two_first c.is_kind.result (descriptor_is c.descriptor_at_field-first.result TypeKind.label) (eqb (descriptor_field0 c.descriptor_at_field-first.result) c.type_at_field-second.result.0) in
    c.judge.ensures ∙ simp (e, c.is_kind.ensures, c.same_domain.ensures, c.second_domain.ensures, c.type_at_field-second.ensures.0, c.descriptor_at_field-first.ensures, c.own_descriptor-own.ensures) (on_descriptors c.requires.0.types c.requires.1 c.args.at TermKind.mark (record { context = Γ; dom = c.args.c.0 }) (at_field_typed c.requires.0 c.requires.2, (at_field_typed c.requires.0 c.requires.3, tt)))
