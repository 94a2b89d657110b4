-- `check_core::computing::check_arithmetic` meets its contract.
use native.Mathlib.Omega.{arith}
use Rattle.std.specs.Prelude.{[], ◌∷◌, ◌≡◌}
use mathlib.Core.Path.{ap, ◌∙◌}
use Rattle.laws.specs.Tests.{all}
use Rattle.image.specs.Bytes.{words}
use Rattle.image.specs.Kinds.{TypeKind, TermKind}
use Rattle.check_rules.proofs.OnDescriptors.{at_field_typed, on_descriptors}
use Rattle.read_terms.specs.Descriptors.{descriptor_is}
use Rattle.check_rules.proofs.Small.{two_first}
use Rattle.check_core.proofs.computing.check_arithmetic.Goals as goal
use Rattle.check_core.proofs.computing.check_arithmetic.Goals.{then-is_kind, else-is_kind, then-is_kind-2, else-is_kind-2}

pub returns : goal.returns
unfolding words all
returns c =
    λ p.
    let d : c.if-is_kind.value ≡ all (c.is_kind.result ∷ descriptor_is c.descriptor_at_field-first.result TypeKind.number ∷ []) = elim c.if-is_kind.branch [ then-is_kind w ↦ grind arith | else-is_kind w ↦ grind arith ] in
    let l : c.if-is_kind-2.judge ≡ all (c.if-is_kind.value ∷ descriptor_is c.descriptor_at_field-second.result TypeKind.number ∷ []) = elim c.if-is_kind-2.branch [ then-is_kind-2 w ↦ grind arith | else-is_kind-2 w ↦ grind arith ] in
    let e = l ∙ ap (λ v. all (v ∷ descriptor_is c.descriptor_at_field-second.result TypeKind.number ∷ [])) d ∙ two_first c.is_kind.result (descriptor_is c.descriptor_at_field-first.result TypeKind.number) (descriptor_is c.descriptor_at_field-second.result TypeKind.number) in
    c.judge.ensures ∙ simp (e, c.is_kind.ensures, c.result_kind.ensures, c.other_field.ensures, c.descriptor_at_field-first.ensures, c.descriptor_at_field-second.ensures, c.own_descriptor-own.ensures) (on_descriptors c.requires.0.types c.requires.1 c.args.at TermKind.arith p (at_field_typed c.requires.0 c.requires.2, (at_field_typed c.requires.0 c.requires.3, tt)))
