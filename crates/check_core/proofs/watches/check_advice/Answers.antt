-- `check_core::watches::check_advice` meets its contract.
use native.Mathlib.Omega.{arith}
use Rattle.std.specs.Prelude.{[], ◌∷◌, ◌≡◌}
use mathlib.Core.Path.{ap, ◌∙◌}
use Rattle.laws.specs.Tests.{all}
use Rattle.image.specs.Bytes.{words}
use Rattle.image.specs.Kinds.{TypeKind, TermKind}
use Rattle.check_rules.proofs.OnDescriptors.{at_field_typed, on_masks}
use Rattle.read_terms.specs.Descriptors.{descriptor_is}
use Rattle.check_rules.proofs.Small.{two_first}
use Rattle.check_core.proofs.watches.check_advice.Goals as goal
use Rattle.check_core.proofs.watches.check_advice.Goals.{then-is_kind, else-is_kind, then-is_kind-2, else-is_kind-2}

pub returns : goal.returns
unfolding words all
returns c =
    λ p.
    let d : c.if-is_kind.value ≡ all (c.is_kind.result ∷ descriptor_is c.descriptor_at_field-first.result TypeKind.pcd ∷ []) = elim c.if-is_kind.branch [ then-is_kind w ↦ grind arith | else-is_kind w ↦ grind arith ] in
    let l : c.if-is_kind-2.judge ≡ all (c.if-is_kind.value ∷ descriptor_is c.descriptor_at_field-second.result TypeKind.unit ∷ []) = elim c.if-is_kind-2.branch [ then-is_kind-2 w ↦ grind arith | else-is_kind-2 w ↦ grind arith ] in
    let e = l ∙ ap (λ v. all (v ∷ descriptor_is c.descriptor_at_field-second.result TypeKind.unit ∷ [])) d ∙ two_first c.is_kind.result (descriptor_is c.descriptor_at_field-first.result TypeKind.pcd) (descriptor_is c.descriptor_at_field-second.result TypeKind.unit) in
    c.judge.ensures ∙ simp (e, c.leq.ensures, c.second_domain.ensures, c.first_domain.ensures, c.is_kind.ensures, c.descriptor_at_field-second.ensures, c.descriptor_at_field-first.ensures, c.own_descriptor-own.ensures) (on_masks c.requires.0.types c.requires.1 c.args.at TermKind.adv p (at_field_typed c.requires.0 c.requires.2, (at_field_typed c.requires.0 c.requires.3, tt)) c.requires.4)
