-- `check_core::computing::check_choice` meets its contract.
use native.Mathlib.Omega.{arith}
use Rattle.std.specs.Prelude.{[], ◌∷◌, ◌≡◌, eqb}
use mathlib.Core.Path.{ap, ◌∙◌}
use Rattle.laws.specs.Tests.{all}
use Rattle.image.specs.Bytes.{words}
use Rattle.image.specs.Kinds.{TermKind}
use Rattle.check_rules.proofs.OnDescriptors.{at_field_typed, on_descriptors}
use Rattle.check_rules.proofs.Small.{two_first}
use Rattle.check_core.proofs.computing.check_choice.Goals as goal
use Rattle.check_core.proofs.computing.check_choice.Goals.{then-is_kind, else-is_kind, then-same_type, else-same_type}

pub returns : goal.returns
unfolding words all
returns c =
    λ p.
    let d : c.if-is_kind.value ≡ all (c.is_kind.result ∷ eqb c.type_at_field-second.result.0 c.own_type-t.result.0 ∷ []) = elim c.if-is_kind.branch [ then-is_kind w ↦ grind arith | else-is_kind w ↦ grind arith ] in
    let l : c.if-same_type.judge ≡ all (c.if-is_kind.value ∷ eqb c.type_at_field-third.result.0 c.own_type-t.result.0 ∷ []) = elim c.if-same_type.branch [ then-same_type w ↦ grind arith | else-same_type w ↦ grind arith ] in
    let e = l ∙ ap (λ v. all (v ∷ eqb c.type_at_field-third.result.0 c.own_type-t.result.0 ∷ [])) d ∙ two_first c.is_kind.result (eqb c.type_at_field-second.result.0 c.own_type-t.result.0) (eqb c.type_at_field-third.result.0 c.own_type-t.result.0) in
    c.judge.ensures ∙ simp (e, c.is_kind.ensures, c.descriptor_at_field-first.ensures, c.type_at_field-second.ensures.0, c.type_at_field-third.ensures.0, c.own_type-t.ensures) (on_descriptors c.requires.0.types c.requires.1 c.args.at TermKind.ite p (at_field_typed c.requires.0 c.requires.2, (at_field_typed c.requires.0 c.requires.3, (at_field_typed c.requires.0 c.requires.4, tt))))
