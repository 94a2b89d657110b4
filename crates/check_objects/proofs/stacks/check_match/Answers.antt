-- `check_objects::stacks::check_match` meets its contract.
use native.Mathlib.Omega.{arith}
use Rattle.std.specs.Prelude.{◌≡◌, [], ◌∷◌, eqb}
use mathlib.Core.Path.{ap, ◌∙◌}
use Rattle.laws.specs.Tests.{all}
use Rattle.check_rules.proofs.Small.{three_behind}
use Rattle.check_rules.proofs.OnDescriptors.{match_right}
use Rattle.check_objects.proofs.stacks.check_match.Goals as goal
use Rattle.check_objects.proofs.stacks.check_match.Goals.{then-is_kind, else-is_kind, then-same_type, else-same_type, then-same_type-2, else-same_type-2}

pub returns : goal.returns
unfolding all
returns c =
    λ p.
    let t = c.own_type-t.result.0 in
    let x = eqb c.type_at_field-first.result.0 t in
    let y = eqb c.type_at_field-second.result.0 t in
    let fit = c.entries_fit-fit.result in
    let d : c.if-is_kind.value ≡ all (c.is_kind.result ∷ x ∷ []) = elim c.if-is_kind.branch [ then-is_kind w ↦ grind arith | else-is_kind w ↦ grind arith ] in
    let l : c.if-same_type.value ≡ all (c.if-is_kind.value ∷ y ∷ []) = elim c.if-same_type.branch [ then-same_type w ↦ grind arith | else-same_type w ↦ grind arith ] in
    let m : c.if-same_type-2.judge ≡ all (c.if-same_type.value ∷ fit ∷ []) = elim c.if-same_type-2.branch [ then-same_type-2 w ↦ grind arith | else-same_type-2 w ↦ grind arith ] in
    let e = m ∙ ap (λ v. all (v ∷ fit ∷ [])) (l ∙ ap (λ v. all (v ∷ y ∷ [])) d) ∙ three_behind c.is_kind.result x y fit in
    c.judge.ensures ∙ simp (e, c.is_kind.ensures, c.entries_fit-fit.ensures, c.type_at_field-second.ensures.0, c.type_at_field-first.ensures.0, c.descriptor_at_field-stack.ensures, c.own_type-t.ensures) (match_right c.requires.0 c.requires.1 c.requires.2 c.requires.3 c.requires.4 c.requires.5 c.args.at p)
