-- `check_core::computing::check_sequence` meets its contract.
use Rattle.std.specs.Prelude.{◌≡◌, [], ◌∷◌, eqb}
use native.Mathlib.Omega.{arith}
use Rattle.image.specs.Bytes.{words}
use Rattle.image.specs.Kinds.{TermKind}
use Rattle.laws.specs.Tests.{all}
use Rattle.check_rules.proofs.OnDescriptors.{at_field_typed, on_descriptors}
use mathlib.Core.Path.{◌∙◌}
use Rattle.check_core.proofs.computing.check_sequence.Goals as goal
use Rattle.check_core.proofs.computing.check_sequence.Goals.{then-is_kind, else-is_kind}

pub returns : goal.returns
unfolding words all
returns c =
    λ p.
    let e : c.if-is_kind.judge ≡ all (c.is_kind.result ∷ eqb c.type_at_field-second.result.0 c.own_type-t.result.0 ∷ []) = elim c.if-is_kind.branch [ then-is_kind w ↦ grind arith | else-is_kind w ↦ grind arith ] in
    c.judge.ensures ∙ simp (e, c.is_kind.ensures, c.type_at_field-second.ensures.0, c.descriptor_at_field-first.ensures, c.own_type-t.ensures) (on_descriptors c.requires.0.types c.requires.1 c.args.at TermKind.seq p (at_field_typed c.requires.0 c.requires.2, (at_field_typed c.requires.0 c.requires.3, tt)))
