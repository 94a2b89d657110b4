-- `check_core::computing::check_byte` meets its contract.
use native.Mathlib.Omega.{arith}
use Rattle.std.specs.Prelude.{[], ◌∷◌, ◌≡◌}
use mathlib.Core.Path.{◌∙◌}
use Rattle.laws.specs.Tests.{all}
use Rattle.image.specs.Bytes.{words}
use Rattle.image.specs.Kinds.{TypeKind, TermKind}
use Rattle.check_rules.proofs.OnDescriptors.{at_field_typed, on_descriptors}
use Rattle.read_terms.specs.Descriptors.{descriptor_is}
use Rattle.check_core.proofs.computing.check_byte.Goals as goal
use Rattle.check_core.proofs.computing.check_byte.Goals.{then-is_kind, else-is_kind}

pub returns : goal.returns
unfolding words all
returns c =
    λ p.
    let e : c.if-is_kind.judge ≡ all (c.is_kind.result ∷ descriptor_is c.descriptor_at_field-first.result TypeKind.number ∷ []) = elim c.if-is_kind.branch [ then-is_kind w ↦ grind arith | else-is_kind w ↦ grind arith ] in
    c.judge.ensures ∙ simp (e, c.is_kind.ensures, c.descriptor_at_field-first.ensures, c.own_descriptor-own.ensures) (on_descriptors c.requires.0.types c.requires.1 c.args.at TermKind.byte p (at_field_typed c.requires.0 c.requires.2, tt))
