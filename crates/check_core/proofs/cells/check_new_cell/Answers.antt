-- `check_core::cells::check_new_cell` meets its contract.
use native.Mathlib.Omega.{arith}
use Rattle.std.specs.Prelude.{[], ◌∷◌, ◌≡◌, eqb}
use mathlib.Core.Path.{◌∙◌}
use Rattle.laws.specs.Tests.{all}
use Rattle.image.specs.Bytes.{words}
use Rattle.image.specs.Kinds.{TermKind}
use Rattle.check_rules.proofs.OnDescriptors.{at_field_typed, on_masks}
use Rattle.read_records.specs.Descriptors.{descriptor_field0}
use Rattle.check_core.proofs.cells.check_new_cell.Goals as goal
use Rattle.check_core.proofs.cells.check_new_cell.Goals.{then-is_kind, else-is_kind}

pub returns : goal.returns
unfolding words all
returns c =
    λ Γ.
    let e : c.if-is_kind.judge ≡ all (c.is_kind.result ∷ eqb (descriptor_field0 c.own_descriptor-own.result) c.type_at_field-first.result.0 ∷ []) = elim c.if-is_kind.branch [ then-is_kind w ↦ grind arith | else-is_kind w ↦ grind arith ] in
    c.judge.ensures ∙ simp (e, c.leq.ensures, c.second_domain.ensures, c.is_kind.ensures, c.type_at_field-first.ensures.0, c.own_descriptor-own.ensures) (on_masks c.requires.0.types c.requires.1 c.args.at TermKind.new_cell (record { context = Γ; dom = c.args.c.0 }) (at_field_typed c.requires.0 c.requires.2, tt) c.requires.3)
