-- `check_objects::objects::call_fits` meets its contract.
use mathlib.Core.Path.{◌≡◌, sym, ap, ◌∙◌}
use mathlib.Core.Bool.{true}
use native.Mathlib.Omega.{arith}
use lib.Dec.{eqb, ltb}
use Rattle.laws.proofs.Booleans.{lt_of, no_path}
use Rattle.check_rules.proofs.Methods.{kind_seen, object_seen, first_fails, second_fails, third_tells}
use Rattle.check_objects.proofs.objects.call_fits.Goals as goal
use Rattle.check_objects.proofs.objects.call_fits.Goals.{then-is_kind, else-is_kind}

pub method_count-requires : goal.method_count-requires
method_count-requires c =
    (c.requires.1, object_seen c.requires.0 c.requires.2 c.is_kind.ensures c.type_descriptor.ensures c.if-is_kind.true)

pub method_type-requires : goal.method_type-requires
method_type-requires c = elim c.if-is_kind.branch [
  | then-is_kind w ↦
      let more : ltb c.args.m w.method_count.result ≡ true = sym w.value-is ∙ c.if-m-method_count.true in
      (c.requires.1, object_seen c.requires.0 c.requires.2 c.is_kind.ensures c.type_descriptor.ensures w.if-is_kind.true, omega (arith, lt_of more, w.method_count.ensures))
  | else-is_kind w ↦ no_path (sym c.if-m-method_count.true ∙ (w.value-is ∙ w.if-is_kind.false))
]

pub returns-then-m-method_count : goal.returns-then-m-method_count
returns-then-m-method_count c = elim c.if-is_kind.branch [
  | then-is_kind w ↦
      let o = object_seen c.requires.0 c.requires.2 c.is_kind.ensures c.type_descriptor.ensures w.if-is_kind.true in
      c.same_type.ensures ∙ (ap (λ x. eqb x c.args.t.0) c.method_type.ensures ∙ third_tells _ _ _ o.object (rw w.method_count.ensures at (sym w.value-is ∙ c.if-m-method_count.true)))
  | else-is_kind w ↦ no_path (sym c.if-m-method_count.true ∙ (w.value-is ∙ w.if-is_kind.false))
]

pub returns-else-m-method_count : goal.returns-else-m-method_count
returns-else-m-method_count c = elim c.if-is_kind.branch [
  | then-is_kind w ↦
      let o = object_seen c.requires.0 c.requires.2 c.is_kind.ensures c.type_descriptor.ensures w.if-is_kind.true in
      c.if-m-method_count.false ∙ second_fails _ _ _ o.object (rw w.method_count.ensures at (sym w.value-is ∙ c.if-m-method_count.false))
  | else-is_kind w ↦ c.if-m-method_count.false ∙ first_fails _ _ _ (sym (kind_seen c.requires.0 c.requires.2 c.is_kind.ensures c.type_descriptor.ensures) ∙ w.if-is_kind.false)
]
