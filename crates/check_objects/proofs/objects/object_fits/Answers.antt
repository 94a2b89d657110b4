-- `check_objects::objects::object_fits` meets its contract.
use mathlib.Core.Path.{◌≡◌, sym, ◌∙◌}
use mathlib.Core.Bool.{true, false}
use lib.ListN.{length}
use lib.Dec.{eqb}
use borrow.Author.Tests.{eq-eqb, ne_eqb, eqb-false}
use Rattle.image.specs.Kinds.{TermKind}
use Rattle.image.specs.Layout.{records_of}
use Rattle.image.specs.Types.{method_count}
use Rattle.verdict.specs.Rules.{bodies_fit}
use Rattle.verdict.specs.Check.{describe, described}
use Rattle.read_records.specs.Heads.{field_in}
use Rattle.read_terms.specs.Fields.{types_in}
use Rattle.laws.proofs.Booleans.{eq_of, no_path}
use Rattle.check_rules.proofs.Methods.{kind_seen, object_seen, first_fails, second_fails, third_tells, bodies_counted}
use Rattle.check_objects.proofs.objects.object_fits.Goals as goal
use Rattle.check_objects.proofs.objects.object_fits.Goals.{then-is_kind, else-is_kind}

pub method_count-requires : goal.method_count-requires
method_count-requires c =
    (c.requires.1, rw c.own_type-t.ensures (object_seen c.requires.0.types c.requires.2.type c.is_kind.ensures c.own_descriptor.ensures c.if-is_kind.true))

pub bodies_fit-requires : goal.bodies_fit-requires
bodies_fit-requires c = elim c.if-is_kind.branch [
  | then-is_kind w ↦
      let o = object_seen c.requires.0.types c.requires.2.type c.is_kind.ensures c.own_descriptor.ensures w.if-is_kind.true in
      let same : eqb w.bodies_in.result w.method_count.result ≡ true = sym w.value-is ∙ c.if-bodies_in-method_count.true in
      (c.requires.1, c.requires.0.terms, rw c.own_type-t.ensures o, c.requires.3, sym w.bodies_in.ensures ∙ (eq_of same ∙ w.method_count.ensures))
  | else-is_kind w ↦ no_path (sym c.if-bodies_in-method_count.true ∙ (w.value-is ∙ w.if-is_kind.false))
]

pub returns-then-bodies_in-method_count : goal.returns-then-bodies_in-method_count
returns-then-bodies_in-method_count c = elim c.if-is_kind.branch [
  | then-is_kind w ↦
      let a = c.args in
      let o = object_seen c.requires.0.types c.requires.2.type c.is_kind.ensures c.own_descriptor.ensures w.if-is_kind.true in
      let same : eqb w.bodies_in.result w.method_count.result ≡ true = sym w.value-is ∙ c.if-bodies_in-method_count.true in
      let m : w.method_count.result ≡ method_count (records_of a.image.now) (field_in a.fields.now 0) = rw c.own_type-t.ensures at w.method_count.ensures in
      let n = bodies_counted a.image.now a.fields.now in
      let f : c.bodies_fit.result ≡ bodies_fit (describe (records_of a.image.now) (field_in a.fields.now 0)) 0 (described (records_of a.image.now) (types_in a.image.now a.fields.now TermKind.obj)) = rw c.own_type-t.ensures at c.bodies_fit.ensures in
      λ p. f ∙ third_tells _ _ _ o.object (eq-eqb _ _ (n ∙ (sym w.bodies_in.ensures ∙ (eq_of same ∙ m))))
  | else-is_kind w ↦ no_path (sym c.if-bodies_in-method_count.true ∙ (w.value-is ∙ w.if-is_kind.false))
]

pub returns-else-bodies_in-method_count : goal.returns-else-bodies_in-method_count
returns-else-bodies_in-method_count c = elim c.if-is_kind.branch [
  | then-is_kind w ↦
      let a = c.args in
      let o = object_seen c.requires.0.types c.requires.2.type c.is_kind.ensures c.own_descriptor.ensures w.if-is_kind.true in
      let other : eqb w.bodies_in.result w.method_count.result ≡ false = sym w.value-is ∙ c.if-bodies_in-method_count.false in
      let m : w.method_count.result ≡ method_count (records_of a.image.now) (field_in a.fields.now 0) = rw c.own_type-t.ensures at w.method_count.ensures in
      let n = bodies_counted a.image.now a.fields.now in
      λ p. c.if-bodies_in-method_count.false ∙ second_fails _ _ _ o.object (ne_eqb (length (described (records_of a.image.now) (types_in a.image.now a.fields.now TermKind.obj))) (method_count (records_of a.image.now) (field_in a.fields.now 0)) (λ e. eqb-false _ _ other (w.bodies_in.ensures ∙ (sym n ∙ (e ∙ sym m)))))
  | else-is_kind w ↦ λ p. c.if-bodies_in-method_count.false ∙ first_fails _ _ _ (sym (kind_seen c.requires.0.types c.requires.2.type c.is_kind.ensures c.own_descriptor.ensures) ∙ w.if-is_kind.false)
]
