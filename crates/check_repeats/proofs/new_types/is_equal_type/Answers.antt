-- `check_repeats::new_types::is_equal_type` meets its contract.
use mathlib.Core.Path.{◌≡◌, sym, ap, ◌∙◌}
use lib.ListN.{get_or}
use borrow.Author.Tests.{eq-eqb}
use Rattle.read_records.specs.Heads.{fields_at}
use Rattle.read_records.specs.Descriptors.{descriptor_kind}
use Rattle.check_repeats.specs.NewTypes.{same_fields}
use Rattle.check_repeats.proofs.new_types.is_equal_type.Goals as goal

pub fields_at-requires : goal.fields_at-requires
fields_at-requires c = rw c.type_offset.ensures c.requires.2

pub returns-then-descriptor_kind-eq-OBJECT_TYPE : goal.returns-then-descriptor_kind-eq-OBJECT_TYPE
returns-then-descriptor_kind-eq-OBJECT_TYPE c =
    let a = c.args in
    let h : c.same_fields.result ≡ same_fields a.fields.now (fields_at a.image.now (get_or a.types.now a.u.0 0)) = c.same_fields.ensures ∙ ap (same_fields a.fields.now) (c.fields_at.ensures ∙ ap (fields_at a.image.now) c.type_offset.ensures) in
    simp (eq-eqb _ _ (c.if-descriptor-type_descriptor.false ∙ c.type_descriptor.ensures), eq-eqb _ _ (sym c.descriptor_kind.ensures ∙ c.if-descriptor_kind-eq-OBJECT_TYPE.true)) h
