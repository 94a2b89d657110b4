-- `write_types::enter_type` meets its contract.
use borrow.Author.Rules.{rules}
use Prim.Native.Nat.{◌≤◌, ◌<◌}
use native.Mathlib.Omega.{arith}
use mathlib.Core.Path.{◌≡◌, refl, sym, ap, ◌∙◌}
use lib.ListN.{get_or}
use Rattle.image.specs.Kinds.{free}
use Rattle.image.specs.Layout.{records_of}
use Rattle.image.specs.Types.{type_field, type_of}
use Rattle.read_records.specs.Codes.{class_number}
use Rattle.image_written.specs.TypeParts.{parts_first}
use Rattle.image_written.specs.Table.{entered}
use Rattle.write_types.specs.Entries.{entries_of}
use Rattle.write_types.proofs.Located.{before, sorts_at, known, read, lower, class_type, before_all}
use Rattle.write_types.proofs.Entering.{told_there, there_entered, parts_there, all_entered, part_entered, no_part}
use Rattle.write_types.proofs.+enter_type.Goals as goal
use Rattle.write_types.proofs.+enter_type.Goals.{then-class_of-eq-CLASS_TYPE, else-class_of-eq-CLASS_TYPE}

pub returns-then-is_entered : goal.returns-then-is_entered
returns-then-is_entered t c =
    let E = c.requires.2 in
    let q = told_there E c.requires.3 _ c.is_entered.ensures in
    (E, there_entered E c.requires.3 (q ∙ c.if-is_entered.true))

pub known-known-requires : goal.known-known-requires
known-known-requires t c = (c.requires.0, rw (c.type_kind.ensures, c.type_fields-fields.ensures) (known c.requires.1 c.requires.3))

pub loop-i-init : goal.loop-i-init
unfolding entered before
loop-i-init t c = (c.requires.2, refl)

pub class_of-requires : goal.class_of-requires
class_of-requires t c =
    (read c.requires.1 c.requires.3 c.type_kind.ensures c.type_fields-fields.ensures c.known-known.ensures).asks c.loop-i.i (search rules)

pub field_as-part-requires : goal.field_as-part-requires
field_as-part-requires t c = (read c.requires.1 c.requires.3 c.type_kind.ensures c.type_fields-fields.ensures c.known-known.ensures).inside c.loop-i.i (search rules)

pub enter_type-m-requires : goal.enter_type-m-requires
enter_type-m-requires t c =
    let i = c.loop-i in
    let l : i.i < c.known-known.result.count = search rules in
    let f : c.field_as-part.result.0 ≡ type_field (records_of c.args.image.now) c.args.t.0 i.i = (read c.requires.1 c.requires.3 c.type_kind.ensures c.type_fields-fields.ensures c.known-known.ensures).number i.i l c.field_as-part.ensures in
    let e : class_number (get_or (sorts_at c.args.image.now c.args.t.0) i.i free) ≡ 0 = sym ((read c.requires.1 c.requires.3 c.type_kind.ensures c.type_fields-fields.ensures c.known-known.ensures).class i.i l c.class_of.ensures) ∙ c.if-class_of-eq-CLASS_TYPE.true in
    let d = lower c.requires.1 c.requires.3 i.i (class_type _ e) in
    let m = c.requires.0 in
    let h = c.requires.3 in
    (omega arith, (c.requires.0, c.requires.1, i.invariant.0, omega arith))

pub loop-i-preserved : goal.loop-i-preserved
loop-i-preserved t c =
    let i = c.loop-i in
    let l : i.i < c.known-known.result.count = search rules in
    let R = read c.requires.1 c.requires.3 c.type_kind.ensures c.type_fields-fields.ensures c.known-known.ensures in
    let n = R.count in
    let a = R.class i.i l c.class_of.ensures in
    elim c.if-class_of-eq-CLASS_TYPE.branch [
      | then-class_of-eq-CLASS_TYPE w ↦
          let v = w.enter_type-m in
          let f : type_field (records_of c.args.image.now) c.args.t.0 i.i ≡ w.field_as-part.result.0 = sym (R.number i.i l w.field_as-part.ensures) in
          let p = part_entered c.requires.1 c.requires.3 i.i (omega arith) _ _ (sym a ∙ w.if-class_of-eq-CLASS_TYPE.true) i.invariant.1 in
          rw (w.places-is, w.order-is, w.m-is) (v.ensures.0, v.ensures.1 ∙ ap (λ j. entered (entries_of c.args.image.now i.m i.order) (parts_first (type_of (records_of c.args.image.now) j))) (sym f) ∙ p)
      | else-class_of-eq-CLASS_TYPE w ↦
          rw (w.places-is, w.order-is, w.m-is) (i.invariant.0, i.invariant.1 ∙ ap (λ xs. entered (entries_of c.args.image.now c.args.n c.args.order.now) xs) (no_part c.requires.1 c.requires.3 i.i (omega arith) (λ z. w.if-class_of-eq-CLASS_TYPE.false (a ∙ z))))
    ]

pub enter_one-requires : goal.enter_one-requires
enter_one-requires t c =
    let l = c.loop-i in
    let g : c.known-known.result.count ≤ l.i = search rules in
    let n = (read c.requires.1 c.requires.3 c.type_kind.ensures c.type_fields-fields.ensures c.known-known.ensures).count in
    let e = before_all c.requires.1 c.requires.3 l.i (omega arith) in
    (l.invariant.0, c.requires.3, parts_there c.requires.2 l.invariant.0 c.requires.3 (l.invariant.1 ∙ ap (λ xs. entered (entries_of c.args.image.now c.args.n c.args.order.now) xs) e))

pub returns : goal.returns
returns t c =
    let v = c.enter_one in
    let l = c.loop-i in
    let g : c.known-known.result.count ≤ l.i = search rules in
    let n = (read c.requires.1 c.requires.3 c.type_kind.ensures c.type_fields-fields.ensures c.known-known.ensures).count in
    let e = before_all c.requires.1 c.requires.3 l.i (omega arith) in
    (v.ensures.0, v.ensures.1 ∙ all_entered c.requires.2 l.invariant.0 c.requires.3 (l.invariant.1 ∙ ap (λ xs. entered (entries_of c.args.image.now c.args.n c.args.order.now) xs) e))
