-- `write_sections::write_type` meets its contract.
use borrow.Author.Rules.{rules}
use Prim.Native.Nat.{◌<◌}
use native.Mathlib.Omega.{arith}
use mathlib.Core.Path.{◌≡◌, subst, ◌∙◌}
use lib.ListN.{length-set}
use lib.Seq.{length-take-le}
use Rattle.write_types.proofs.Located.{known, read}
use Rattle.write_sections.proofs.Numbered.{Numbered, size_is, type_number_lem, numbered_more, numbered_all}
use Rattle.write_sections.proofs.write_type.Goals as goal

pub known-known-requires : goal.known-known-requires
known-known-requires c =
    (c.requires.0, rw (c.type_kind-kind.ensures, c.type_fields-fields.ensures) (known c.requires.1 c.requires.2))

pub class_of-requires : goal.class_of-requires
class_of-requires c = (read c.requires.1 c.requires.2 c.type_kind-kind.ensures c.type_fields-fields.ensures c.known-known.ensures).asks c.loop-i.i (search rules)

pub field-requires : goal.field-requires
field-requires c = (read c.requires.1 c.requires.2 c.type_kind-kind.ensures c.type_fields-fields.ensures c.known-known.ensures).inside c.loop-i.i (search rules)

pub kept_number-requires : goal.kept_number-requires
kept_number-requires c =
    let here = read c.requires.1 c.requires.2 c.type_kind-kind.ensures c.type_fields-fields.ensures c.known-known.ensures in
    let i = c.loop-i in
    let l : i.i < c.known-known.result.count = search rules in
    let n = here.count in
    λ z.
    let y = type_number_lem c.requires.1 c.requires.2 i.i (omega arith) (here.class i.i l c.class_of.ensures) (here.number i.i l c.field.ensures) z in
    let p = c.requires.3 in
    omega arith

pub offset_bounds-numbers-i : goal.offset_bounds-numbers-i
offset_bounds-numbers-i c =
    let l : c.loop-i.i < c.known-known.result.count = search rules in
    let f = (read c.requires.1 c.requires.2 c.type_kind-kind.ensures c.type_fields-fields.ensures c.known-known.ensures).few in
    search rules

pub bounds-numbers-i : goal.bounds-numbers-i
bounds-numbers-i c =
    let l : c.loop-i.i < c.known-known.result.count = search rules in
    let f = (read c.requires.1 c.requires.2 c.type_kind-kind.ensures c.type_fields-fields.ensures c.known-known.ensures).few in
    omega arith

pub loop-i-preserved : goal.loop-i-preserved
loop-i-preserved c =
    let i = c.loop-i in
    let l : i.i < c.known-known.result.count = search rules in
    let f = (read c.requires.1 c.requires.2 c.type_kind-kind.ensures c.type_fields-fields.ensures c.known-known.ensures).few in
    let g = c.loop-i.invariant.0 in (
      length-set i.numbers i.i c.kept_number.result ∙ i.invariant.0,
      λ t h R.
          let n = R.count in
          numbered_more c.requires.1 h i.i (omega arith) (R.class i.i l c.class_of.ensures) (R.number i.i l c.field.ensures) (omega arith) (i.invariant.1 t h R) c.kept_number.ensures,
    )

pub slice_bounds-numbers-end : goal.slice_bounds-numbers-end
slice_bounds-numbers-end c =
    let f = (read c.requires.1 c.requires.2 c.type_kind-kind.ensures c.type_fields-fields.ensures c.known-known.ensures).few in
    let g = c.loop-i.invariant.0 in
    search rules

pub slice_bounds-put_record-end : goal.slice_bounds-put_record-end
slice_bounds-put_record-end c =
    let f = (read c.requires.1 c.requires.2 c.type_kind-kind.ensures c.type_fields-fields.ensures c.known-known.ensures).few in
    let g = c.loop-i.invariant.0 in
    search rules

pub put_record-requires : goal.put_record-requires
put_record-requires c =
    let here = read c.requires.1 c.requires.2 c.type_kind-kind.ensures c.type_fields-fields.ensures c.known-known.ensures in
    let f = here.few in
    let n = here.count in
    let g = c.loop-i.invariant.0 in
    let z = size_is c.requires.1 c.requires.2 in
    let r = c.requires.4 in
    let k = length-take-le c.known-known.result.count c.loop-i.numbers (omega arith) in
    (omega arith, omega arith)

pub returns : goal.returns
returns c =
    let here = read c.requires.1 c.requires.2 c.type_kind-kind.ensures c.type_fields-fields.ensures c.known-known.ensures in
    let i = c.loop-i in
    let w = c.put_record.ensures in
    let g : i.i ≡ c.known-known.result.count = search rules in
    let f = here.few in
    let u = c.loop-i.invariant.0 in
    let n = here.count in
    let z = size_is c.requires.1 c.requires.2 in
    let k = length-take-le c.known-known.result.count i.numbers (omega arith) in
    let x = w.0 in
    let N = subst (λ j. Numbered c.args.image.now c.args.table.now.places c.args.t.0 j i.numbers) g (i.invariant.1 c.args.t.0 c.requires.2 here) in
    (omega arith, numbered_all c.requires.1 c.requires.2 c.known-known.result.count c.type_kind-kind.result _ (omega arith) c.type_kind-kind.ensures N w.1)
