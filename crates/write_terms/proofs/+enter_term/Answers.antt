-- `write_terms::enter_term` meets its contract.
use borrow.Author.Rules.{rules}
use Prim.Native.Nat.{◌≤◌, ◌<◌}
use native.Mathlib.Omega.{arith}
use mathlib.Core.Path.{refl, ap, ◌∙◌}
use Rattle.image.specs.Layout.{records_of}
use Rattle.image.specs.Types.{type_of}
use Rattle.read_records.specs.Heads.{field_in}
use Rattle.read_terms.proofs.Located.{typed_in, type_in_lem}
use Rattle.image_written.specs.TypeParts.{parts_first}
use Rattle.image_written.specs.Table.{entered, types_in, types_in_all}
use Rattle.image_written.proofs.Fronts.{tree_at, trees}
use Rattle.write_types.specs.Entries.{entries_of}
use Rattle.write_terms.proofs.Located.{known, read, next_child, child_lower, next_same, walked_child, walked_all}
use Rattle.write_terms.proofs.+enter_term.Goals as goal
use Rattle.write_terms.proofs.+enter_term.Goals.{in-Some, in_default}

pub known-known-requires : goal.known-known-requires
known-known-requires t c = (c.requires.0, rw (c.term_kind.ensures, c.term_fields-fields.ensures) (known c.requires.2 c.requires.4))

pub loop-i-init : goal.loop-i-init
unfolding entered types_in
loop-i-init t c = (c.requires.3, λ e h R. refl)

pub class_of-requires : goal.class_of-requires
class_of-requires t c = (read c.requires.2 c.requires.4 c.term_kind.ensures c.term_fields-fields.ensures c.known-known.ensures).asks c.loop-i.i (search rules)

pub field-requires : goal.field-requires
field-requires t c = (read c.requires.2 c.requires.4 c.term_kind.ensures c.term_fields-fields.ensures c.known-known.ensures).inside c.loop-i.i (search rules)

pub enter_term-m-requires : goal.enter_term-m-requires
enter_term-m-requires t c =
    let here = read c.requires.2 c.requires.4 c.term_kind.ensures c.term_fields-fields.ensures c.known-known.ensures in
    let i = c.loop-i in
    let l : i.i < c.known-known.result.count = search rules in
    let n = here.count in
    let d = child_lower c.requires.2 c.requires.4 i.i (omega arith) (here.class i.i l c.class_of.ensures) (here.number i.i l c.field.ensures) c.in-Some.ensures.0 in
    let f = c.in-Some.ensures.1 in
    let m = c.decreases in
    let h = c.requires.4 in
    (omega arith, (c.requires.0, c.requires.1, c.requires.2, i.invariant.0, omega arith))

pub loop-i-preserved : goal.loop-i-preserved
loop-i-preserved t c =
    let here = entries_of c.args.image.now c.args.n c.args.order.now in
    let i = c.loop-i in
    let l : i.i < c.known-known.result.count = search rules in
    let class = c.class_of.ensures in
    let number = c.field.ensures in
    elim c.match-child_of.branch [
      | in-Some w ↦
          let r = w.enter_term-m.ensures in
          rw (w.places-is, w.order-is, w.m-is) (
            r.0,
            λ e h R.
                let n = R.count in
                let x = next_child c.requires.2 h i.i (omega arith) (R.class i.i l class) (R.number i.i l number) w.in-Some.ensures.0 in
                r.1 ∙ ap (λ j. entered (entries_of c.args.image.now i.m i.order) (types_in (tree_at (records_of c.args.image.now) j))) w.in-Some.ensures.1
                ∙ walked_child c.args.image.now e i.i _ here (entries_of c.args.image.now i.m i.order) x (i.invariant.1 e h R),
          )
      | in_default w ↦
          rw (w.places-is, w.order-is, w.m-is) (
            i.invariant.0,
            λ e h R.
                let n = R.count in
                i.invariant.1 e h R
                ∙ ap (λ es. entered here (types_in_all (trees (records_of c.args.image.now) es))) (next_same c.requires.2 h i.i (omega arith) (R.class i.i l class) (R.number i.i l number) w.in_default.ensures),
          )
    ]

pub own_type-requires : goal.own_type-requires
own_type-requires t c = rw c.term_fields-fields.ensures (typed_in c.requires.2 c.requires.4).long

pub enter_type-requires : goal.enter_type-requires
enter_type-requires t c =
    (c.requires.0, c.requires.1, c.loop-i.invariant.0, rw (c.own_type.ensures, c.term_fields-fields.ensures) (typed_in c.requires.2 c.requires.4).type)

pub returns : goal.returns
returns t c =
    let here = read c.requires.2 c.requires.4 c.term_kind.ensures c.term_fields-fields.ensures c.known-known.ensures in
    let v = c.enter_type in
    let l = c.loop-i in
    let g : c.known-known.result.count ≤ l.i = search rules in
    let n = here.count in
    let s = c.own_type.ensures ∙ ap (λ fs. field_in fs 0) c.term_fields-fields.ensures ∙ type_in_lem c.requires.2 c.requires.4 in
    (v.ensures.0, v.ensures.1 ∙ ap (λ j. entered (entries_of c.args.image.now l.m l.order) (parts_first (type_of (records_of c.args.image.now) j))) s ∙ walked_all c.requires.2 c.requires.4 l.i (entries_of c.args.image.now c.args.n c.args.order.now) (entries_of c.args.image.now l.m l.order) (omega arith) (l.invariant.1 c.args.e.0 c.requires.4 here))
