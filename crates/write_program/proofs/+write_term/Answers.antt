-- `write_program::write_term` meets its contract.
use borrow.Author.Rules.{rules}
use Prim.Native.Nat.{◌+◌, ◌-◌, ◌<◌}
use native.Mathlib.Omega.{arith}
use mathlib.Core.Path.{◌≡◌, refl, ap, subst, ◌∙◌}
use lib.ListN.{length-set}
use lib.Seq.{length-take-le}
use Rattle.image.specs.Layout.{records_of}
use Rattle.write_fields.specs.Classes.{as_field}
use Rattle.image_written.specs.Written.{terms}
use Rattle.image_written.proofs.Sums.{weight}
use Rattle.image_written.proofs.Sizes.{term_size}
use Rattle.image_written.proofs.Fronts.{tree_at}
use Rattle.write_terms.proofs.Located.{known, read, child_lower}
use Rattle.write_program.specs.Writing.{Wrote}
use Rattle.write_program.proofs.Begun.{Come, Begun, come_none, begun_none, record_capacity, come_behind, few_terms, type_number_lem, child_capacity, child_number, come_child, begun_child, come_same, begun_kept, begun_all}
use Rattle.write_program.proofs.+write_term.Goals as goal
use Rattle.write_program.proofs.+write_term.Goals.{in-Some, in-None}

pub known-known-requires : goal.known-known-requires
known-known-requires t c = (c.requires.0, rw (c.term_kind-kind.ensures, c.term_fields-fields.ensures) (known c.requires.1 c.requires.2))

pub loop-i-init : goal.loop-i-init
loop-i-init t c = (refl, λ e h r R. (come_none c.requires.1 h c.args.done, begun_none c.requires.1 h c.args.places.now c.args.done c.args.out.now _))

pub class_of-class-requires : goal.class_of-class-requires
class_of-class-requires t c = (read c.requires.1 c.requires.2 c.term_kind-kind.ensures c.term_fields-fields.ensures c.known-known.ensures).asks c.loop-i.i (search rules)

pub field-v-requires : goal.field-v-requires
field-v-requires t c = (read c.requires.1 c.requires.2 c.term_kind-kind.ensures c.term_fields-fields.ensures c.known-known.ensures).inside c.loop-i.i (search rules)

pub write_term-d-requires : goal.write_term-d-requires
write_term-d-requires t c =
    let here = read c.requires.1 c.requires.2 c.term_kind-kind.ensures c.term_fields-fields.ensures c.known-known.ensures in
    let i = c.loop-i in
    let l : i.i < c.known-known.result.count = search rules in
    let n = here.count in
    let q = c.in-Some.ensures.0 in
    let a = here.class i.i l c.class_of-class.ensures in
    let v = here.number i.i l c.field-v.ensures in
    let d = child_lower c.requires.1 c.requires.2 i.i (omega arith) a v q in
    let r = child_capacity c.requires.1 c.requires.2 i.i (omega arith) a v q c.requires.4 (i.invariant.1 c.args.e.0 c.requires.2 c.requires.4 here).0 in
    let f = c.in-Some.ensures.1 in
    let m = c.decreases in
    let h = c.requires.2 in
    (omega arith, (c.requires.0, c.requires.1, omega arith, c.requires.3, rw (f, i.auto.out) r))

pub last_term-requires : goal.last_term-requires
last_term-requires t c =
    let here = read c.requires.1 c.requires.2 c.term_kind-kind.ensures c.term_fields-fields.ensures c.known-known.ensures in
    let i = c.loop-i in
    let l : i.i < c.known-known.result.count = search rules in
    let n = here.count in
    let a = here.class i.i l c.class_of-class.ensures in
    let v = here.number i.i l c.field-v.ensures in
    child_number c.requires.1 c.requires.2 i.i (omega arith) a v c.in-Some.ensures.0 c.requires.4 (i.invariant.1 c.args.e.0 c.requires.2 c.requires.4 here).0
    (c.write_term-d.ensures.1 ∙ ap (λ j. i.d.terms + terms (tree_at (records_of c.args.image.now) j)) c.in-Some.ensures.1)

pub offset_bounds-numbers-i : goal.offset_bounds-numbers-i
offset_bounds-numbers-i t c =
    let l : c.loop-i.i < c.known-known.result.count = c.loop-i-test.true in
    let f = (read c.requires.1 c.requires.2 c.term_kind-kind.ensures c.term_fields-fields.ensures c.known-known.ensures).few in
    search rules

pub bounds-numbers-i : goal.bounds-numbers-i
bounds-numbers-i t c =
    let l : c.loop-i.i < c.known-known.result.count = c.loop-i-test.true in
    let f = (read c.requires.1 c.requires.2 c.term_kind-kind.ensures c.term_fields-fields.ensures c.known-known.ensures).few in
    search rules

pub kept_number-requires : goal.kept_number-requires
kept_number-requires t c =
    let here = read c.requires.1 c.requires.2 c.term_kind-kind.ensures c.term_fields-fields.ensures c.known-known.ensures in
    let i = c.loop-i in
    let l : i.i < c.known-known.result.count = search rules in
    let n = here.count in
    λ z.
    let y = type_number_lem c.requires.1 c.requires.2 i.i (omega arith) (here.class i.i l c.class_of-class.ensures) (here.number i.i l c.field-v.ensures) z in
    let p = c.requires.3 in
    omega arith

pub as_field-requires : goal.as_field-requires
as_field-requires t c =
    let here = read c.requires.1 c.requires.2 c.term_kind-kind.ensures c.term_fields-fields.ensures c.known-known.ensures in
    let i = c.loop-i in
    let l : i.i < c.known-known.result.count = search rules in
    let n = here.count in
    let a = here.class i.i l c.class_of-class.ensures in
    let v = here.number i.i l c.field-v.ensures in
    let r = child_number c.requires.1 c.requires.2 i.i (omega arith) a v c.in-Some.ensures.0 c.requires.4 (i.invariant.1 c.args.e.0 c.requires.2 c.requires.4 here).0
    (c.write_term-d.ensures.1 ∙ ap (λ j. i.d.terms + terms (tree_at (records_of c.args.image.now) j)) c.in-Some.ensures.1) in
    let m = c.last_term.ensures in
    omega arith

pub loop-i-preserved : goal.loop-i-preserved
loop-i-preserved t c =
    let i = c.loop-i in
    let l : i.i < c.known-known.result.count = search rules in
    let f = (read c.requires.1 c.requires.2 c.term_kind-kind.ensures c.term_fields-fields.ensures c.known-known.ensures).few in
    let g = c.loop-i.invariant.0 in
    let class = c.class_of-class.ensures in
    let number = c.field-v.ensures in
    elim c.match-child_of.branch [
      | in-Some w ↦
          let q = w.in-Some.ensures.0 in
          let s = w.in-Some.ensures.1 in
          let r = w.write_term-d in
          let y = r.ensures.1 ∙ ap (λ j. i.d.terms + terms (tree_at (records_of c.args.image.now) j)) s in
          rw (w.out-is, w.numbers-is, w.d-is) (
            length-set i.numbers i.i w.as_field.result ∙ i.invariant.0,
            λ e h capacity' R.
                let n = R.count in
                let a = R.class i.i l class in
                let v = R.number i.i l number in
                let I = i.invariant.1 e h capacity' R in (
                  come_child c.requires.1 h i.i (omega arith) a v q I.0 (r.ensures.0 ∙ ap (λ j. i.d.at + weight term_size (tree_at (records_of c.args.image.now) j)) s) y,
                  begun_child c.requires.1 h i.i (omega arith) a v q (omega arith) capacity' I.0 I.1 (subst (λ j. Wrote c.args.image.now c.args.places.now j i.d i.out r.new.out) s r.ensures.2)
                      (w.as_field.ensures ∙ ap (λ m. as_field c.class_of-class.result m) w.last_term.ensures ∙ ap (λ z. as_field c.class_of-class.result (z - 1)) y),
                ),
          )
      | in-None w ↦
          rw (w.out-is, w.numbers-is, w.d-is) (
            length-set i.numbers i.i w.kept_number.result ∙ i.invariant.0,
            λ e h capacity' R.
                let n = R.count in
                let a = R.class i.i l class in
                let v = R.number i.i l number in
                let I = i.invariant.1 e h capacity' R in
                (come_same c.requires.1 h i.i (omega arith) a v w.in-None.ensures I.0, begun_kept c.requires.1 h i.i (omega arith) a v w.in-None.ensures (omega arith) I.1 w.kept_number.ensures),
          )
    ]

pub slice_bounds-numbers-end : goal.slice_bounds-numbers-end
slice_bounds-numbers-end t c =
    let f = (read c.requires.1 c.requires.2 c.term_kind-kind.ensures c.term_fields-fields.ensures c.known-known.ensures).few in
    let g = c.loop-i.invariant.0 in
    search rules

pub slice_bounds-put_term-end : goal.slice_bounds-put_term-end
slice_bounds-put_term-end t c =
    let f = (read c.requires.1 c.requires.2 c.term_kind-kind.ensures c.term_fields-fields.ensures c.known-known.ensures).few in
    let g = c.loop-i.invariant.0 in
    search rules

pub put_term-requires : goal.put_term-requires
put_term-requires t c =
    let here = read c.requires.1 c.requires.2 c.term_kind-kind.ensures c.term_fields-fields.ensures c.known-known.ensures in
    let i = c.loop-i in
    let f = here.few in
    let n = here.count in
    let g = c.loop-i.invariant.0 in
    let C = (i.invariant.1 c.args.e.0 c.requires.2 c.requires.4 here).0 in
    let r = record_capacity c.requires.1 c.requires.2 i.i c.requires.4 C in
    let k = length-take-le c.known-known.result.count i.numbers (omega arith) in
    (omega arith, omega arith, few_terms c.requires.1 c.requires.2 i.i c.requires.4 C)

pub returns : goal.returns
returns t c =
    let here = read c.requires.1 c.requires.2 c.term_kind-kind.ensures c.term_fields-fields.ensures c.known-known.ensures in
    let i = c.loop-i in
    let w = c.put_term.ensures in
    let g : i.i ≡ c.known-known.result.count = search rules in
    let f = here.few in
    let n = here.count in
    let u = c.loop-i.invariant.0 in
    let I = i.invariant.1 c.args.e.0 c.requires.2 c.requires.4 here in
    let p = come_behind c.requires.1 c.requires.2 i.i (omega arith) I.0 in
    let x = p.0 in
    let z = w.0 in
    let k = length-take-le c.known-known.result.count i.numbers (omega arith) in
    let C = subst (λ j. Come c.args.image.now c.args.e.0 j c.args.done i.d) g I.0 in
    let B = subst (λ j. Begun c.args.image.now c.args.places.now c.args.e.0 c.args.done j c.args.out.now i.out i.numbers) g I.1 in
    (omega arith, w.1 ∙ p.1, begun_all c.requires.1 c.requires.2 c.known-known.result.count c.term_kind-kind.result n (omega arith) c.term_kind-kind.ensures c.requires.4 C B w.2)
