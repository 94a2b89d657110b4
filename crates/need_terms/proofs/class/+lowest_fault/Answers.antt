use Prim.Native.Nat.{ℕ, ◌≤◌, ◌<◌}
use native.Mathlib.Omega.{arith}
use mathlib.Core.Path.{◌≡◌, ap, ◌∙◌}
use mathlib.Core.Bool.{true, false}
use lib.ListN.{length}
use Rattle.calculus.specs.Combinators.{choose}
use Rattle.image.specs.Kinds.{term_row}
use Rattle.image.specs.Layout.{records_of}
use Rattle.image.specs.Types.{term_kind, children}
use Rattle.read_terms.proofs.Located.{good_of, number_is}
use Rattle.need_terms.proofs.Described.{read_off, kind_of_lem, part_of, count_of_lem, has_of, child_is, child_below}
use Rattle.need_terms.specs.First.{first_child}
use Rattle.need_terms.proofs.Lowest.{first_there, least_start, least_turn, least_whole}
use Rattle.need_terms.proofs.class.+lowest_fault.Goals as goal
use Rattle.need_terms.proofs.class.+lowest_fault.Goals.{Joined-ok, then-ok, else-ok}

pub first_child-requires : goal.first_child-requires
first_child-requires t c = part_of c.requires.0 (read_off c.requires.1 c.term_kind-kind.ensures c.term_fields-fields.ensures)

pub term_kind-requires : goal.term_kind-requires
term_kind-requires t c =
    let T = c.requires.0 in
    let r = read_off c.requires.1 c.term_kind-kind.ensures c.term_fields-fields.ensures in
    let e = c.first_child.result.0 in
    (T, first_there T c.requires.1 e (child_is T r 0 e c.first_child.ensures))

pub child_count-k-requires : goal.child_count-k-requires
child_count-k-requires t c = (part_of c.requires.0 (read_off c.requires.1 c.term_kind-kind.ensures c.term_fields-fields.ensures)).long

own_fault : (t : ℕ) (c : Joined-ok t) → c.if-ok.least.0 ≡ choose c.is_permitted-ok.result (length (records_of c.args.image.now).terms) c.args.n.0
own_fault t c =
    elim c.if-ok.branch [
      | then-ok w ↦ rw w.if-ok.true (ap (λ x. x.0) w.least-is ∙ c.requires.2)
      | else-ok w ↦ rw w.if-ok.false (ap (λ x. x.0) w.least-is)
    ]

pub loop-j-init : goal.loop-j-init
loop-j-init t c =
    least_start (records_of c.args.image.now) c.args.outside c.args.n.0 c.is_permitted-ok.result c.if-ok.least.0 c.requires.1 (own_fault t c)

pub child_in-e-requires : goal.child_in-e-requires
child_in-e-requires t c =
    let T = c.requires.0 in
    let r = read_off c.requires.1 c.term_kind-kind.ensures c.term_fields-fields.ensures in
    let h = c.loop-j-test.true in
    let k = count_of_lem T r c.child_count-k.result c.child_count-k.ensures in
    has_of T r c.loop-j.j (omega arith)

pub lowest_fault-f-requires : goal.lowest_fault-f-requires
lowest_fault-f-requires t c =
    let T = c.requires.0 in
    let r = read_off c.requires.1 c.term_kind-kind.ensures c.term_fields-fields.ensures in
    let h = c.loop-j-test.true in
    let k = count_of_lem T r c.child_count-k.result c.child_count-k.ensures in
    let low = child_below T r c.loop-j.j c.child_in-e.result.0 c.child_in-e.ensures (omega arith) in
    let i = c.requires.1 in
    (rw (← c.decreases) low, (T, omega arith, c.requires.2))

pub loop-j-preserved : goal.loop-j-preserved
loop-j-preserved t c =
    let L = records_of c.args.image.now in
    let T = c.requires.0 in
    let r = read_off c.requires.1 c.term_kind-kind.ensures c.term_fields-fields.ensures in
    let n = c.args.n.0 in
    let l = c.loop-j in
    let e = c.child_in-e.result.0 in
    let h = c.loop-j-test.true in
    let k = count_of_lem T r c.child_count-k.result c.child_count-k.ensures in
    let g : l.j < length (children L n) = omega arith in
    least_turn L c.args.outside n c.if-ok.least.0 l.j g c.is_outside.result e l.least.0 c.lowest_fault-f.result.0 c.min.result (c.is_outside.ensures (term_kind L n) (kind_of_lem T r)) (child_is T r l.j e c.child_in-e.ensures) c.lowest_fault-f.ensures l.invariant c.min.ensures

pub returns : goal.returns
returns t c =
    let L = records_of c.args.image.now in
    let T = c.requires.0 in
    let r = read_off c.requires.1 c.term_kind-kind.ensures c.term_fields-fields.ensures in
    let n = c.args.n.0 in
    let l = c.loop-j in
    let ok = c.is_permitted-ok in
    let all = c.loop-j-test.false in
    let k = count_of_lem T r c.child_count-k.result c.child_count-k.ensures in
    let g : length (children L n) ≤ l.j = omega arith in
    let first = child_is T r 0 c.first_child.result.0 c.first_child.ensures in
    let there = first_there T c.requires.1 c.first_child.result.0 first in
    let number = c.term_kind.ensures ∙ (number_is T there ∙ ap (λ x. (term_row (term_kind L x)).number) first) in
    least_whole L c.args.outside n (good_of c.args.image.now T.laid_out) c.requires.1 l.j g ok.result c.if-ok.least.0 l.least.0 (ok.ensures (term_kind L n) (term_kind L (first_child L n)) (kind_of_lem T r) number) (own_fault t (goal.at.returns t c).Joined-ok) l.invariant
