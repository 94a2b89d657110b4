use borrow.Author.Rules.{rules}
use Prim.Native.Nat.{ℕ, ◌≤◌, ◌<◌}
use native.Mathlib.Omega.{arith}
use mathlib.Core.Path.{◌≡◌, sym, ap, subst, ◌∙◌}
use lib.ListN.{length}
use Rattle.image.specs.Layout.{records_of}
use Rattle.image.specs.Types.{term_kind, children, root_of}
use Rattle.read_terms.proofs.Located.{good_of, number_is}
use Rattle.need_sums.specs.Sums.{cut_needs, no_needs}
use Rattle.need_sums.specs.Walks.{shape_of, role_at, own_needs}
use Rattle.need_sums.specs.declared.shapes.Own.{Own}
use Rattle.need_sums.specs.declared.positions.Mode.{Mode}
use Rattle.need_terms.proofs.Described.{match_three, read_off, kind_of_lem, part_of, count_of_lem, has_of, child_is, child_below, variables_in_lem, type_there, domain_in_lem}
use Rattle.need_walk.proofs.Walked.{skip_none, own_cut, domain_at, leaf_none, sum_start, choice_start, sum_turn, choice_turn, all_through}
use Rattle.verdict.specs.Acceptable.{IsChild}
use Rattle.need_walk.specs.Counted.{counted, term_at, Placed, Known}
use Rattle.need_walk.proofs.Positions.{child_placed, child_known, kept_row}
use Rattle.need_walk.proofs.+walk.Goals as goal

pub returns-then-eq : goal.returns-then-eq
returns-then-eq t c =
    let L = records_of c.args.image.now in
    let none : c.default.result ≡ no_needs = search rules in
    let skipped : c.args.at.position.mode ≡ Mode.Skip = search rules in
    none ∙ skip_none (term_at L (root_of L)) c.args.at.position (term_at L c.args.at.term.0) skipped

pub returns-then-kind-le-VARIABLE : goal.returns-then-kind-le-VARIABLE
returns-then-kind-le-VARIABLE t c =
    let m = number_is c.requires.0.terms c.requires.1 in
    let e = c.term_kind-kind.ensures in
    let k = c.if-kind-le-VARIABLE.true in
    let none : c.default-then-kind-le-VARIABLE.result ≡ no_needs = search rules in
    none ∙ leaf_none (records_of c.args.image.now) c.args.at.term.0 (omega arith) c.args.at.position

pub part_domain-p-requires : goal.part_domain-p-requires
part_domain-p-requires t c =
    let r = read_off c.requires.1 c.term_kind-kind.ensures c.term_fields-fields.ensures in
    (part_of c.requires.0.terms r, type_there c.requires.0 r)

pub branch_variables-v-requires : goal.branch_variables-v-requires
branch_variables-v-requires t c = part_of c.requires.0.terms (read_off c.requires.1 c.term_kind-kind.ensures c.term_fields-fields.ensures)

pub child_count-k-requires : goal.child_count-k-requires
child_count-k-requires t c = (part_of c.requires.0.terms (read_off c.requires.1 c.term_kind-kind.ensures c.term_fields-fields.ensures)).long

pub loop-j-init : goal.loop-j-init
loop-j-init t c =
    let L = (records_of c.args.image.now) in
    let S = c.args.at.position in
    let P = c.requires.2 in
    let deep = P.deep in
    let row = kept_row L S c.args.at.term.0 P in
    let m = c.at_mark in
    let own : ℕ → Own = λ n. (shape_of (term_kind L n)).own in
    let none : c.default-choice.result ≡ no_needs = search rules in (
    λ n r.
    let o = c.own_needs-sum.ensures
    ∙ (ap (λ x. own_needs x.own S c.part_domain-p.result.0 m.result) (c.shape_of-shape.ensures (term_kind (records_of c.args.image.now) n) (kind_of_lem c.requires.0.terms r))
    ∙ (ap (λ x. own_needs (own n) S x m.result) (domain_in_lem c.requires.0 r c.part_domain-p.result.0 c.part_domain-p.ensures)
    ∙ (ap (λ x. own_needs (own n) S (domain_at L n) x) m.ensures ∙ own_cut L S (omega arith) row (own n) (domain_at L n) c.args.each c.args.rows.now c.requires.3))) in
    (o ∙ sum_start L n S, none ∙ choice_start L n S)
    )

pub child_in-requires : goal.child_in-requires
child_in-requires t c =
    let r = read_off c.requires.1 c.term_kind-kind.ensures c.term_fields-fields.ensures in
    let h = c.loop-j-test.true in
    let k = (count_of_lem c.requires.0.terms r c.child_count-k.result c.child_count-k.ensures) in
    has_of c.requires.0.terms r c.loop-j.j (omega arith)

pub walk-x-requires : goal.walk-x-requires
walk-x-requires t c =
    let L = (records_of c.args.image.now) in
    let S = c.args.at.position in
    let n = c.args.at.term.0 in
    let j = c.loop-j.j in
    let role = c.role_at-role.result in
    let p = c.part_domain-p.result.0 in
    let e = c.child_in.result.0 in
    let q = c.child_position.ensures in
    let h = c.loop-j-test.true in
    let r = read_off c.requires.1 c.term_kind-kind.ensures c.term_fields-fields.ensures in
    let i = c.requires.1 in
    let k = (count_of_lem c.requires.0.terms r c.child_count-k.result c.child_count-k.ensures) in
    let low = child_below c.requires.0.terms r j e c.child_in.ensures (omega arith) in
    let w = c.args.each in
    let rows = c.args.rows.now in
    let child : IsChild L n j e = record { there = i; place = omega arith; is = sym (child_is c.requires.0.terms r j e c.child_in.ensures) } in
    let placed = child_placed L S n e p j role low child c.requires.2 in
    (rw (← c.decreases) low, (c.requires.0, omega arith, subst (λ y. Placed L y e) (sym q) placed, subst (λ y. Known L y w rows) (sym q) (child_known L S role p w rows c.requires.3)))

pub loop-j-preserved : goal.loop-j-preserved
loop-j-preserved t c =
    let L = (records_of c.args.image.now) in
    let S = c.args.at.position in
    let l = c.loop-j in
    let R = term_at L (root_of L) in
    let role = c.role_at-role.result in
    let p = c.part_domain-p.result.0 in
    let e = c.child_in.result.0 in
    let x = c.walk-x.result in
    let t' = c.loop-j-test.true in
    let hx = c.walk-x.ensures ∙ ap (λ y. cut_needs (counted R y (term_at L e))) c.child_position.ensures in
    let v = c.branch_variables-v in (
    λ n r.
    let k = (count_of_lem c.requires.0.terms r c.child_count-k.result c.child_count-k.ensures) in
    let h : l.j < length (children L n) = omega arith in
    let hr = c.role_at-role.ensures ∙ ap (λ y. role_at y l.j) (c.shape_of-shape.ensures (term_kind (records_of c.args.image.now) n) (kind_of_lem c.requires.0.terms r)) in
    let hp = (domain_in_lem c.requires.0 r c.part_domain-p.result.0 c.part_domain-p.ensures) in
    let he = child_is c.requires.0.terms r l.j e c.child_in.ensures in
    let so = l.invariant n r in
    (sum_turn L n S l.j h role p e x hr hp he hx l.sum c.added.result c.add-sum.result so.0 c.added.ensures c.add-sum.ensures, choice_turn L n S l.j h role p e x hr hp he hx l.choice v.result c.chosen.result c.dearer-choice.result so.1 (variables_in_lem c.requires.0.terms r c.branch_variables-v.result c.branch_variables-v.ensures.0) v.ensures.1 c.chosen.ensures c.dearer-choice.ensures)
    )

pub returns : goal.returns
returns t c =
    let L = (records_of c.args.image.now) in
    let n = c.args.at.term.0 in
    let l = c.loop-j in
    let r = read_off c.requires.1 c.term_kind-kind.ensures c.term_fields-fields.ensures in
    let so = l.invariant n r in
    let k = (count_of_lem c.requires.0.terms r c.child_count-k.result c.child_count-k.ensures) in
    let all = c.loop-j-test.false in
    let h : length (children L n) ≤ l.j = omega arith in
    all_through L n (good_of c.args.image.now c.requires.0.terms.laid_out) c.requires.1 (λ e. match_three c.requires.0.terms c.requires.1 e) c.args.at.position l.j h l.sum l.choice c.add.result so.0 so.1 c.add.ensures
