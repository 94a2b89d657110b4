-- `need_rows::add_branches` and `add_pieces` meet their contracts.
use Prim.Native.Nat.{ℕ, ◌+◌, ◌<◌}
use native.Mathlib.Omega.{arith}
use mathlib.Core.Path.{◌≡◌, sym, ap, subst, ◌∙◌}
use mathlib.Core.Bool.{true}
use lib.ListN.{length, get_or}
use Rattle.image.specs.Layout.{records_of}
use Rattle.image.specs.Types.{children, term_kind}
use Rattle.verdict.specs.Acceptable.{IsChild}
use Rattle.read_terms.proofs.Located.{good_of, number_is}
use Rattle.need_sums.specs.Walks.{role_at, is_branch, shape_of}
use Rattle.need_terms.proofs.Described.{match_three, read_off, part_of, has_of, type_there, kind_of_lem, count_of_lem, child_is, child_below, domain_in_lem}
use Rattle.need_walk.specs.Counted.{Placed}
use Rattle.need_walk.proofs.Positions.{child_placed}
use Rattle.need_walk.proofs.Walked.{leaf_takes}
use Rattle.need_rows.specs.Pieces.{keeping_more, in_row, piece_at, of_advice}
use Rattle.need_rows.proofs.Pieces.{nothing_added}
use Rattle.need_rows.proofs.Children.{child_of_advice, dearer_added, Through, none_through, plain_turn, branch_turn, without_branches, with_branches}
use mathlib.Core.List.{List}
use Rattle.image.specs.Kinds.{TermKind, term_row}
use Rattle.read_terms.specs.Fields.{children_in}
use Rattle.need_terms.specs.GivenToChildren.{HasFields}
use Rattle.read_terms.specs.Lent.{Lent, IsTerm}
use Rattle.need_sums.specs.declared.positions.Position.{Position}
use Rattle.need_rows.proofs.TwoBranches.{branch_position, three_children}
use Rattle.need_rows.proofs.+add_branches_add_pieces.Goals as goal
use Rattle.need_rows.proofs.+add_branches_add_pieces.Goals.{add_pieces-then-not-is_branch, add_pieces-else-not-is_branch}

-- A branch is lower than its term, and stands where the term does.
branch_there : {image terms descriptors : List ℕ} {n kind : ℕ} {fields : List ℕ} {S : Position} → Lent image terms descriptors → IsTerm image n → Placed (records_of image) S n
    → HasFields image n kind fields → is_branch S (shape_of (term_kind (records_of image) n)).second ≡ true → (j e : ℕ) → j < 3
    → ((k : TermKind) → kind ≡ (term_row k).number → e ≡ get_or (children_in fields k) j 0) → (e < n) × Placed (records_of image) S e
branch_there {image} {n = n} {S = S} lent there placed r b j e l e-read =
    let L = records_of image in
    let three = three_children L (good_of image lent.terms.laid_out) n there S b in
    let low = child_below lent.terms r j e e-read (omega arith) in
    let child : IsChild L n j e = record { there = there; place = omega arith; is = sym (child_is lent.terms r j e e-read) } in
    let role = (shape_of (term_kind L n)).second in
    (low, subst (λ y. Placed L y e) (branch_position S role 0 b) (child_placed L S n e 0 j role low child placed))

pub add_branches-returns : goal.add_branches-returns
add_branches-returns t c =
    let a = c.args in
    let L = records_of a.image.now in
    dearer_added (piece_at (in_row L a.s a.both.first.0)) (piece_at (in_row L a.s a.both.second.0)) a.rows.now c.add_pieces.new.rows c.add_pieces-2.new.rows c.raise_rows.new.rows c.add_pieces.ensures c.add_pieces-2.ensures c.raise_rows.ensures

pub add_pieces-returns-then-kind-le-VARIABLE : goal.add_pieces-returns-then-kind-le-VARIABLE
add_pieces-returns-then-kind-le-VARIABLE t c =
    let L = records_of c.args.image.now in
    let n = c.args.n.0 in
    let k = c.if-kind-le-VARIABLE.true in
    let e = c.term_kind-kind.ensures in
    let m = number_is c.requires.0.terms c.requires.1 in
    nothing_added (in_row L c.args.s n) (λ i. leaf_takes L n (omega arith) (keeping_more i c.args.s)) c.args.rows.now

pub add_pieces-part_domain-p-requires : goal.add_pieces-part_domain-p-requires
add_pieces-part_domain-p-requires t c =
    let r = read_off c.requires.1 c.term_kind-kind.ensures c.term_fields-fields.ensures in
    (part_of c.requires.0.terms r, type_there c.requires.0 r)

pub add_pieces-child_count-k-requires : goal.add_pieces-child_count-k-requires
add_pieces-child_count-k-requires t c =
    let r = read_off c.requires.1 c.term_kind-kind.ensures c.term_fields-fields.ensures in
    (part_of c.requires.0.terms r).long

pub add_pieces-loop-j-init : goal.add_pieces-loop-j-init
add_pieces-loop-j-init t c =
    λ n r. none_through (records_of c.args.image.now) n c.args.s c.shape_of-shape.result.own c.args.rows.now (ap (λ y. y.own) (c.shape_of-shape.ensures (term_kind (records_of c.args.image.now) n) (kind_of_lem c.requires.0.terms r))) c.requires.3

pub add_pieces-child_in-e-requires : goal.add_pieces-child_in-e-requires
add_pieces-child_in-e-requires t c =
    let r = read_off c.requires.1 c.term_kind-kind.ensures c.term_fields-fields.ensures in
    let h = c.loop-j-test.true in
    let k = (count_of_lem c.requires.0.terms r c.child_count-k.result c.child_count-k.ensures) in
    has_of c.requires.0.terms r c.loop-j.j (omega arith)

pub add_pieces-add_pieces-requires : goal.add_pieces-add_pieces-requires
add_pieces-add_pieces-requires t c =
    let L = records_of c.args.image.now in
    let S = c.args.s in
    let n = c.args.n.0 in
    let j = c.loop-j.j in
    let role = c.role_at-role.result in
    let p = c.part_domain-p.result.0 in
    let e = c.child_in-e.result.0 in
    let q = c.child_position-q.ensures in
    let r = read_off c.requires.1 c.term_kind-kind.ensures c.term_fields-fields.ensures in
    let h = c.loop-j-test.true in
    let low = (let k = (count_of_lem c.requires.0.terms r c.child_count-k.result c.child_count-k.ensures) in child_below c.requires.0.terms r j e c.child_in-e.ensures (omega arith)) in
    let i = c.requires.1 in
    let k = (count_of_lem c.requires.0.terms r c.child_count-k.result c.child_count-k.ensures) in
    let is-t = c.decreases in
    let child : IsChild L n j e = record { there = i; place = omega arith; is = sym (child_is c.requires.0.terms r j e c.child_in-e.ensures) } in
    let placed = child_placed L S n e p j role low child c.requires.2 in
    (omega arith, (c.requires.0, omega arith, subst (λ y. Placed L y e) (sym q) placed, subst (λ y. of_advice y.mode ≡ true) (sym q) (child_of_advice S role p c.requires.3)))

pub add_pieces-loop-j-preserved : goal.add_pieces-loop-j-preserved
add_pieces-loop-j-preserved t c =
    let L = records_of c.args.image.now in
    let S = c.args.s in
    let l = c.loop-j in
    let role = c.role_at-role.result in
    let own = c.shape_of-shape.result.own in
    let before = c.args.rows.now in
    let t' = c.loop-j-test.true in
    let b = c.is_branch in
    λ n r.
    let k = count_of_lem c.requires.0.terms r c.child_count-k.result c.child_count-k.ensures in
    let h : l.j < length (children L n) = omega arith in
    let hr = c.role_at-role.ensures ∙ ap (λ y. role_at y l.j) (c.shape_of-shape.ensures (term_kind (records_of c.args.image.now) n) (kind_of_lem c.requires.0.terms r)) in
    elim c.if-not-is_branch.branch [
      | add_pieces-then-not-is_branch w ↦ subst (Through L n S own before (l.j + 1)) (sym w.rows-is) (plain_turn L n S own before l.j h role hr l.rows (l.invariant n r) c.part_domain-p.result.0 w.child_in-e.result.0 (domain_in_lem c.requires.0 r c.part_domain-p.result.0 c.part_domain-p.ensures) (child_is c.requires.0.terms r l.j w.child_in-e.result.0 w.child_in-e.ensures) w.child_position-q.result w.child_position-q.ensures (sym b.ensures ∙ w.if-not-is_branch.true) _ w.add_pieces.ensures)
      | add_pieces-else-not-is_branch w ↦ subst (Through L n S own before (l.j + 1)) (sym w.rows-is) (branch_turn L n S own before l.j h role hr l.rows (l.invariant n r) (sym b.ensures ∙ w.if-not-is_branch.false))
    ]

pub add_pieces-child_in-requires : goal.add_pieces-child_in-requires
add_pieces-child_in-requires t c =
    let r = read_off c.requires.1 c.term_kind-kind.ensures c.term_fields-fields.ensures in
    let three = (three_children (records_of c.args.image.now) (good_of c.args.image.now c.requires.0.terms.laid_out) c.args.n.0 c.requires.1 c.args.s (sym (ap (λ y. is_branch c.args.s y.second) (c.shape_of-shape.ensures (term_kind (records_of c.args.image.now) c.args.n.0) (kind_of_lem c.requires.0.terms r))) ∙ (sym c.is_branch-2.ensures ∙ c.if-is_branch.true))) in
    has_of c.requires.0.terms r 1 (omega arith)

pub add_pieces-child_in-requires-then-is_branch : goal.add_pieces-child_in-requires-then-is_branch
add_pieces-child_in-requires-then-is_branch t c =
    let r = read_off c.requires.1 c.term_kind-kind.ensures c.term_fields-fields.ensures in
    let three = (three_children (records_of c.args.image.now) (good_of c.args.image.now c.requires.0.terms.laid_out) c.args.n.0 c.requires.1 c.args.s (sym (ap (λ y. is_branch c.args.s y.second) (c.shape_of-shape.ensures (term_kind (records_of c.args.image.now) c.args.n.0) (kind_of_lem c.requires.0.terms r))) ∙ (sym c.is_branch-2.ensures ∙ c.if-is_branch.true))) in
    has_of c.requires.0.terms r 2 (omega arith)

pub add_pieces-add_branches-requires : goal.add_pieces-add_branches-requires
add_pieces-add_branches-requires t c =
    let r = read_off c.requires.1 c.term_kind-kind.ensures c.term_fields-fields.ensures in
    let b = sym (ap (λ y. is_branch c.args.s y.second) (c.shape_of-shape.ensures (term_kind (records_of c.args.image.now) c.args.n.0) (kind_of_lem c.requires.0.terms r))) ∙ (sym c.is_branch-2.ensures ∙ c.if-is_branch.true) in
    let first = branch_there c.requires.0 c.requires.1 c.requires.2 r b 1 c.child_in.result.0 (omega arith) c.child_in.ensures in
    let second = branch_there c.requires.0 c.requires.1 c.requires.2 r b 2 c.child_in-then-is_branch.result.0 (omega arith) c.child_in-then-is_branch.ensures in
    let a = first.0 in
    let z = second.0 in
    let i = c.requires.1 in
    let is-t = c.decreases in
    (omega arith, (c.requires.0, (omega arith, first.1), (omega arith, second.1), c.requires.3))

pub add_pieces-returns-then-is_branch : goal.add_pieces-returns-then-is_branch
add_pieces-returns-then-is_branch t c =
    let L = records_of c.args.image.now in
    let n = c.args.n.0 in
    let l = c.loop-j in
    let r = read_off c.requires.1 c.term_kind-kind.ensures c.term_fields-fields.ensures in
    let k = (count_of_lem c.requires.0.terms r c.child_count-k.result c.child_count-k.ensures) in
    let all = c.loop-j-test.false in
    let in_range_lem = c.loop-j.auto.j-end in
    let h : l.j ≡ length (children L n) = omega arith in
    let b = (sym (ap (λ y. is_branch c.args.s y.second) (c.shape_of-shape.ensures (term_kind (records_of c.args.image.now) c.args.n.0) (kind_of_lem c.requires.0.terms r))) ∙ (sym c.is_branch-2.ensures ∙ c.if-is_branch.true)) in
    let x = c.child_in in
    let y = c.child_in-then-is_branch in
    with_branches L n c.args.s c.shape_of-shape.result.own c.args.rows.now (good_of c.args.image.now c.requires.0.terms.laid_out) c.requires.1 (λ e. match_three c.requires.0.terms c.requires.1 e) l.j h l.rows c.charge_rows.new.rows (l.invariant n r) c.charge_rows.ensures b x.result.0 y.result.0 (child_is c.requires.0.terms r (1) x.result.0 x.ensures) (child_is c.requires.0.terms r (2) y.result.0 y.ensures) c.add_branches.new.rows c.add_branches.ensures

pub add_pieces-returns-else-is_branch : goal.add_pieces-returns-else-is_branch
add_pieces-returns-else-is_branch t c =
    let L = records_of c.args.image.now in
    let n = c.args.n.0 in
    let l = c.loop-j in
    let r = read_off c.requires.1 c.term_kind-kind.ensures c.term_fields-fields.ensures in
    let k = (count_of_lem c.requires.0.terms r c.child_count-k.result c.child_count-k.ensures) in
    let all = c.loop-j-test.false in
    let in_range_lem = c.loop-j.auto.j-end in
    let h : l.j ≡ length (children L n) = omega arith in
    let b = sym (ap (λ y. is_branch c.args.s y.second) (c.shape_of-shape.ensures (term_kind (records_of c.args.image.now) n) (kind_of_lem c.requires.0.terms r))) ∙ (sym c.is_branch-2.ensures ∙ c.if-is_branch.false) in
    without_branches L n c.args.s c.shape_of-shape.result.own c.args.rows.now (good_of c.args.image.now c.requires.0.terms.laid_out) c.requires.1 (λ e. match_three c.requires.0.terms c.requires.1 e) l.j h l.rows c.charge_rows.new.rows (l.invariant n r) c.charge_rows.ensures b
