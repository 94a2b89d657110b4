-- `check_typing::pass::check_here`, `check_subterms` and `check_term` meet their contracts.
use Rattle.std.specs.Prelude.{Ok, is_err}
use borrow.Author.Rules.{rules}
use Prim.Native.Nat.{ℕ}
use native.Mathlib.Omega.{arith}
use mathlib.Core.Path.{◌≡◌, refl, sym, ap, ◌∙◌}
use mathlib.Core.Bool.{Bool, false}
use mathlib.Core.List.{List}
use borrow.Author.Tests.{leb-true}
use lib.ListN.{length}
use Rattle.image.specs.Layout.{records_of}
use Rattle.image.specs.Types.{term_kind}
use Rattle.verdict.specs.Answers.{Verdict}
use Rattle.verdict.proofs.Answered.{accepted_is}
use Rattle.check_rules.specs.Scopes.{context_in, setting_in}
use Rattle.check_rules.specs.Judged.{rule_verdict}
use Rattle.read_terms.specs.Fields.{fields_of, children_in}
use Rattle.read_terms.proofs.Located.{typed_in}
use Rattle.check_typing.specs.Faults.{verdict_at}
use Rattle.check_typing.proofs.TermPass.{front_start, refused_here, leaf_checked}
use Rattle.check_typing.proofs.Faults.{fault_refused, fault_accepted, own_back, own_below}
use Rattle.check_typing.proofs.Loops.{parent, numbered, whole, has, lower, inside, capacity, stops, goes_on, field_there, here_turn, child_passed, moved_turn, little, same_length, kept}
use Rattle.check_typing.proofs.pass.+check_here_check_subterms_check_term.Goals as goal

-- A rule is passed, whatever the variables are.
passes : (b : List ℕ) (d n : ℕ) {v : Verdict} {r : Bool} → ((Γ : List ℕ) → v ≡ rule_verdict (records_of b) (record { context = Γ; dom = d }) n) → r ≡ is_err v → r ≡ false → (Γ : List ℕ) → rule_verdict (records_of b) (record { context = Γ; dom = d }) n ≡ Ok tt
passes b d n {v = v} h e f Γ = sym (h Γ) ∙ accepted_is v (sym e ∙ f)

-- A term: its rule, then its children. The term itself is refused.
pub check_here-returns-then-is_err : goal.check_here-returns-then-is_err
check_here-returns-then-is_err t c =
    let n = c.args.n.0 in
    let v = c.check_rule-v.result in
    let p = setting_in c.args.scope.now c.args.len c.args.c.0 in
    let e = c.check_rule-v.ensures (context_in c.args.scope.now c.args.len) in (
      own_back (records_of c.args.image.now) p n e c.fault_of.ensures ∙ refused_here c.requires.0.terms c.requires.1 p v e (sym c.is_err.ensures.value ∙ c.if-is_err.true),
      own_below v n c.fault_of.ensures,
      refl,
      refl,
    )

pub check_here-child_count-k-requires : goal.check_here-child_count-k-requires
check_here-child_count-k-requires t c = rw c.term_fields-fields.ensures (typed_in c.requires.0.terms c.requires.1).long

pub check_here-loop-j-init : goal.check_here-loop-j-init
check_here-loop-j-init t c =
    (refl, refl, λ m e. sym (front_start c.args.image.now c.term_fields-fields.result.now m (setting_in c.args.scope.now c.args.len c.args.c.0)))

pub check_here-overflow_add-lead : goal.check_here-overflow_add-lead
check_here-overflow_add-lead t c =
    let ruled = passes c.args.image.now c.args.c.0 c.args.n.0 c.check_rule-v.ensures c.is_err.ensures.value c.if-is_err.false in
    let P = parent c.args.n.0 (setting_in c.args.scope.now c.args.len c.args.c.0) c.requires.0.terms c.requires.1 c.term_fields-fields.ensures c.term_kind-kind.ensures (ruled (context_in c.args.scope.now c.args.len)) c.child_count-k.ensures in
    let l = field_there c.args.scope.now c.args.len P c.moves_child.ensures c.if-moves_child.false c.lead_of-lead.ensures c.loop-j.j c.loop-j-test.true in
    search rules

pub check_here-child_at_field-e-requires : goal.check_here-child_at_field-e-requires
check_here-child_at_field-e-requires t c =
    let ruled = passes c.args.image.now c.args.c.0 c.args.n.0 c.check_rule-v.ensures c.is_err.ensures.value c.if-is_err.false in
    let P = parent c.args.n.0 (setting_in c.args.scope.now c.args.len c.args.c.0) c.requires.0.terms c.requires.1 c.term_fields-fields.ensures c.term_kind-kind.ensures (ruled (context_in c.args.scope.now c.args.len)) c.child_count-k.ensures in
    field_there c.args.scope.now c.args.len P c.moves_child.ensures c.if-moves_child.false c.lead_of-lead.ensures c.loop-j.j c.loop-j-test.true

pub check_here-check_term-r-requires : goal.check_here-check_term-r-requires
check_here-check_term-r-requires t c =
    let ruled = passes c.args.image.now c.args.c.0 c.args.n.0 c.check_rule-v.ensures c.is_err.ensures.value c.if-is_err.false in
    let P = parent c.args.n.0 (setting_in c.args.scope.now c.args.len c.args.c.0) c.requires.0.terms c.requires.1 c.term_fields-fields.ensures c.term_kind-kind.ensures (ruled (context_in c.args.scope.now c.args.len)) c.child_count-k.ensures in
    let T = here_turn c.args.scope.now c.args.len P c.moves_child.ensures c.if-moves_child.false c.lead_of-lead.ensures c.loop-j.j c.loop-j-test.true c.loop-j.scope c.loop-j.invariant.1 c.loop-j.invariant.2 c.child_at_field-e.ensures in
    let l = lower T in
    (omega (arith, c.decreases), (c.requires.0, inside T, c.requires.2, capacity T c.requires.3 c.loop-j.scope c.args.len (omega arith) c.loop-j.invariant.0, c.requires.4))

-- A child is refused.
pub check_here-returns-then-r-ne0 : goal.check_here-returns-then-r-ne0
check_here-returns-then-r-ne0 t c =
    let ruled = passes c.args.image.now c.args.c.0 c.args.n.0 c.check_rule-v.ensures c.is_err.ensures.value c.if-is_err.false in
    let P = parent c.args.n.0 (setting_in c.args.scope.now c.args.len c.args.c.0) c.requires.0.terms c.requires.1 c.term_fields-fields.ensures c.term_kind-kind.ensures (ruled (context_in c.args.scope.now c.args.len)) c.child_count-k.ensures in
    let T = here_turn c.args.scope.now c.args.len P c.moves_child.ensures c.if-moves_child.false c.lead_of-lead.ensures c.loop-j.j c.loop-j-test.true c.loop-j.scope c.loop-j.invariant.1 c.loop-j.invariant.2 c.child_at_field-e.ensures in
    let l = lower T in
    let v = c.check_term-r in
    let L = records_of c.args.image.now in (
      stops T (verdict_at L v.result) v.ensures.0 (fault_refused L v.result c.if-r-ne0.true),
      omega (arith, l, v.ensures.1),
      v.ensures.2 ∙ c.loop-j.invariant.1,
      v.ensures.3 ∙ c.loop-j.invariant.0,
    )

pub check_here-loop-j-preserved : goal.check_here-loop-j-preserved
check_here-loop-j-preserved t c =
    let ruled = passes c.args.image.now c.args.c.0 c.args.n.0 c.check_rule-v.ensures c.is_err.ensures.value c.if-is_err.false in
    let P = parent c.args.n.0 (setting_in c.args.scope.now c.args.len c.args.c.0) c.requires.0.terms c.requires.1 c.term_fields-fields.ensures c.term_kind-kind.ensures (ruled (context_in c.args.scope.now c.args.len)) c.child_count-k.ensures in
    let T = here_turn c.args.scope.now c.args.len P c.moves_child.ensures c.if-moves_child.false c.lead_of-lead.ensures c.loop-j.j c.loop-j-test.true c.loop-j.scope c.loop-j.invariant.1 c.loop-j.invariant.2 c.child_at_field-e.ensures in
    let v = c.check_term-r in
    let L = records_of c.args.image.now in
    let h = c.loop-j-test.true in
    (v.ensures.3 ∙ c.loop-j.invariant.0, v.ensures.2 ∙ c.loop-j.invariant.1, goes_on T (verdict_at L v.result) v.ensures.0 (fault_accepted L v.result c.if-r-ne0.false))

-- All children pass.
pub check_here-returns : goal.check_here-returns
check_here-returns t c =
    let ruled = passes c.args.image.now c.args.c.0 c.args.n.0 c.check_rule-v.ensures c.is_err.ensures.value c.if-is_err.false in
    let P = parent c.args.n.0 (setting_in c.args.scope.now c.args.len c.args.c.0) c.requires.0.terms c.requires.1 c.term_fields-fields.ensures c.term_kind-kind.ensures (ruled (context_in c.args.scope.now c.args.len)) c.child_count-k.ensures in
    (whole P c.loop-j.j (omega arith) c.loop-j.invariant.2, omega arith, c.loop-j.invariant.1, c.loop-j.invariant.0)

-- The children of a term, each where it stands.
pub check_subterms-child_count-k-requires : goal.check_subterms-child_count-k-requires
check_subterms-child_count-k-requires t c = rw c.term_fields.ensures (typed_in c.requires.0.terms c.requires.1).long

pub check_subterms-loop-j-init : goal.check_subterms-loop-j-init
check_subterms-loop-j-init t c =
    (refl, refl, λ m e. sym (front_start c.args.image.now (fields_of c.args.image.now c.args.n.0) m (setting_in c.args.scope.now c.args.len c.args.c.0)))

pub check_subterms-child_of-e-requires : goal.check_subterms-child_of-e-requires
check_subterms-child_of-e-requires t c =
    let P = parent c.args.n.0 (setting_in c.args.scope.now c.args.len c.args.c.0) c.requires.0.terms c.requires.1 refl c.term_kind-kind.ensures (c.requires.5 (context_in c.args.scope.now c.args.len)) (λ m e. c.child_count-k.ensures m e ∙ ap (λ fs. length (children_in fs m)) c.term_fields.ensures) in
    let m = term_kind (records_of c.args.image.now) c.args.n.0 in
    let e = numbered P in
    (m, (e, c.lead_of-lead.ensures m e, rw c.term_fields-fields.ensures (has P c.loop-j.j c.loop-j-test.true m e)))

pub check_subterms-child_setting-p-requires : goal.check_subterms-child_setting-p-requires
check_subterms-child_setting-p-requires t c =
    let P = parent c.args.n.0 (setting_in c.args.scope.now c.args.len c.args.c.0) c.requires.0.terms c.requires.1 refl c.term_kind-kind.ensures (c.requires.5 (context_in c.args.scope.now c.args.len)) (λ m e. c.child_count-k.ensures m e ∙ ap (λ fs. length (children_in fs m)) c.term_fields.ensures) in
    (c.requires.0, child_passed c.args.scope.now c.args.len P c.term_fields-fields.ensures c.loop-j.j c.loop-j-test.true c.loop-j.scope c.loop-j.invariant.1 c.loop-j.invariant.0 c.requires.5 c.requires.3, c.requires.4)

pub check_subterms-check_term-r-requires : goal.check_subterms-check_term-r-requires
check_subterms-check_term-r-requires t c =
    let P = parent c.args.n.0 (setting_in c.args.scope.now c.args.len c.args.c.0) c.requires.0.terms c.requires.1 refl c.term_kind-kind.ensures (c.requires.5 (context_in c.args.scope.now c.args.len)) (λ m e. c.child_count-k.ensures m e ∙ ap (λ fs. length (children_in fs m)) c.term_fields.ensures) in
    let T = moved_turn c.args.scope.now c.args.len P c.term_fields-fields.ensures c.loop-j.j c.loop-j-test.true c.loop-j.scope c.loop-j.invariant.1 c.loop-j.invariant.0 c.child_setting-p.ensures c.loop-j.invariant.2 c.child_of-e.ensures in
    let l = lower T in
    let few = little c.args.scope.now c.args.len P c.term_fields-fields.ensures c.loop-j.j c.loop-j-test.true c.loop-j.scope c.loop-j.invariant.1 c.loop-j.invariant.0 c.child_setting-p.ensures in
    let same = same_length c.args.scope.now c.args.len P c.term_fields-fields.ensures c.loop-j.j c.loop-j-test.true c.loop-j.scope c.loop-j.invariant.1 c.loop-j.invariant.0 c.child_setting-p.ensures in
    (omega (arith, c.decreases), (c.requires.0, inside T, c.requires.2, capacity T c.requires.3 c.child_setting-p.new.scope c.child_setting-p.result.len few same, c.requires.4))

-- A child is refused.
pub check_subterms-returns-then-r-ne0 : goal.check_subterms-returns-then-r-ne0
check_subterms-returns-then-r-ne0 t c =
    let P = parent c.args.n.0 (setting_in c.args.scope.now c.args.len c.args.c.0) c.requires.0.terms c.requires.1 refl c.term_kind-kind.ensures (c.requires.5 (context_in c.args.scope.now c.args.len)) (λ m e. c.child_count-k.ensures m e ∙ ap (λ fs. length (children_in fs m)) c.term_fields.ensures) in
    let T = moved_turn c.args.scope.now c.args.len P c.term_fields-fields.ensures c.loop-j.j c.loop-j-test.true c.loop-j.scope c.loop-j.invariant.1 c.loop-j.invariant.0 c.child_setting-p.ensures c.loop-j.invariant.2 c.child_of-e.ensures in
    let l = lower T in
    let keep = kept c.args.scope.now c.args.len P c.term_fields-fields.ensures c.loop-j.j c.loop-j-test.true c.loop-j.scope c.loop-j.invariant.1 c.loop-j.invariant.0 c.child_setting-p.ensures in
    let same = same_length c.args.scope.now c.args.len P c.term_fields-fields.ensures c.loop-j.j c.loop-j-test.true c.loop-j.scope c.loop-j.invariant.1 c.loop-j.invariant.0 c.child_setting-p.ensures in
    let v = c.check_term-r in
    let L = records_of c.args.image.now in (
      stops T (verdict_at L v.result) v.ensures.0 (fault_refused L v.result c.if-r-ne0.true),
      omega (arith, l, v.ensures.1),
      keep v.new.scope v.ensures.2,
      v.ensures.3 ∙ same,
    )

pub check_subterms-loop-j-preserved : goal.check_subterms-loop-j-preserved
check_subterms-loop-j-preserved t c =
    let P = parent c.args.n.0 (setting_in c.args.scope.now c.args.len c.args.c.0) c.requires.0.terms c.requires.1 refl c.term_kind-kind.ensures (c.requires.5 (context_in c.args.scope.now c.args.len)) (λ m e. c.child_count-k.ensures m e ∙ ap (λ fs. length (children_in fs m)) c.term_fields.ensures) in
    let T = moved_turn c.args.scope.now c.args.len P c.term_fields-fields.ensures c.loop-j.j c.loop-j-test.true c.loop-j.scope c.loop-j.invariant.1 c.loop-j.invariant.0 c.child_setting-p.ensures c.loop-j.invariant.2 c.child_of-e.ensures in
    let keep = kept c.args.scope.now c.args.len P c.term_fields-fields.ensures c.loop-j.j c.loop-j-test.true c.loop-j.scope c.loop-j.invariant.1 c.loop-j.invariant.0 c.child_setting-p.ensures in
    let same = same_length c.args.scope.now c.args.len P c.term_fields-fields.ensures c.loop-j.j c.loop-j-test.true c.loop-j.scope c.loop-j.invariant.1 c.loop-j.invariant.0 c.child_setting-p.ensures in
    let v = c.check_term-r in
    let L = records_of c.args.image.now in
    let h = c.loop-j-test.true in
    (v.ensures.3 ∙ same, keep v.new.scope v.ensures.2, goes_on T (verdict_at L v.result) v.ensures.0 (fault_accepted L v.result c.if-r-ne0.false))

-- All children pass.
pub check_subterms-returns : goal.check_subterms-returns
check_subterms-returns t c =
    let P = parent c.args.n.0 (setting_in c.args.scope.now c.args.len c.args.c.0) c.requires.0.terms c.requires.1 refl c.term_kind-kind.ensures (c.requires.5 (context_in c.args.scope.now c.args.len)) (λ m e. c.child_count-k.ensures m e ∙ ap (λ fs. length (children_in fs m)) c.term_fields.ensures) in
    (whole P c.loop-j.j (omega arith) c.loop-j.invariant.2, omega arith, c.loop-j.invariant.1, c.loop-j.invariant.0)

-- A constant or a variable is checked by its rule alone; another term with the image as the slice of all its bytes.
pub check_term-returns-then-is_leaf : goal.check_term-returns-then-is_leaf
check_term-returns-then-is_leaf t c =
    let v = c.check_leaf in
    let n = c.args.n.0 in
    let L = records_of c.args.image.now in
    let p = setting_in c.args.scope.now c.args.len c.args.c.0 in
    let f = c.fault_of.ensures in
    let e = v.ensures c.args.c.0 in
    let small = leb-true _ _ (sym c.is_leaf.ensures ∙ c.if-is_leaf.true) in
    (own_back L p n e f ∙ (e ∙ leaf_checked c.requires.0.terms c.requires.1 p small), own_below v.result n f, refl, refl)
