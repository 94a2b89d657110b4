-- What a term takes by its kind: what it takes itself, then what its children take, each by its role, then the dearest of its branches.
use Prim.Native.Nat.{ℕ, zero, suc}
use mathlib.Core.Path.{◌≡◌, refl, sym, ap, ◌∙◌}
use mathlib.Core.Bool.{Bool, true, false}
use mathlib.Core.List.{List}
use lib.ListN.{get_or}
use Rattle.calculus.specs.Combinators.{choose}
use Rattle.calculus.specs.Syntax.{Dom, Ty, Val, Tm, Tms, val, end, more}
use Rattle.calculus.specs.State.{some_pieces}
use Rattle.calculus.specs.Plain.{dom_of}
use Rattle.calculus_needs.specs.Here.{Here, at, deeper, keeping}
use Rattle.calculus_needs.specs.Numbers.{Numbers, none, ◌⊕◌, dearer}
use Rattle.calculus_needs.specs.Needs.{Extra, no_extra, a_new_label, kept_pieces, extra0, with_extra, once, uses, variables, binds, a_cell, a_piece_of, a_label, an_advice, a_print, own2, need, needs}
use Rattle.calculus_needs.proofs.Sums.{none_left, none_right, plus_assoc, plus_comm}
use Rattle.image.specs.Kinds.{TermKind, Form, operator, is_kind}
use Rattle.image.specs.Program.{nth, behind, op_of, pattern_of, assemble_as}
use Rattle.need_sums.specs.declared.shapes.Own.{Own}
use Rattle.need_sums.specs.declared.shapes.Role.{Role}
use Rattle.need_sums.specs.declared.shapes.Shape.{Shape}
use Rattle.need_sums.specs.Walks.{childless, own_of, shape_as, shape_of, role_at, branches, binds_variables}
use Rattle.need_terms.specs.GivenToChildren.{part_domain, branch_variables}
use Rattle.need_walk.proofs.Folds.{dearer_left_none, dearer_right_none, sums, choices, joined, joined_none, joined_nothing, joined_split}

-- What a term takes itself, of w for all advice at a mark.
abbrev pub own_numbers : Own → Here → Numbers → Numbers
own_numbers Own.Nothing P w = none
own_numbers Own.Step P w = once P
own_numbers Own.Label P w = once P ⊕ a_label
own_numbers Own.Print P w = once P ⊕ a_print
own_numbers Own.Advice P w = once P ⊕ an_advice
own_numbers Own.Cell P w = once P ⊕ a_cell P.dom
own_numbers Own.Piece P w = once P ⊕ a_piece_of P.dom
own_numbers Own.Advised P w = once P ⊕ a_piece_of P.dom
own_numbers Own.Binding P w = once P ⊕ binds P.dom 1
own_numbers Own.TwoBindings P w = once P ⊕ binds P.dom 2
own_numbers Own.Stack P w = once P ⊕ uses P.dom (some_pieces P.kept)
own_numbers Own.Mark P w = once P ⊕ w

-- A child with a role, of a term that runs.
abbrev pub running : (Here → Numbers) → Here → Dom → Role → Tm → Numbers
running W P p Role.Skipped e = none
running W P p Role.Operand e = need W (deeper P) e
running W P p Role.Lowered e = need W (at p (deeper P)) e
running W P p Role.Kept e = need W (keeping (deeper P)) e
running W P p Role.Next e = need W P e
running W P p Role.Branch e = need W P e
running W P p Role.FirstBranch e = need W P e
running W P p Role.AdviceBody e = none
running W P p Role.Installed e = need W (deeper P) e

abbrev pub branch_numbers : Dom → Role → ℕ → Numbers
branch_numbers c r v = choose (binds_variables r) (binds c v) none

-- What a child adds that takes x, and what it offers as a branch.
abbrev pub added_by : Bool → Numbers → Numbers
added_by b x = choose b none x

abbrev pub offered_by : Bool → Numbers → Numbers → Numbers
offered_by b y x = choose b (y ⊕ x) none

-- A shape none of whose children is a branch.
no_branches : (F : Shape) → branches F.first ≡ false → branches F.second ≡ false → branches F.third ≡ false → branches F.rest ≡ false
    → (i : ℕ) → branches (role_at (F) i) ≡ false
no_branches F a b c d zero = a
no_branches F a b c d (suc zero) = b
no_branches F a b c d (suc (suc zero)) = c
no_branches F a b c d (suc (suc (suc j))) = d

-- Sums in another order.
t0 : (o : Numbers) → o ≡ o ⊕ ((none ⊕ (none ⊕ (none ⊕ none))) ⊕ none)
t0 o = rw (none_left none, none_left none, none_left none, none_left none, none_right o) refl

t1 : (o a : Numbers) → a ⊕ o ≡ o ⊕ ((a ⊕ (none ⊕ (none ⊕ none))) ⊕ none)
t1 o a = rw (none_left none, none_left none, none_right a, none_right a) (plus_comm a o)

t2 : (o a b : Numbers) → a ⊕ (b ⊕ o) ≡ o ⊕ ((a ⊕ (b ⊕ (none ⊕ none))) ⊕ none)
t2 o a b = rw (none_left none, none_right b, none_right (a ⊕ b)) (sym (plus_assoc a b o) ∙ plus_comm (a ⊕ b) o)

t2_next : (o a b : Numbers) → a ⊕ (o ⊕ b) ≡ o ⊕ ((a ⊕ (b ⊕ (none ⊕ none))) ⊕ none)
t2_next o a b = ap (λ x. a ⊕ x) (plus_comm o b) ∙ t2 o a b

t3 : (o a b c : Numbers) → a ⊕ (b ⊕ (c ⊕ o)) ≡ o ⊕ ((a ⊕ (b ⊕ (c ⊕ none))) ⊕ none)
t3 o a b c = rw (none_right c, none_right (a ⊕ (b ⊕ c))) (ap (λ x. a ⊕ x) (sym (plus_assoc b c o)) ∙ (sym (plus_assoc a (b ⊕ c) o) ∙ plus_comm (a ⊕ (b ⊕ c)) o))

-- The sum over the children of a term that runs, and its dearest branch.
module _ (W : Here → Numbers) (P : Here) (p : Dom) (v : ℕ) where
  abbrev pub adds : Shape → ℕ → Tm → Numbers
  adds F i e = added_by (branches (role_at (F) i)) (running W P p (role_at (F) i) e)

  abbrev pub offers : Shape → ℕ → Tm → Numbers
  offers F i e = offered_by (branches (role_at (F) i)) (branch_numbers P.dom (role_at (F) i) v) (running W P p (role_at (F) i) e)

  unit_none : (r : Role) → running W P p r (val Val.unit) ≡ none
  unfolding need
  unit_none Role.Skipped = refl
  unit_none Role.Operand = refl
  unit_none Role.Lowered = refl
  unit_none Role.Kept = refl
  unit_none Role.Next = refl
  unit_none Role.Branch = refl
  unit_none Role.FirstBranch = refl
  unit_none Role.AdviceBody = refl
  unit_none Role.Installed = refl

  adds_unit : (F : Shape) (i : ℕ) → adds F i (val Val.unit) ≡ none
  adds_unit F i = look (branches (role_at (F) i)) (unit_none (role_at (F) i))
    where
      look : (b : Bool) {x : Numbers} → x ≡ none → added_by b x ≡ none
      look true e = refl
      look false e = e

  no_branch : (F : Shape) → ((i : ℕ) → branches (role_at (F) i) ≡ false) → (i : ℕ) (e : Tm) → offers F i e ≡ none
  no_branch F h i e = rw (h i) refl

  -- A shape without branches, with at most three children.
  plain_kind : (F : Shape) → ((i : ℕ) → branches (role_at (F) i) ≡ false) → ((i : ℕ) (e : Tm) → adds F (suc (suc (suc i))) e ≡ none) → (es : Tms) (x o : Numbers)
      → x ≡ o ⊕ ((adds F 0 (nth es 0) ⊕ (adds F 1 (nth es 1) ⊕ (adds F 2 (nth es 2) ⊕ none))) ⊕ none) → x ≡ o ⊕ (joined sums (adds F) 0 es ⊕ joined choices (offers F) 0 es)
  plain_kind F b r es x o h = rw (joined_split sums (adds F) (adds_unit F) es, joined_none sums (adds F) r 0 (behind 3 es), joined_nothing choices (offers F) (no_branch F b) 0 es) h

  operands : (f : ℕ → Tm → Numbers) → ((i : ℕ) (e : Tm) → f i e ≡ need W (deeper P) e) → (i : ℕ) (es : Tms) → joined sums f i es ≡ needs W (deeper P) es
  unfolding joined needs
  operands f h i end = refl
  operands f h i (more e es) = ap (λ x. x ⊕ joined sums f (suc i) es) (h i e) ∙ ap (λ x. need W (deeper P) e ⊕ x) (operands f h (suc i) es)

  operands_behind : (f : ℕ → Tm → Numbers) → ((i : ℕ) (e : Tm) → f (suc (suc (suc i))) e ≡ need W (deeper P) e) → (i : ℕ) (es : Tms) → joined sums f (suc (suc (suc i))) es ≡ needs W (deeper P) es
  unfolding joined needs
  operands_behind f h i end = refl
  operands_behind f h i (more e es) = ap (λ x. x ⊕ joined sums f (suc (suc (suc (suc i)))) es) (h i e) ∙ ap (λ x. need W (deeper P) e ⊕ x) (operands_behind f h (suc i) es)

  pcd_kind : (es : Tms) → needs W (deeper P) es ⊕ (once P ⊕ a_piece_of P.dom) ≡ (once P ⊕ a_piece_of P.dom) ⊕ (joined sums (adds (shape_of TermKind.pcd)) 0 es ⊕ joined choices (offers (shape_of TermKind.pcd)) 0 es)
  pcd_kind es =
      rw (operands (adds (shape_of TermKind.pcd)) (λ i e. all i e) 0 es, joined_nothing choices (offers (shape_of TermKind.pcd)) (no_branch (shape_of TermKind.pcd) (no_branches (shape_of TermKind.pcd) refl refl refl refl)) 0 es, none_right (needs W (deeper P) es))
      (plus_comm (needs W (deeper P) es) (once P ⊕ a_piece_of P.dom))
    where
      all : (i : ℕ) (e : Tm) → adds (shape_of TermKind.pcd) i e ≡ need W (deeper P) e
      all zero e = refl
      all (suc zero) e = refl
      all (suc (suc zero)) e = refl
      all (suc (suc (suc j))) e = refl

  -- An operand, a step, the dearer of two branches.
  t_branches : (o a d y z : Numbers) → (a ⊕ d) ⊕ (o ⊕ dearer y z) ≡ o ⊕ ((a ⊕ (none ⊕ (none ⊕ d))) ⊕ dearer none (dearer y (dearer z none)))
  t_branches o a d y z =
      rw (none_left d, none_left d, dearer_right_none z, dearer_left_none (dearer y z))
      (sym (plus_assoc (a ⊕ d) o (dearer y z)) ∙ (ap (λ x. x ⊕ dearer y z) (plus_comm (a ⊕ d) o) ∙ plus_assoc o (a ⊕ d) (dearer y z)))

  ite_kind : (es : Tms)
      → need W (deeper P) (nth es 0) ⊕ (once P ⊕ dearer (need W P (nth es 1)) (need W P (nth es 2))) ≡ once P ⊕ (joined sums (adds (shape_of TermKind.ite)) 0 es ⊕ joined choices (offers (shape_of TermKind.ite)) 0 es)
  unfolding need
  ite_kind es =
      let a = need W (deeper P) (nth es 0) in
      let y = need W P (nth es 1) in
      let z = need W P (nth es 2) in
      rw (
        joined_split sums (adds (shape_of TermKind.ite)) (adds_unit (shape_of TermKind.ite)) es,
        joined_none sums (adds (shape_of TermKind.ite)) (λ i e. refl) 0 (behind 3 es),
        joined_split choices (offers (shape_of TermKind.ite)) unit es,
        joined_none choices (offers (shape_of TermKind.ite)) (λ i e. refl) 0 (behind 3 es),
        none_left y,
        none_left z,
      )
      (ap (λ x. x ⊕ (once P ⊕ dearer y z)) (sym (none_right a)) ∙ t_branches (once P) a none y z)
    where
      unit : (i : ℕ) → offers (shape_of TermKind.ite) i (val Val.unit) ≡ none
      unit zero = refl
      unit (suc zero) = none_left none
      unit (suc (suc zero)) = none_left none
      unit (suc (suc (suc j))) = refl

  match_kind : (a b c : Tm) (r : Tms)
      → (need W (deeper P) a ⊕ needs W (deeper P) r) ⊕ (once P ⊕ dearer (binds P.dom v ⊕ need W P b) (need W P c))
      ≡ once P ⊕ (joined sums (adds (shape_of TermKind.match)) 0 (more a (more b (more c r))) ⊕ joined choices (offers (shape_of TermKind.match)) 0 (more a (more b (more c r))))
  unfolding joined
  match_kind a b c r =
      rw (operands_behind (adds (shape_of TermKind.match)) (λ i e. refl) 0 r, joined_none choices (offers (shape_of TermKind.match)) (λ i e. refl) 0 r, none_left (need W P c))
      (t_branches (once P) (need W (deeper P) a) (needs W (deeper P) r) (binds P.dom v ⊕ need W P b) (need W P c))

arith_own : (W : Here → Numbers) (P : Here) (n : ℕ) → own2 W P (op_of n) ≡ once P
arith_own W P zero = refl
arith_own W P (suc zero) = refl
arith_own W P (suc (suc zero)) = refl
arith_own W P (suc (suc (suc n))) = refl

-- A match has a stack and two branches.
abbrev Three : Tms → Type 0
Three end = ⊥
Three (more a end) = ⊥
Three (more a (more b end)) = ⊥
Three (more a (more b (more c r))) = Unit

abbrev pub FullIf : Bool → Tms → Type 0
FullIf true es = Three es
FullIf false es = Unit

abbrev pub Full : TermKind → Tms → Type 0
Full k es = FullIf (is_kind TermKind.match k) es

-- What an operator without operands takes itself.
own_extra : (x : Extra) (P : Here) (w : Numbers) → with_extra P x ≡ own_numbers (own_of x) P w
own_extra no_extra P w = refl
own_extra a_new_label P w = refl
own_extra kept_pieces P w = refl

pub need_form : (W : Here → Numbers) (P : Here) {k : TermKind} (φ : Form k) (t : Ty) (vs : List ℕ) (es : Tms) → Full k es
    → need W P (assemble_as φ t vs es) ≡ own_numbers (shape_as φ).own P (W P) ⊕ (joined sums (adds W P (part_domain k t vs) (branch_variables k vs) (shape_as φ)) 0 es ⊕ joined choices (offers W P (part_domain k t vs) (branch_variables k vs) (shape_as φ)) 0 es)
unfolding need needs
need_form W P {k} (operator o n r) t vs es full =
    let F = childless (own_of (extra0 o)) in
    plain_kind W P (part_domain k t vs) (branch_variables k vs) F (no_branches F refl refl refl refl) (λ i e. refl) es _ _ (own_extra (extra0 o) P (W P) ∙ t0 _)
need_form W P Form.unit t vs es full = plain_kind W P 0 0 (shape_of TermKind.unit) (no_branches (shape_of TermKind.unit) refl refl refl refl) (λ i e. refl) es _ _ (t0 _)
need_form W P Form.truth t vs es full = plain_kind W P 0 0 (shape_of TermKind.truth) (no_branches (shape_of TermKind.truth) refl refl refl refl) (λ i e. refl) es _ _ (t0 _)
need_form W P Form.number t vs es full = plain_kind W P 0 0 (shape_of TermKind.number) (no_branches (shape_of TermKind.number) refl refl refl refl) (λ i e. refl) es _ _ (t0 _)
need_form W P Form.var t vs es full = plain_kind W P 0 0 (shape_of TermKind.var) (no_branches (shape_of TermKind.var) refl refl refl refl) (λ i e. refl) es _ _ (t0 _)
need_form W P Form.seq t vs es full = plain_kind W P 0 0 (shape_of TermKind.seq) (no_branches (shape_of TermKind.seq) refl refl refl refl) (λ i e. refl) es _ _ (t2_next _ _ _)
need_form W P Form.print t vs es full = plain_kind W P 0 0 (shape_of TermKind.print) (no_branches (shape_of TermKind.print) refl refl refl refl) (λ i e. refl) es _ _ (t1 _ _)
need_form W P Form.ite t vs es full = ite_kind W P 0 0 es
need_form W P Form.pair t vs es full = plain_kind W P 0 0 (shape_of TermKind.pair) (no_branches (shape_of TermKind.pair) refl refl refl refl) (λ i e. refl) es _ _ (t2 _ _ _)
need_form W P Form.split t vs es full = plain_kind W P 0 0 (shape_of TermKind.split) (no_branches (shape_of TermKind.split) refl refl refl refl) (λ i e. refl) es _ _ (t2_next _ _ _)
need_form W P Form.fun t vs es full = plain_kind W P 0 0 (shape_of TermKind.fun) (no_branches (shape_of TermKind.fun) refl refl refl refl) (λ i e. refl) es _ _ (t0 _)
need_form W P Form.app t vs es full = plain_kind W P 0 0 (shape_of TermKind.app) (no_branches (shape_of TermKind.app) refl refl refl refl) (λ i e. refl) es _ _ (t2 _ _ _)
need_form W P Form.arith t vs es full = rw (arith_own W P (get_or vs 0 0)) (plain_kind W P 0 0 (shape_of TermKind.arith) (no_branches (shape_of TermKind.arith) refl refl refl refl) (λ i e. refl) es _ _ (t2 _ _ _))
need_form W P Form.mark t vs es full = plain_kind W P 0 0 (shape_of TermKind.mark) (no_branches (shape_of TermKind.mark) refl refl refl refl) (λ i e. refl) es _ _ (t2 _ _ _)
need_form W P Form.pcd t vs es full = pcd_kind W P 0 0 es
need_form W P Form.adv t vs es full = plain_kind W P (dom_of t) 0 (shape_of TermKind.adv) (no_branches (shape_of TermKind.adv) refl refl refl refl) (λ i e. refl) es _ _ (t1 _ _)
need_form W P Form.install t vs es full = plain_kind W P 0 0 (shape_of TermKind.install) (no_branches (shape_of TermKind.install) refl refl refl refl) (λ i e. refl) es _ _ (t1 _ _)
need_form W P Form.new_cell t vs es full = plain_kind W P 0 0 (shape_of TermKind.new_cell) (no_branches (shape_of TermKind.new_cell) refl refl refl refl) (λ i e. refl) es _ _ (t1 _ _)
need_form W P Form.read t vs es full = plain_kind W P 0 0 (shape_of TermKind.read) (no_branches (shape_of TermKind.read) refl refl refl refl) (λ i e. refl) es _ _ (t1 _ _)
need_form W P Form.store t vs es full = plain_kind W P 0 0 (shape_of TermKind.store) (no_branches (shape_of TermKind.store) refl refl refl refl) (λ i e. refl) es _ _ (t2 _ _ _)
need_form W P Form.lower t vs es full = plain_kind W P (get_or vs 0 0) 0 (shape_of TermKind.lower) (no_branches (shape_of TermKind.lower) refl refl refl refl) (λ i e. refl) es _ _ (t1 _ _)
need_form W P Form.byte t vs es full = plain_kind W P 0 0 (shape_of TermKind.byte) (no_branches (shape_of TermKind.byte) refl refl refl refl) (λ i e. refl) es _ _ (t1 _ _)
need_form W P Form.obj t vs es full = plain_kind W P 0 0 (shape_of TermKind.obj) (no_branches (shape_of TermKind.obj) refl refl refl refl) (λ i e. refl) es _ _ (t0 _)
need_form W P Form.call t vs es full = plain_kind W P 0 0 (shape_of TermKind.call) (no_branches (shape_of TermKind.call) refl refl refl refl) (λ i e. refl) es _ _ (t1 _ _)
need_form W P Form.keep t vs es full = plain_kind W P 0 0 (shape_of TermKind.keep) (no_branches (shape_of TermKind.keep) refl refl refl refl) (λ i e. refl) es _ _ (t3 _ _ _ _)
need_form W P Form.match t vs end full = elim full [ ]
need_form W P Form.match t vs (more a end) full = elim full [ ]
need_form W P Form.match t vs (more a (more b end)) full = elim full [ ]
need_form W P Form.match t vs (more a (more b (more c r))) full = match_kind W P 0 (variables (pattern_of vs)) a b c r
need_form W P Form.takedown t vs es full = plain_kind W P 0 0 (shape_of TermKind.takedown) (no_branches (shape_of TermKind.takedown) refl refl refl refl) (λ i e. refl) es _ _ (t0 _)
