-- What the advice that a term installs takes at a mark, by its kind.
use Prim.Native.Nat.{ℕ, zero, suc}
use mathlib.Core.Path.{◌≡◌, refl, sym, ap, ◌∙◌}
use mathlib.Core.Bool.{Bool}
use mathlib.Core.List.{List}
use Rattle.calculus.specs.Combinators.{choose}
use Rattle.calculus.specs.Syntax.{Dom, Ty, Val, Tm, Tms, val, end, more}
use Rattle.calculus_needs.specs.Here.{Here, at, deeper}
use Rattle.calculus_needs.specs.Numbers.{Numbers, none, ◌⊕◌}
use Rattle.calculus_needs.specs.Needs.{extra0, once, binds, need, round_of, rounds, all_rounds}
use Rattle.calculus_needs.proofs.Sums.{none_left, none_right, plus_assoc, plus_comm}
use Rattle.image.specs.Kinds.{TermKind, Form, operator}
use Rattle.image.specs.Program.{nth, behind, assemble_as}
use Rattle.need_sums.specs.declared.shapes.Role.{Role}
use Rattle.need_sums.specs.declared.shapes.Shape.{Shape}
use Rattle.need_sums.specs.Walks.{childless, own_of, shape_as, shape_of, role_at, is_advice_body}
use Rattle.need_walk.proofs.Folds.{sums, joined, joined_none, joined_split}
use Rattle.need_walk.proofs.Shapes.{Full}

-- A child with a role.
abbrev pub installing : Here → Role → Tm → Numbers
installing P Role.Skipped e = none
installing P Role.Operand e = rounds P e
installing P Role.Lowered e = rounds P e
installing P Role.Kept e = rounds P e
installing P Role.Next e = rounds P e
installing P Role.Branch e = rounds P e
installing P Role.FirstBranch e = rounds P e
installing P Role.AdviceBody e = none
installing P Role.Installed e = rounds P e ⊕ round_of P e

-- The same of a child of what is installed.
abbrev pub installed : Here → Dom → Role → Tm → Numbers
installed P p r e = choose (is_advice_body r) (need (λ Q. none) (at p (deeper (deeper P))) e) (installing P r e)

s0 : none ≡ none ⊕ (none ⊕ (none ⊕ none))
s0 = rw (none_left none, none_left none, none_left none) refl

s1 : (a : Numbers) → a ≡ a ⊕ (none ⊕ (none ⊕ none))
s1 a = rw (none_left none, none_left none, none_right a) refl

s1_none : (a : Numbers) → a ⊕ none ≡ a ⊕ (none ⊕ (none ⊕ none))
s1_none a = rw (none_left none, none_left none) refl

s2 : (a b : Numbers) → a ⊕ b ≡ a ⊕ (b ⊕ (none ⊕ none))
s2 a b = rw (none_left none, none_right b) refl

s3 : (a b c : Numbers) → a ⊕ (b ⊕ c) ≡ a ⊕ (b ⊕ (c ⊕ none))
s3 a b c = rw (none_right c) refl

module _ (P : Here) where
  abbrev pub rounds_adds : Shape → ℕ → Tm → Numbers
  rounds_adds F i e = installing P (role_at (F) i) e

  unit_none : (r : Role) → installing P r (val Val.unit) ≡ none
  unfolding rounds
  unit_none Role.Skipped = refl
  unit_none Role.Operand = refl
  unit_none Role.Lowered = refl
  unit_none Role.Kept = refl
  unit_none Role.Next = refl
  unit_none Role.Branch = refl
  unit_none Role.FirstBranch = refl
  unit_none Role.AdviceBody = refl
  unit_none Role.Installed = none_left none

  plain_rounds : (F : Shape) → ((i : ℕ) (e : Tm) → rounds_adds F (suc (suc (suc i))) e ≡ none) → (es : Tms) (x : Numbers)
      → x ≡ rounds_adds F 0 (nth es 0) ⊕ (rounds_adds F 1 (nth es 1) ⊕ (rounds_adds F 2 (nth es 2) ⊕ none)) → x ≡ joined sums (rounds_adds F) 0 es
  plain_rounds F r es x h = rw (joined_split sums (rounds_adds F) (λ i. unit_none (role_at (F) i)) es, joined_none sums (rounds_adds F) r 0 (behind 3 es)) h

  all_rounds_lem : (f : ℕ → Tm → Numbers) → ((i : ℕ) (e : Tm) → f i e ≡ rounds P e) → (i : ℕ) (es : Tms) → joined sums f i es ≡ all_rounds P es
  unfolding joined all_rounds
  all_rounds_lem f h i end = refl
  all_rounds_lem f h i (more e es) = ap (λ x. x ⊕ joined sums f (suc i) es) (h i e) ∙ ap (λ x. rounds P e ⊕ x) (all_rounds_lem f h (suc i) es)

  rounds_behind : (f : ℕ → Tm → Numbers) → ((i : ℕ) (e : Tm) → f (suc (suc (suc i))) e ≡ rounds P e) → (i : ℕ) (es : Tms) → joined sums f (suc (suc (suc i))) es ≡ all_rounds P es
  unfolding joined all_rounds
  rounds_behind f h i end = refl
  rounds_behind f h i (more e es) = ap (λ x. x ⊕ joined sums f (suc (suc (suc (suc i)))) es) (h i e) ∙ ap (λ x. rounds P e ⊕ x) (rounds_behind f h (suc i) es)

  pcd_rounds : (es : Tms) → all_rounds P es ≡ joined sums (rounds_adds (shape_of TermKind.pcd)) 0 es
  pcd_rounds es = sym (all_rounds_lem (rounds_adds (shape_of TermKind.pcd)) (λ i e. all i e) 0 es)
    where
      all : (i : ℕ) (e : Tm) → rounds_adds (shape_of TermKind.pcd) i e ≡ rounds P e
      all zero e = refl
      all (suc zero) e = refl
      all (suc (suc zero)) e = refl
      all (suc (suc (suc j))) e = refl

  -- The rest stands behind the branches.
  s4 : (a b c d : Numbers) → (a ⊕ d) ⊕ (b ⊕ c) ≡ a ⊕ (b ⊕ (c ⊕ d))
  s4 a b c d = plus_assoc a d (b ⊕ c) ∙ ap (λ x. a ⊕ x) (plus_comm d (b ⊕ c) ∙ plus_assoc b c d)

  match_rounds : (a b c : Tm) (r : Tms) → (rounds P a ⊕ all_rounds P r) ⊕ (rounds P b ⊕ rounds P c) ≡ joined sums (rounds_adds (shape_of TermKind.match)) 0 (more a (more b (more c r)))
  unfolding joined
  match_rounds a b c r = rw (rounds_behind (rounds_adds (shape_of TermKind.match)) (λ i e. refl) 0 r) (s4 (rounds P a) (rounds P b) (rounds P c) (all_rounds P r))

pub rounds_form : (P : Here) {k : TermKind} (φ : Form k) (t : Ty) (vs : List ℕ) (es : Tms) → Full k es → rounds P (assemble_as φ t vs es) ≡ joined sums (rounds_adds P (shape_as φ)) 0 es
unfolding rounds all_rounds
rounds_form P (operator o n r) t vs es full = plain_rounds P (childless (own_of (extra0 o))) (λ i e. refl) es _ s0
rounds_form P Form.unit t vs es full = plain_rounds P (shape_of TermKind.unit) (λ i e. refl) es _ s0
rounds_form P Form.truth t vs es full = plain_rounds P (shape_of TermKind.truth) (λ i e. refl) es _ s0
rounds_form P Form.number t vs es full = plain_rounds P (shape_of TermKind.number) (λ i e. refl) es _ s0
rounds_form P Form.var t vs es full = plain_rounds P (shape_of TermKind.var) (λ i e. refl) es _ s0
rounds_form P Form.seq t vs es full = plain_rounds P (shape_of TermKind.seq) (λ i e. refl) es _ (s2 _ _)
rounds_form P Form.print t vs es full = plain_rounds P (shape_of TermKind.print) (λ i e. refl) es _ (s1_none _)
rounds_form P Form.ite t vs es full = plain_rounds P (shape_of TermKind.ite) (λ i e. refl) es _ (s3 _ _ _)
rounds_form P Form.pair t vs es full = plain_rounds P (shape_of TermKind.pair) (λ i e. refl) es _ (s2 _ _)
rounds_form P Form.split t vs es full = plain_rounds P (shape_of TermKind.split) (λ i e. refl) es _ (s2 _ _)
rounds_form P Form.fun t vs es full = plain_rounds P (shape_of TermKind.fun) (λ i e. refl) es _ s0
rounds_form P Form.app t vs es full = plain_rounds P (shape_of TermKind.app) (λ i e. refl) es _ (s2 _ _)
rounds_form P Form.arith t vs es full = plain_rounds P (shape_of TermKind.arith) (λ i e. refl) es _ (s2 _ _)
rounds_form P Form.mark t vs es full = plain_rounds P (shape_of TermKind.mark) (λ i e. refl) es _ (s2 _ _)
rounds_form P Form.pcd t vs es full = pcd_rounds P es
rounds_form P Form.adv t vs es full = plain_rounds P (shape_of TermKind.adv) (λ i e. refl) es _ (s1 _)
rounds_form P Form.install t vs es full = plain_rounds P (shape_of TermKind.install) (λ i e. refl) es _ (s1 _)
rounds_form P Form.new_cell t vs es full = plain_rounds P (shape_of TermKind.new_cell) (λ i e. refl) es _ (s1_none _)
rounds_form P Form.read t vs es full = plain_rounds P (shape_of TermKind.read) (λ i e. refl) es _ (s1_none _)
rounds_form P Form.store t vs es full = plain_rounds P (shape_of TermKind.store) (λ i e. refl) es _ (s2 _ _)
rounds_form P Form.lower t vs es full = plain_rounds P (shape_of TermKind.lower) (λ i e. refl) es _ (s1 _)
rounds_form P Form.byte t vs es full = plain_rounds P (shape_of TermKind.byte) (λ i e. refl) es _ (s1_none _)
rounds_form P Form.obj t vs es full = plain_rounds P (shape_of TermKind.obj) (λ i e. refl) es _ s0
rounds_form P Form.call t vs es full = plain_rounds P (shape_of TermKind.call) (λ i e. refl) es _ (s1_none _)
rounds_form P Form.keep t vs es full = plain_rounds P (shape_of TermKind.keep) (λ i e. refl) es _ (s3 _ _ _)
rounds_form P Form.match t vs end full = elim full [ ]
rounds_form P Form.match t vs (more a end) full = elim full [ ]
rounds_form P Form.match t vs (more a (more b end)) full = elim full [ ]
rounds_form P Form.match t vs (more a (more b (more c r))) full = match_rounds P a b c r
rounds_form P Form.takedown t vs es full = plain_rounds P (shape_of TermKind.takedown) (λ i e. refl) es _ s0

-- What is installed: an advice takes its round.
module _ (P : Here) (p : Dom) where
  abbrev pub round_adds : Shape → ℕ → Tm → Numbers
  round_adds F i e = installed P p (role_at F i) e

abbrev pub round_numbers : Bool → Here → Dom → Numbers
round_numbers b P p = choose b (binds p 1 ⊕ (once (deeper P) ⊕ once P)) none
