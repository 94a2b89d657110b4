-- What is asked of a term, by its kind: what it takes itself, what its children add, and the dearest of its branches.
use Prim.Native.Nat.{ℕ, zero, suc, ◌+◌}
use native.Mathlib.Omega.{arith}
use native.Mathlib.Numerals.{add-one}
use mathlib.Core.Path.{◌≡◌, refl, sym, ap, ◌∙◌}
use mathlib.Core.Bool.{true, false}
use mathlib.Core.List.{List}
use Rattle.calculus.specs.Syntax.{Dom, Ty, Val, Tm, Tms, val, end, more}
use Rattle.calculus_needs.specs.Here.{Here, at, deeper}
use Rattle.calculus_needs.specs.Numbers.{Numbers, none, ◌⊕◌}
use Rattle.calculus_needs.specs.Needs.{Extra, no_extra, a_new_label, kept_pieces, extra0, once, binds, need, round, round_of, rounds}
use Rattle.calculus_needs.proofs.Sums.{none_left, none_right, plus_assoc, plus_comm}
use Rattle.image.specs.Kinds.{TermKind, Form, operator, form_of}
use Rattle.image.specs.Program.{nth, behind, assemble_as, assemble}
use Rattle.need_sums.specs.declared.shapes.Own.{Own}
use Rattle.need_sums.specs.declared.shapes.Role.{Role}
use Rattle.need_sums.specs.declared.shapes.Shape.{Shape}
use Rattle.need_sums.specs.declared.positions.Mode.{Mode}
use Rattle.need_sums.specs.declared.positions.Position.{Position}
use Rattle.need_sums.specs.Walks.{childless, own_of, shape_as, shape_of, role_at, child_position, branches, is_branch, is_advice_body, is_advised}
use Rattle.need_walk.specs.Counted.{here_of, counted}
use Rattle.need_terms.specs.GivenToChildren.{part_domain, branch_variables}
use Rattle.need_walk.proofs.Folds.{sums, choices, joined, joined_cong, joined_none, joined_nothing, joined_split}
use Rattle.need_walk.proofs.Shapes.{Full, own_numbers, running, branch_numbers, added_by, offered_by, adds, offers, need_form}
use Rattle.need_walk.proofs.Rounds.{installing, installed, rounds_adds, rounds_form, round_numbers, round_adds}

-- What a term takes itself.
abbrev own_counted_in : Mode → Tm → Here → Own → Dom → Numbers
own_counted_in Mode.Skip r P o p = none
own_counted_in Mode.Program r P o p = own_numbers o P (rounds P r)
own_counted_in Mode.Body r P o p = own_numbers o P none
own_counted_in Mode.AllAdvice r P o p = none
own_counted_in Mode.InstalledAdvice r P o p = round_numbers (is_advised o) P p

abbrev pub own_counted : Tm → Position → Own → Dom → Numbers
own_counted r s o p = own_counted_in s.mode r (here_of s) o p

-- What child i adds, and what it offers as a branch, x being what it takes.
abbrev pub added : Position → Role → Numbers → Numbers
added s role x = added_by (is_branch s role) x

abbrev pub offered : Position → Role → ℕ → Numbers → Numbers
offered s role v x = offered_by (is_branch s role) (branch_numbers s.dom.0 role v) x

module _ (r : Tm) (c : Dom) (d q : ℕ) (p : Dom) (v : ℕ) where
  abbrev position : Mode → Position
  position m = record { mode = m; dom = record { 0 = c }; depth = d; kept = q }

  abbrev P : Here
  P = record { dom = c; depth = d; kept = q }

  abbrev adds_at : Position → TermKind → ℕ → Tm → Numbers
  adds_at s k i e = added s (role_at (shape_of k) i) (counted r (child_position s (role_at (shape_of k) i) p) e)

  abbrev offers_at : Position → TermKind → ℕ → Tm → Numbers
  offers_at s k i e = offered s (role_at (shape_of k) i) v (counted r (child_position s (role_at (shape_of k) i) p) e)

  child_program : (role : Role) (e : Tm) → counted r (child_position (position Mode.Program) role p) e ≡ running (λ Q. rounds Q r) P p role e
  child_program Role.Skipped e = refl
  child_program Role.Operand e = ap (λ x. need (λ Q. rounds Q r) (record { dom = c; depth = x; kept = q }) e) (add-one d)
  child_program Role.Lowered e = ap (λ x. need (λ Q. rounds Q r) (record { dom = p; depth = x; kept = q }) e) (add-one d)
  child_program Role.Kept e = ap (λ x. need (λ Q. rounds Q r) (record { dom = c; depth = x; kept = q + 1 }) e) (add-one d) ∙ ap (λ x. need (λ Q. rounds Q r) (record { dom = c; depth = suc d; kept = x }) e) (add-one q)
  child_program Role.Next e = refl
  child_program Role.Branch e = refl
  child_program Role.FirstBranch e = refl
  child_program Role.AdviceBody e = refl
  child_program Role.Installed e = ap (λ x. need (λ Q. rounds Q r) (record { dom = c; depth = x; kept = q }) e) (add-one d)

  run_program : (k : TermKind) (t : Ty) (vs : List ℕ) (es : Tms) → Full k es → p ≡ part_domain k t vs → v ≡ branch_variables k vs
      → need (λ Q. rounds Q r) P (assemble k t vs es) ≡ own_numbers (shape_of k).own P (rounds P r) ⊕ (joined sums (adds_at (position Mode.Program) k) 0 es ⊕ joined choices (offers_at (position Mode.Program) k) 0 es)
  unfolding assemble
  run_program k t vs es full ep ev =
      rw (
        joined_cong sums (adds_at (position Mode.Program) k) (adds (λ Q. rounds Q r) P p v (shape_of k)) (λ i e. ap (λ x. added_by (branches (role_at (shape_of k) i)) x) (child_program (role_at (shape_of k) i) e)) 0 es,
        joined_cong choices (offers_at (position Mode.Program) k) (offers (λ Q. rounds Q r) P p v (shape_of k)) (λ i e. ap (λ x. offered_by (branches (role_at (shape_of k) i)) (branch_numbers c (role_at (shape_of k) i) v) x) (child_program (role_at (shape_of k) i) e)) 0 es,
        ep,
        ev,
      )
      (need_form (λ Q. rounds Q r) P (form_of k) t vs es full)

  child_body : (role : Role) (e : Tm) → counted r (child_position (position Mode.Body) role p) e ≡ running (λ Q. none) P p role e
  child_body Role.Skipped e = refl
  child_body Role.Operand e = ap (λ x. need (λ Q. none) (record { dom = c; depth = x; kept = q }) e) (add-one d)
  child_body Role.Lowered e = ap (λ x. need (λ Q. none) (record { dom = p; depth = x; kept = q }) e) (add-one d)
  child_body Role.Kept e = ap (λ x. need (λ Q. none) (record { dom = c; depth = x; kept = q + 1 }) e) (add-one d) ∙ ap (λ x. need (λ Q. none) (record { dom = c; depth = suc d; kept = x }) e) (add-one q)
  child_body Role.Next e = refl
  child_body Role.Branch e = refl
  child_body Role.FirstBranch e = refl
  child_body Role.AdviceBody e = refl
  child_body Role.Installed e = ap (λ x. need (λ Q. none) (record { dom = c; depth = x; kept = q }) e) (add-one d)

  run_body : (k : TermKind) (t : Ty) (vs : List ℕ) (es : Tms) → Full k es → p ≡ part_domain k t vs → v ≡ branch_variables k vs
      → need (λ Q. none) P (assemble k t vs es) ≡ own_numbers (shape_of k).own P none ⊕ (joined sums (adds_at (position Mode.Body) k) 0 es ⊕ joined choices (offers_at (position Mode.Body) k) 0 es)
  unfolding assemble
  run_body k t vs es full ep ev =
      rw (
        joined_cong sums (adds_at (position Mode.Body) k) (adds (λ Q. none) P p v (shape_of k)) (λ i e. ap (λ x. added_by (branches (role_at (shape_of k) i)) x) (child_body (role_at (shape_of k) i) e)) 0 es,
        joined_cong choices (offers_at (position Mode.Body) k) (offers (λ Q. none) P p v (shape_of k)) (λ i e. ap (λ x. offered_by (branches (role_at (shape_of k) i)) (branch_numbers c (role_at (shape_of k) i) v) x) (child_body (role_at (shape_of k) i) e)) 0 es,
        ep,
        ev,
      )
      (need_form (λ Q. none) P (form_of k) t vs es full)

  -- Rounds.
  child_rounds : (role : Role) (e : Tm) → counted r (child_position (position Mode.AllAdvice) role p) e ≡ installing P role e
  child_rounds Role.Skipped e = refl
  child_rounds Role.Operand e = refl
  child_rounds Role.Lowered e = refl
  child_rounds Role.Kept e = refl
  child_rounds Role.Next e = refl
  child_rounds Role.Branch e = refl
  child_rounds Role.FirstBranch e = refl
  child_rounds Role.AdviceBody e = refl
  child_rounds Role.Installed e = refl

  plain_tidy : (x : Numbers) → x ≡ none ⊕ (x ⊕ none)
  plain_tidy x = rw (none_right x, none_left x) refl

  run_rounds : (k : TermKind) (t : Ty) (vs : List ℕ) (es : Tms) → Full k es
      → rounds P (assemble k t vs es) ≡ none ⊕ (joined sums (adds_at (position Mode.AllAdvice) k) 0 es ⊕ joined choices (offers_at (position Mode.AllAdvice) k) 0 es)
  unfolding assemble
  run_rounds k t vs es full =
      rw (joined_cong sums (adds_at (position Mode.AllAdvice) k) (rounds_adds P (shape_of k)) (λ i e. child_rounds (role_at (shape_of k) i) e) 0 es, joined_nothing choices (offers_at (position Mode.AllAdvice) k) (λ i e. refl) 0 es)
      (rounds_form P (form_of k) t vs es full ∙ plain_tidy (joined sums (rounds_adds P (shape_of k)) 0 es))

  -- A round.
  child_round : (role : Role) (e : Tm) → counted r (child_position (position Mode.InstalledAdvice) role p) e ≡ installed P p role e
  child_round Role.Skipped e = refl
  child_round Role.Operand e = refl
  child_round Role.Lowered e = refl
  child_round Role.Kept e = refl
  child_round Role.Next e = refl
  child_round Role.Branch e = refl
  child_round Role.FirstBranch e = refl
  child_round Role.AdviceBody e = let z : d + 2 ≡ suc (suc d) = omega arith in ap (λ y. need (λ Q. none) (record { dom = p; depth = y; kept = q }) e) z
  child_round Role.Installed e = refl

  no_advice : (F : Shape) → is_advice_body F.first ≡ false → is_advice_body F.second ≡ false → is_advice_body F.third ≡ false → is_advice_body F.rest ≡ false
      → (i : ℕ) (e : Tm) → round_adds P p F i e ≡ rounds_adds P F i e
  no_advice F a b c' d' zero e = rw a refl
  no_advice F a b c' d' (suc zero) e = rw b refl
  no_advice F a b c' d' (suc (suc zero)) e = rw c' refl
  no_advice F a b c' d' (suc (suc (suc j))) e = rw d' refl

  plain_round : (F : Shape) (es : Tms) (x : Numbers) → x ≡ joined sums (rounds_adds P F) 0 es → ((i : ℕ) (e : Tm) → round_adds P p F i e ≡ rounds_adds P F i e)
      → x ⊕ none ≡ none ⊕ (joined sums (round_adds P p F) 0 es ⊕ none)
  plain_round F es x h all = rw (joined_cong sums (round_adds P p F) (rounds_adds P F) all 0 es, none_right x) (h ∙ plain_tidy (joined sums (rounds_adds P F) 0 es))

  t_round : (a x b y : Numbers) → a ⊕ (x ⊕ (b ⊕ y)) ≡ (x ⊕ y) ⊕ ((a ⊕ (b ⊕ (none ⊕ none))) ⊕ none)
  t_round a x b y =
      rw (none_left none, none_right b, none_right (a ⊕ b))
      (ap (λ z. a ⊕ z) (ap (λ z. x ⊕ z) (plus_comm b y) ∙ sym (plus_assoc x y b)) ∙ (plus_comm a ((x ⊕ y) ⊕ b) ∙ (plus_assoc (x ⊕ y) b a ∙ ap (λ z. (x ⊕ y) ⊕ z) (plus_comm b a))))

  round_unit : (i : ℕ) → round_adds P p (shape_of TermKind.adv) i (val Val.unit) ≡ none
  unfolding need rounds
  round_unit zero = refl
  round_unit (suc zero) = refl
  round_unit (suc (suc zero)) = refl
  round_unit (suc (suc (suc j))) = refl

  advice_round : (es : Tms) {p' : Dom} → p ≡ p' → rounds P (nth es 0) ⊕ round P p' (nth es 1) ≡ round_numbers true P p ⊕ (joined sums (round_adds P p (shape_of TermKind.adv)) 0 es ⊕ none)
  advice_round es e =
      rw (← e, joined_split sums (round_adds P p (shape_of TermKind.adv)) round_unit es, joined_none sums (round_adds P p (shape_of TermKind.adv)) (λ i x. refl) 0 (behind 3 es))
      (t_round (rounds P (nth es 0)) (binds p 1) (need (λ Q. none) (at p (deeper (deeper P))) (nth es 1)) (once (deeper P) ⊕ once P))

  -- No operator without operands is an advice.
  not_advised : (x : Extra) → is_advised (own_of x) ≡ false
  not_advised no_extra = refl
  not_advised a_new_label = refl
  not_advised kept_pieces = refl

  round_rest : {k : TermKind} (φ : Form k) (t : Ty) (vs : List ℕ) (es : Tms) → Full k es → p ≡ part_domain k t vs
      → rounds P (assemble_as φ t vs es) ⊕ round_of P (assemble_as φ t vs es) ≡ round_numbers (is_advised (shape_as φ).own) P p ⊕ (joined sums (round_adds P p (shape_as φ)) 0 es ⊕ none)
  unfolding rounds
  round_rest {k} (operator o n r) t vs es full ep =
      let F = childless (own_of (extra0 o)) in
      rw (not_advised (extra0 o)) (plain_round F es _ (rounds_form P {k = k} (operator o n r) t vs es full) (no_advice F refl refl refl refl))
  round_rest Form.unit t vs es full ep = plain_round (shape_of TermKind.unit) es _ (rounds_form P Form.unit t vs es full) (no_advice (shape_of TermKind.unit) refl refl refl refl)
  round_rest Form.truth t vs es full ep = plain_round (shape_of TermKind.truth) es _ (rounds_form P Form.truth t vs es full) (no_advice (shape_of TermKind.truth) refl refl refl refl)
  round_rest Form.number t vs es full ep = plain_round (shape_of TermKind.number) es _ (rounds_form P Form.number t vs es full) (no_advice (shape_of TermKind.number) refl refl refl refl)
  round_rest Form.var t vs es full ep = plain_round (shape_of TermKind.var) es _ (rounds_form P Form.var t vs es full) (no_advice (shape_of TermKind.var) refl refl refl refl)
  round_rest Form.seq t vs es full ep = plain_round (shape_of TermKind.seq) es _ (rounds_form P Form.seq t vs es full) (no_advice (shape_of TermKind.seq) refl refl refl refl)
  round_rest Form.print t vs es full ep = plain_round (shape_of TermKind.print) es _ (rounds_form P Form.print t vs es full) (no_advice (shape_of TermKind.print) refl refl refl refl)
  round_rest Form.ite t vs es full ep = plain_round (shape_of TermKind.ite) es _ (rounds_form P Form.ite t vs es full) (no_advice (shape_of TermKind.ite) refl refl refl refl)
  round_rest Form.pair t vs es full ep = plain_round (shape_of TermKind.pair) es _ (rounds_form P Form.pair t vs es full) (no_advice (shape_of TermKind.pair) refl refl refl refl)
  round_rest Form.split t vs es full ep = plain_round (shape_of TermKind.split) es _ (rounds_form P Form.split t vs es full) (no_advice (shape_of TermKind.split) refl refl refl refl)
  round_rest Form.fun t vs es full ep = plain_round (shape_of TermKind.fun) es _ (rounds_form P Form.fun t vs es full) (no_advice (shape_of TermKind.fun) refl refl refl refl)
  round_rest Form.app t vs es full ep = plain_round (shape_of TermKind.app) es _ (rounds_form P Form.app t vs es full) (no_advice (shape_of TermKind.app) refl refl refl refl)
  round_rest Form.arith t vs es full ep = plain_round (shape_of TermKind.arith) es _ (rounds_form P Form.arith t vs es full) (no_advice (shape_of TermKind.arith) refl refl refl refl)
  round_rest Form.mark t vs es full ep = plain_round (shape_of TermKind.mark) es _ (rounds_form P Form.mark t vs es full) (no_advice (shape_of TermKind.mark) refl refl refl refl)
  round_rest Form.pcd t vs es full ep = plain_round (shape_of TermKind.pcd) es _ (rounds_form P Form.pcd t vs es full) (no_advice (shape_of TermKind.pcd) refl refl refl refl)
  round_rest Form.adv t vs es full ep = advice_round es ep
  round_rest Form.install t vs es full ep = plain_round (shape_of TermKind.install) es _ (rounds_form P Form.install t vs es full) (no_advice (shape_of TermKind.install) refl refl refl refl)
  round_rest Form.new_cell t vs es full ep = plain_round (shape_of TermKind.new_cell) es _ (rounds_form P Form.new_cell t vs es full) (no_advice (shape_of TermKind.new_cell) refl refl refl refl)
  round_rest Form.read t vs es full ep = plain_round (shape_of TermKind.read) es _ (rounds_form P Form.read t vs es full) (no_advice (shape_of TermKind.read) refl refl refl refl)
  round_rest Form.store t vs es full ep = plain_round (shape_of TermKind.store) es _ (rounds_form P Form.store t vs es full) (no_advice (shape_of TermKind.store) refl refl refl refl)
  round_rest Form.lower t vs es full ep = plain_round (shape_of TermKind.lower) es _ (rounds_form P Form.lower t vs es full) (no_advice (shape_of TermKind.lower) refl refl refl refl)
  round_rest Form.byte t vs es full ep = plain_round (shape_of TermKind.byte) es _ (rounds_form P Form.byte t vs es full) (no_advice (shape_of TermKind.byte) refl refl refl refl)
  round_rest Form.obj t vs es full ep = plain_round (shape_of TermKind.obj) es _ (rounds_form P Form.obj t vs es full) (no_advice (shape_of TermKind.obj) refl refl refl refl)
  round_rest Form.call t vs es full ep = plain_round (shape_of TermKind.call) es _ (rounds_form P Form.call t vs es full) (no_advice (shape_of TermKind.call) refl refl refl refl)
  round_rest Form.keep t vs es full ep = plain_round (shape_of TermKind.keep) es _ (rounds_form P Form.keep t vs es full) (no_advice (shape_of TermKind.keep) refl refl refl refl)
  round_rest Form.match t vs end full ep = elim full [ ]
  round_rest Form.match t vs (more a end) full ep = elim full [ ]
  round_rest Form.match t vs (more a (more b end)) full ep = elim full [ ]
  round_rest Form.match t vs (more a (more b (more c' x))) full ep = plain_round (shape_of TermKind.match) (more a (more b (more c' x))) _ (rounds_form P Form.match t vs (more a (more b (more c' x))) full) (no_advice (shape_of TermKind.match) refl refl refl refl)
  round_rest Form.takedown t vs es full ep = plain_round (shape_of TermKind.takedown) es _ (rounds_form P Form.takedown t vs es full) (no_advice (shape_of TermKind.takedown) refl refl refl refl)

  run_round : (k : TermKind) (t : Ty) (vs : List ℕ) (es : Tms) → Full k es → p ≡ part_domain k t vs
      → rounds P (assemble k t vs es) ⊕ round_of P (assemble k t vs es) ≡ round_numbers (is_advised (shape_of k).own) P p ⊕ (joined sums (adds_at (position Mode.InstalledAdvice) k) 0 es ⊕ joined choices (offers_at (position Mode.InstalledAdvice) k) 0 es)
  unfolding assemble
  run_round k t vs es full ep =
      rw (joined_cong sums (adds_at (position Mode.InstalledAdvice) k) (round_adds P p (shape_of k)) (λ i e. child_round (role_at (shape_of k) i) e) 0 es, joined_nothing choices (offers_at (position Mode.InstalledAdvice) k) (λ i e. refl) 0 es)
      (round_rest (form_of k) t vs es full ep)

  run_skip : (k : TermKind) (es : Tms) → none ≡ none ⊕ (joined sums (adds_at (position Mode.Skip) k) 0 es ⊕ joined choices (offers_at (position Mode.Skip) k) 0 es)
  run_skip k es = rw (joined_nothing sums (adds_at (position Mode.Skip) k) (λ i e. refl) 0 es, joined_nothing choices (offers_at (position Mode.Skip) k) (λ i e. refl) 0 es) (plain_tidy none)

  in_mode : (m : Mode) (k : TermKind) (t : Ty) (vs : List ℕ) (es : Tms) → Full k es → p ≡ part_domain k t vs → v ≡ branch_variables k vs
      → counted r (position m) (assemble k t vs es) ≡ own_counted r (position m) (shape_of k).own p ⊕ (joined sums (adds_at (position m) k) 0 es ⊕ joined choices (offers_at (position m) k) 0 es)
  in_mode Mode.Skip k t vs es full ep ev = run_skip k es
  in_mode Mode.Program k t vs es full ep ev = run_program k t vs es full ep ev
  in_mode Mode.Body k t vs es full ep ev = run_body k t vs es full ep ev
  in_mode Mode.AllAdvice k t vs es full ep ev = run_rounds k t vs es full
  in_mode Mode.InstalledAdvice k t vs es full ep ev = run_round k t vs es full ep

-- Of any place.
pub by_kind : (r : Tm) (s : Position) (k : TermKind) (t : Ty) (vs : List ℕ) (es : Tms) → Full k es → counted r s (assemble k t vs es)
    ≡ own_counted r s (shape_of k).own (part_domain k t vs)
    ⊕ (joined sums (λ i e. added s (role_at (shape_of k) i) (counted r (child_position s (role_at (shape_of k) i) (part_domain k t vs)) e)) 0 es
    ⊕ joined choices (λ i e. offered s (role_at (shape_of k) i) (branch_variables k vs) (counted r (child_position s (role_at (shape_of k) i) (part_domain k t vs)) e)) 0 es)
by_kind r s k t vs es full = in_mode r s.dom.0 s.depth s.kept (part_domain k t vs) (branch_variables k vs) s.mode k t vs es full refl refl
