-- What each reduction takes.
use Prim.Native.Nat.{ℕ, suc, ◌+◌, ◌-◌, ◌*◌, ◌≤◌, max}
use native.Mathlib.Omega.{arith}
use mathlib.Core.Path.{◌≡◌, refl, sym, ap, ◌∙◌}
use mathlib.Core.Bool.{Bool, true, false}
use mathlib.Core.List.{List, [], ◌∷◌, ◌++◌, reverse, reverse_aux}
use mathlib.Core.Option.{Option, some, some-injective}
use lib.ListN.{length, get_elem?, length-append}
use lib.Dec.{T, nleb→lt, nltb→le}
use Rattle.calculus.specs.declared.Outcome.{Outcome}
use Rattle.calculus.specs.Limits.{label_limit, advice_limit, log_record_length}
use Rattle.calculus.specs.Combinators.{choose, cases, filtered}
use Rattle.calculus.specs.Syntax.{Dom, Ty, Val, Tm, Pattern, at_end, at_rest, anything, pointcut, Op0, Op1, Op2, val, new_label, abort, takedown, the_stack, call, print, install, read, byte, new_cell, app, mark, store, plus, minus, less, equal}
use Rattle.calculus.specs.State.{Advice, Event, State, Given, Counts, Uses, add_uses, at_dom, advice_bindings, drop_advice, without, other_than, Entry, with_uses, some_bindings, one_cell, one_piece, some_pieces, branched, with_cells, add_label, add_advice, add_event, prints, picked, print_of, log_of, cons_option}
use Rattle.calculus.specs.Answer.{Answer, reduct, with, spend}
use Rattle.calculus.specs.Place.{Place}
use Rattle.calculus_needs.specs.Here.{Here, here, at, deeper}
use Rattle.calculus.specs.Compose.{member, triggered_by, composed}
use Rattle.calculus.specs.Reduce.{reduce0, reduce1, reduce2, reduce_seq, reduce_ite, reduce_split, reduce_adv, reduce_lower, reduce_pcd, collect, reduce_keep, reduce_match, stack_val, branch, matched, match_on, cons_found, hits, subst_all}
use Rattle.calculus.specs.View.{unit_of, truth_of, number_of, pair_of, label_of, cell_of, labels_of, top_of}
use Rattle.calculus.specs.Subst.{subst}
use Rattle.calculus.specs.Plain.{dom_of, held_plain}
use Rattle.calculus.proofs.Filtered.{filtered_length}
use Rattle.laws.proofs.Lists.{All, All.all_nil, All.all_cons, all_snoc, all_reverse, none_some}
use Rattle.calculus_safety.proofs.StoreFits.{all_filtered}
use Rattle.calculus_needs.specs.Numbers.{Numbers, none, ◌⊕◌, dearer}
use Rattle.calculus_needs.specs.Class.{straight2, straight}
use Rattle.calculus_needs.specs.Needs.{once, spent, uses, variables, binds, a_cell, a_piece_of, a_label, an_advice, a_print, own0, own1, own2, need, round, round_of_value, installs, rounds, straight0}
use Rattle.calculus_needs.specs.Used.{used_up}
use Rattle.calculus_needs.specs.Claims.{Under}
use Rattle.calculus_needs.proofs.Sums.{same, under_refl, under_same, under_trans, under_plus, under_left, under_right, dearer_left, dearer_right, none_left, none_right, none_under, counts_left, counts_right, plus_assoc, plus_comm, plus_same, plus_none}
use Rattle.calculus_needs.proofs.Admitted.{Admitted, Over, OverValue, Permits1, Permits2, outside, rounds_none, need_same}
use Rattle.calculus_needs.proofs.Substituted.{need_subst, straight_subst, admitted_subst, rounds_subst}
use Rattle.calculus_needs.proofs.Takes.{standing, AdmittedAdvice, Meets, Gained, One, Takes, Takes.takes_go, Takes.takes_halt, Takes.takes_wrong, takes_value, takes_with, takes_capacity, takes_spend}

-- One step, and what it used, count by count.
gained : {b : Bool} (s : State) (g : Numbers) (s' : State) → g.steps ≡ 1 → s'.used ≡ add_uses s.used g.used
    → length s'.labels ≡ length s.labels + g.labels → length s'.advices ≡ length s.advices + g.advices → length (log_of s'.trace) ≡ length (log_of s.trace) + g.prints → Gained b s g s'
unfolding ◌⊕◌
gained s g s' a u e f h = λ k t. let all : used_up (suc k) (max t g.frames) s' ≡ used_up k t s ⊕ g = same (omega arith) (ap (λ x. x.mainline.bindings) u) (ap (λ x. x.mainline.cells) u) (ap (λ x. x.mainline.pieces) u) (ap (λ x. x.others.bindings) u) (ap (λ x. x.others.cells) u) (ap (λ x. x.others.pieces) u) e f h refl in record { under = under_same all; exact = λ x. all }

-- A step that leaves the counts.
gained_once : {b : Bool} (s s' : State) (P : Here) → s'.used ≡ s.used → s'.labels ≡ s.labels → s'.advices ≡ s.advices → s'.trace ≡ s.trace → Gained b s (once P) s'
gained_once s s' P u l a t =
    gained s (once P) s' refl (u ∙ sym (counts_right s.used)) (rw l (omega arith)) (rw a (omega arith)) (rw t (omega arith))

-- A step, and what it takes besides.
module _ (P : Here) where
  besides_one : (x : Numbers) → x.steps ≡ 0 → x.frames ≡ 0 → One P.depth (once P ⊕ x)
  unfolding ◌⊕◌
  besides_one x a b = (omega arith, omega arith)

  spent_used : (u : Uses) → u ≡ (once P ⊕ spent u).used
  unfolding ◌⊕◌
  spent_used u = sym (counts_left u)

  gained_besides : {b : Bool} (s s' : State) (x : Numbers) → x.steps ≡ 0 → s'.used ≡ add_uses s.used x.used → length s'.labels ≡ length s.labels + x.labels
      → length s'.advices ≡ length s.advices + x.advices → length (log_of s'.trace) ≡ length (log_of s.trace) + x.prints → Gained b s (once P ⊕ x) s'
  unfolding ◌⊕◌
  gained_besides s s' x a u l v t = gained s (once P ⊕ x) s' (omega arith) (u ∙ ap (add_uses s.used) (sym (counts_left x.used))) (omega arith) (omega arith) (omega arith)

  gained_spent : {b : Bool} (s s' : State) (u : Uses) → s'.used ≡ add_uses s.used u → s'.labels ≡ s.labels → s'.advices ≡ s.advices → s'.trace ≡ s.trace → Gained b s (once P ⊕ spent u) s'
  gained_spent s s' u eu el ea et = gained_besides s s' (spent u) refl eu (rw el (omega arith)) (rw ea (omega arith)) (rw et (omega arith))

log_print : (x : List Event) (p : Dom) (n : ℕ) (u : Counts) → length (log_of (x ++ (record { dom = p; said = prints n u } ∷ []))) ≡ length (log_of x) + 1
unfolding picked
log_print [] p n u = refl
log_print (a ∷ x) p n u = more (print_of a) _ _ (log_print x p n u)
  where
    more : {A : Type 0} (o : Option A) (y z : List A) → length y ≡ length z + 1 → length (cons_option o y) ≡ length (cons_option o z) + 1
    more Option.none y z h = h
    more (some b) y z h = omega arith

log_turn : (x : List Event) (p : Dom) (b : Bool) → length (log_of (x ++ (record { dom = p; said = branched b } ∷ []))) ≡ length (log_of x) + 0
unfolding picked
log_turn [] p b = refl
log_turn (a ∷ x) p b = more (print_of a) _ _ (log_turn x p b)
  where
    more : {A : Type 0} (o : Option A) (y z : List A) → length y ≡ length z + 0 → length (cons_option o y) ≡ length (cons_option o z) + 0
    more Option.none y z h = h
    more (some b) y z h = omega arith

-- A match finds as many values as its pattern has variables.
found : (p : Pattern) (us : List Val) (k : Val) (ws : List Val) → matched top_of labels_of p us k ≡ some ws → length ws ≡ variables p
unfolding cases
found at_end us k ws e = look (top_of k) e
  where
    look : (o : Option (Entry Val × Val)) → cases o (λ x. Option.none) (λ n. some []) ≡ some ws → length ws ≡ 0
    look Option.none x = let z : [] ≡ ws = some-injective [] ws x in rw (← z) refl
    look (some y) x = absurd (none_some x)
found at_rest us k ws e = let z : k ∷ [] ≡ ws = some-injective (k ∷ []) ws e in rw (← z) refl
found (anything p) us k ws e = look (top_of k) (λ r. found p us r ws) e
  where
    look : (o : Option (Entry Val × Val)) → ((r : Val) → matched top_of labels_of p us r ≡ some ws → length ws ≡ variables p)
        → cases o (λ x. matched top_of labels_of p us x.1) (λ n. Option.none) ≡ some ws → length ws ≡ variables p
    look Option.none h x = absurd (none_some x)
    look (some y) h x = h y.1 x
found (pointcut p) [] k ws e = absurd (none_some e)
found (pointcut p) (u ∷ us) k ws e = look (top_of k) (λ r xs. found p us r xs) e
  where
    one : (b : Bool) (v : Val) (o : Option (List Val)) → ((xs : List Val) → o ≡ some xs → length xs ≡ variables p) → choose b (cons_found v o) Option.none ≡ some ws → length ws ≡ suc (variables p)
    one true v (some xs) h x = let z : v ∷ xs ≡ ws = some-injective (v ∷ xs) ws x in rw (← z) (ap suc (h xs refl))
    one true v Option.none h x = absurd (none_some x)
    one false v o h x = absurd (none_some x)

    look : (o : Option (Entry Val × Val)) → ((r : Val) (xs : List Val) → matched top_of labels_of p us r ≡ some xs → length xs ≡ variables p)
        → cases o (λ x. choose (hits x.0.label (labels_of u)) (cons_found x.0.held (matched top_of labels_of p us x.1)) Option.none) (λ n. Option.none) ≡ some ws → length ws ≡ suc (variables p)
    look Option.none h x = absurd (none_some x)
    look (some y) h x = one (hits y.0.label (labels_of u)) y.0.held (matched top_of labels_of p us y.1) (h y.1) x

all_need : (W : Here → Numbers) (f : Tm) (P : Here) (ws : List Val) → need W P (subst_all ws f) ≡ need W P f
all_need W f P [] = refl
all_need W f P (v ∷ ws) = all_need W (subst (length ws) v f) P ws ∙ need_subst W v f P (length ws)

all_admitted_subst : (f : Tm) → Admitted true f → (ws : List Val) → Admitted true (subst_all ws f)
all_admitted_subst f c [] = c
all_admitted_subst f c (v ∷ ws) = all_admitted_subst (subst (length ws) v f) (admitted_subst v true f (length ws) c) ws

all_rounds_of : (f : Tm) → Admitted true f → (ws : List Val) (Q : Here) → rounds Q (subst_all ws f) ≡ rounds Q f
all_rounds_of f c [] Q = refl
all_rounds_of f c (v ∷ ws) Q = all_rounds_of (subst (length ws) v f) (admitted_subst v true f (length ws) c) ws Q ∙ rounds_subst v f c Q (length ws)

-- The bindings of the advice that a mark finds.
abbrev bound : List (Advice Tm) → Numbers
bound [] = none
bound (a ∷ x) = binds a.dom 1 ⊕ bound x

bound_count : (x : List (Advice Tm)) → bound x ≡ spent (advice_bindings x)
unfolding ◌⊕◌
bound_count [] = refl
bound_count (a ∷ x) = rw (bound_count x) refl

-- Advice that passes a test takes no more than all.
filtered_under : (p : Advice Tm → Bool) (Q : Here) (x : List (Advice Tm)) → Under (standing Q (filtered p x)) (standing Q x)
filtered_under p Q [] = under_refl none
filtered_under p Q (a ∷ x) = look (p a) (filtered_under p Q x)
  where
    look : (b : Bool) → Under (standing Q (filtered p x)) (standing Q x) → Under (standing Q (choose b (a ∷ filtered p x) (filtered p x))) (round Q a.dom a.body ⊕ standing Q x)
    look true r = under_plus (under_refl (round Q a.dom a.body)) r
    look false r = under_trans r (under_right (round Q a.dom a.body) (standing Q x))

standing_snoc : (Q : Here) (x : List (Advice Tm)) (a : Advice Tm) → standing Q (x ++ (a ∷ [])) ≡ standing Q x ⊕ round Q a.dom a.body
standing_snoc Q [] a = none_right (round Q a.dom a.body) ∙ sym (none_left (round Q a.dom a.body))
standing_snoc Q (b ∷ x) a = plus_same refl (standing_snoc Q x a) ∙ sym (plus_assoc (round Q b.dom b.body) (standing Q x) (round Q a.dom a.body))

-- In which order they stand does not matter.
standing_onto : (Q : Here) (x y : List (Advice Tm)) → standing Q (reverse_aux x y) ≡ standing Q x ⊕ standing Q y
standing_onto Q [] y = sym (none_left (standing Q y))
standing_onto Q (a ∷ x) y =
    let r = round Q a.dom a.body in
    standing_onto Q x (a ∷ y) ∙ (sym (plus_assoc (standing Q x) r (standing Q y)) ∙ plus_same (plus_comm (standing Q x) r) refl)

standing_reverse : (Q : Here) (x : List (Advice Tm)) → standing Q (reverse x) ≡ standing Q x
standing_reverse Q x = standing_onto Q x [] ∙ none_right (standing Q x)

-- What a mark becomes.
module _ (v : Val) where
  composed_admitted : {x : List (Advice Tm)} → All AdmittedAdvice x → Admitted true (composed v x)
  unfolding Admitted
  composed_admitted all_nil = tt
  composed_admitted (all_cons {x = a} h hs) = (outside (subst 0 v a.body) (admitted_subst v false a.body 0 h), composed_admitted hs)

  composed_rounds : {x : List (Advice Tm)} → All AdmittedAdvice x → (Q : Here) → rounds Q (composed v x) ≡ none
  unfolding rounds
  composed_rounds all_nil Q = refl
  composed_rounds (all_cons {x = a} h hs) Q = plus_none (rounds_none (subst 0 v a.body) (admitted_subst v false a.body 0 h) Q) (composed_rounds hs Q)

  swap : (k l m n : Numbers) → (k ⊕ l) ⊕ (m ⊕ n) ≡ (k ⊕ m) ⊕ (l ⊕ n)
  swap k l m n = rw (plus_assoc k l (m ⊕ n), ← plus_assoc l m n, plus_comm l m, plus_assoc m l n, ← plus_assoc k m (l ⊕ n)) refl

  -- The bindings first, then the bodies in sequence: in the order of the rounds.
  shuffle : (b r n l o c : Numbers) → (b ⊕ r) ⊕ ((n ⊕ l) ⊕ (o ⊕ c)) ≡ (b ⊕ (n ⊕ (l ⊕ o))) ⊕ (r ⊕ c)
  shuffle b r n l o c = rw (← plus_assoc (n ⊕ l) o c, plus_assoc n l o) (swap b r (n ⊕ (l ⊕ o)) c)

  composed_needs : (W : Here → Numbers) {x : List (Advice Tm)} → All AdmittedAdvice x → (P : Here) → bound x ⊕ need W P (composed v x) ≡ standing P x
  unfolding need
  composed_needs W all_nil P = none_left none
  composed_needs W (all_cons {x = a} {xs} h hs) P =
      let body : need W (at a.dom (deeper (deeper P))) (subst 0 v a.body) ≡ need (λ Q. none) (at a.dom (deeper (deeper P))) a.body =
      need_same W (subst 0 v a.body) (admitted_subst v false a.body 0 h) (at a.dom (deeper (deeper P))) ∙ need_subst (λ Q. none) v a.body (at a.dom (deeper (deeper P))) 0 in
      plus_same refl (plus_same (plus_same body refl) refl)
      ∙ (shuffle (binds a.dom 1) (bound xs) (need (λ Q. none) (at a.dom (deeper (deeper P))) a.body) (once (deeper P)) (once P) (need W P (composed v xs)) ∙ plus_same refl (composed_needs W hs P))

module _ (G : Given) (W : Here → Numbers) (s : State) (A : All AdmittedAdvice s.advices) (P : Place) where
  one_fewer : (k f : ℕ) (p : Dom) → Under (used_up (suc k) (max f P.depth) (drop_advice p s)) (used_up k f s ⊕ once (here P))
  unfolding ◌⊕◌
  one_fewer k f p =
      let l = filtered_length (other_than p) s.advices in
      record { steps = omega arith; bindings = omega arith; other_bindings = omega arith; cells = omega arith; other_cells = omega arith; pieces = omega arith; other_pieces = omega arith; labels = omega arith; advices = l' l; prints = omega arith; frames = omega arith }
    where
      l' : length (without p s.advices) ≤ length s.advices → length (without p s.advices) ≤ length s.advices + 0
      l' h = omega arith

  -- A step that uses u, if there is room.
  takes_spent : {X : Tm → Type 0} {m : Numbers} {w : Here → Numbers} {b : Bool} (u : Uses) (k : State → Answer State Tm) → Under (once (here P) ⊕ spent u) m
      → Takes G W s (here P) X m w b P.depth (k (with_uses (add_uses s.used u) s)) → Takes G W s (here P) X m w b P.depth (spend u s k)
  takes_spent u k l h = takes_spend G W s u k (once (here P) ⊕ spent u) (besides_one (here P) (spent u) refl refl) l (spent_used (here P) u) h

  -- A step that makes n pieces.
  pieces : (X : Tm → Type 0) {w : Here → Numbers} {b : Bool} (n : ℕ) (u : Val) → X (val u) → Takes G W s (here P) X (once (here P) ⊕ uses P.dom (some_pieces n)) w b P.depth (spend (at_dom P.dom (some_pieces n)) s (λ s'. reduct s' (val u)))
  pieces X n u x =
      takes_spent (at_dom P.dom (some_pieces n)) _ (under_refl _)
      (takes_value G W s (once (here P) ⊕ uses P.dom (some_pieces n)) refl (besides_one (here P) (uses P.dom (some_pieces n)) refl refl) (gained_spent (here P) s (with_uses (add_uses s.used (at_dom P.dom (some_pieces n))) s) (at_dom P.dom (some_pieces n)) refl refl refl refl) refl A x)

  -- A step that makes a piece.
  a_piece : (X : Tm → Type 0) {w : Here → Numbers} {b : Bool} (u : Val) → X (val u) → Takes G W s (here P) X (once (here P) ⊕ a_piece_of P.dom) w b P.depth (spend (at_dom P.dom one_piece) s (λ s'. reduct s' (val u)))
  a_piece X u x =
      takes_spent (at_dom P.dom one_piece) _ (under_refl _)
      (takes_value G W s (once (here P) ⊕ a_piece_of P.dom) refl (besides_one (here P) (a_piece_of P.dom) refl refl) (gained_spent (here P) s (with_uses (add_uses s.used (at_dom P.dom one_piece)) s) (at_dom P.dom one_piece) refl refl refl refl) refl A x)

  module _ (X : Tm → Type 0) (hx : (e : Tm) → X e) {w : Here → Numbers} {b : Bool} where
    -- A step to a value that leaves the counts.
    plain : {s' : State} (u : Val) → s'.used ≡ s.used → s'.labels ≡ s.labels → s.advices ≡ s'.advices → s'.trace ≡ s.trace → Takes G W s (here P) X (once (here P)) w b P.depth (reduct s' (val u))
    plain {s'} u eu el ea et = takes_value G W s (once (here P)) refl (refl, refl) (gained_once s s' (here P) eu el (sym ea) et) ea A (hx (val u))

    arithmetic : (x y : Option ℕ) (k : ℕ → ℕ → Val) → Takes G W s (here P) X (once (here P)) w b P.depth (with x (λ m. with y (λ n. reduct s (val (k m n)))))
    arithmetic x y k = takes_with G W s x _ (λ m e. takes_with G W s y _ (λ n e'. plain (k m n) refl refl refl refl))

    pub takes0 : (o : Op0) (t : Ty) → (T b → T (straight0 o)) → Takes G W s (here P) X (own0 (here P) o) w b P.depth (reduce0 G P s o t)
    unfolding ◌⊕◌ need rounds straight Admitted
    takes0 new_label t never =
        takes_capacity G W s _ Outcome.Labels (once (here P) ⊕ a_label) (besides_one (here P) a_label refl refl) (under_refl _) (λ n. let l = nltb→le (length s.labels) label_limit n in omega arith)
        (takes_value G W s (once (here P) ⊕ a_label) refl (besides_one (here P) a_label refl refl)
        (gained_besides (here P) s (add_label (dom_of t) s) a_label refl (sym (counts_right s.used)) (length-append s.labels (dom_of t ∷ [])) (omega arith) (omega arith)) refl A (hx _))
    takes0 abort t never = takes_halt (once (here P)) (refl, refl) (under_refl _)
    takes0 the_stack t never = pieces X (length P.kept) (stack_val P.kept) (hx (val (stack_val P.kept)))
    takes0 (takedown p) t never =
        takes_go {e' = val Val.unit} (once (here P)) (λ k f. record { under = one_fewer k f p; exact = λ x. absurd (never x) }) (refl, refl) (record { under = under_same (none_right (once (here P))); exact = λ x. none_right (once (here P)) }) (λ x. tt) tt (hx (val Val.unit)) (all_filtered (other_than p) A)
        (λ Q. rw (none_right (standing Q (without p s.advices))) (under_trans (filtered_under (other_than p) Q s.advices) (under_left (standing Q s.advices) (w Q))))

    pub takes_keep : (u : Val) → Takes G W s (here P) X (once (here P)) w b P.depth (reduce_keep s u)
    takes_keep u = plain u refl refl refl refl

    pub takes_lower : (v : Val) → Takes G W s (here P) X (once (here P)) w b P.depth (reduce_lower s v)
    takes_lower v = takes_with G W s (unit_of v) _ (λ u e. plain Val.unit refl refl refl refl)

    pub takes_pcd : (vs : List Val) → Takes G W s (here P) X (once (here P) ⊕ a_piece_of P.dom) w b P.depth (reduce_pcd P s vs)
    takes_pcd vs = takes_with G W s (collect vs []) _ (λ ls e. a_piece X (Val.pointcut ls) (hx (val (Val.pointcut ls))))

  module _ (X : Tm → Type 0) (hx : (e : Tm) → X e) {b : Bool} where
    takes_install : (t : Ty) (v : Val) → OverValue v → Takes G W s (here P) X (once (here P) ⊕ an_advice) (λ Q. round_of_value Q v) b P.depth (reduce1 G P s install t v)
    unfolding ◌⊕◌ OverValue with need rounds straight Admitted
    takes_install t (Val.advice p ls e) c =
        let a : Advice Tm = record { dom = p; labels = ls; body = e } in
        takes_capacity G W s _ Outcome.Advice (once (here P) ⊕ an_advice) (besides_one (here P) an_advice refl refl) (under_refl _) (λ n. let l = nltb→le (length s.advices) advice_limit n in omega arith)
        (takes_go {e' = val Val.unit} (once (here P) ⊕ an_advice)
        (gained_besides (here P) s (add_advice a s) an_advice refl (sym (counts_right s.used)) (omega arith) (length-append s.advices (a ∷ [])) (omega arith))
        (besides_one (here P) an_advice refl refl) (record { under = under_same (none_right _); exact = λ t'. none_right _ }) (λ t'. tt) tt (hx (val Val.unit)) (all_snoc A c)
        (λ Q. under_same (none_right (standing Q (s.advices ++ (a ∷ []))) ∙ standing_snoc Q s.advices a)))
    takes_install t Val.unit c = elim c [ ]
    takes_install t (Val.truth _) c = elim c [ ]
    takes_install t (Val.number _) c = elim c [ ]
    takes_install t (Val.pair _ _) c = elim c [ ]
    takes_install t (Val.fun _ _) c = elim c [ ]
    takes_install t (Val.label _) c = elim c [ ]
    takes_install t (Rattle.calculus.specs.Syntax.cell _) c = elim c [ ]
    takes_install t (Val.pointcut _) c = elim c [ ]
    takes_install t (Val.object _ _) c = elim c [ ]
    takes_install t Rattle.calculus.specs.Syntax.bottom c = elim c [ ]
    takes_install t (Rattle.calculus.specs.Syntax.kept _ _ _) c = elim c [ ]

    pub takes1 : (o : Op1) (t : Ty) (v : Val) → Permits1 true o (val v) → Takes G W s (here P) X (own1 (here P) o) (λ Q. installs o Q (val v)) b P.depth (reduce1 G P s o t v)
    unfolding ◌⊕◌ Over
    takes1 print t v c =
        takes_with G W s (number_of v) _
        (λ n e. takes_capacity G W s _ Outcome.Log (once (here P) ⊕ a_print) (besides_one (here P) a_print refl refl) (under_refl _)
        (λ r. let l = nleb→lt log_record_length (G.log_length - log_record_length * length (log_of s.trace)) r in omega arith)
        (takes_value G W s (once (here P) ⊕ a_print) refl (besides_one (here P) a_print refl refl)
        (gained_besides (here P) s (add_event (record { dom = P.dom; said = prints n s.used.mainline }) s) a_print refl (sym (counts_right s.used)) (omega arith) (omega arith) (log_print s.trace P.dom n s.used.mainline)) refl A (hx (val Val.unit))))
    takes1 install t v c = takes_install t v c.1
    takes1 read t v c = takes_with G W s (cell_of v) _ (λ r e. takes_with G W s (get_elem? s.cells r) _ (λ k e'. plain X hx _ refl refl refl refl))
    takes1 byte t v c = takes_with G W s (number_of v) _ (λ n e. plain X hx _ refl refl refl refl)
    takes1 (call m) t v c = absurd c
    takes1 new_cell t v c =
        takes_spent (at_dom P.dom one_cell) _ (under_refl _)
        (takes_value G W s (once (here P) ⊕ a_cell P.dom) refl (besides_one (here P) (a_cell P.dom) refl refl)
        (gained_spent (here P) s (with_cells (s.cells ++ (record { dom = dom_of t; plain = held_plain t; held = v } ∷ [])) (with_uses (add_uses s.used (at_dom P.dom one_cell)) s)) (at_dom P.dom one_cell) refl refl refl refl) refl A (hx _))

  -- What goes on after a value.
  module _ (X : Tm → Type 0) (hx : (e : Tm) → X e) where
    onward : {s' : State} {w : Here → Numbers} {b : Bool} {m : Numbers} (e : Tm) (g : Numbers) → Gained b s g s' → One P.depth g → s.advices ≡ s'.advices → Admitted true e
        → (T b → T (straight e)) → Meets b (g ⊕ need W (here P) e) m → ((Q : Here) → Under (rounds Q e) (w Q)) → Takes G W s (here P) X m w b P.depth (reduct s' e)
    onward e g gd fr ea c st m u = takes_go {e' = e} g gd fr m st c (hx e) (rw ea at A) (λ Q. rw (← ea) (under_plus (under_refl (standing Q s.advices)) (u Q)))

    pub takes_seq : (f : Tm) (v : Val) → Admitted true f → Takes G W s (here P) X (once (here P) ⊕ need W (here P) f) (λ Q. rounds Q f) (straight f) P.depth (reduce_seq s f v)
    takes_seq f v c =
        takes_with G W s (unit_of v) _
        (λ u e. onward f (once (here P)) (gained_once s s (here P) refl refl refl refl) (refl, refl) refl c (λ t. t) (record { under = under_refl _; exact = λ t. refl }) (λ Q. under_refl (rounds Q f)))

    pub takes_ite : (f g : Tm) (v : Val) → Admitted true f → Admitted true g
        → Takes G W s (here P) X (once (here P) ⊕ dearer (need W (here P) f) (need W (here P) g)) (λ Q. rounds Q f ⊕ rounds Q g) false P.depth (reduce_ite s f g v)
    takes_ite f g v cf cg = takes_with G W s (truth_of v) _ (λ x e. branch x)
      where
        branch : (x : Bool) → Takes G W s (here P) X (once (here P) ⊕ dearer (need W (here P) f) (need W (here P) g)) (λ Q. rounds Q f ⊕ rounds Q g) false P.depth (reduct s (choose x f g))
        branch true =
            onward f (once (here P)) (gained_once s s (here P) refl refl refl refl) (refl, refl) refl cf (λ t. absurd t)
            (record { under = under_plus (under_refl (once (here P))) (dearer_left (need W (here P) f) (need W (here P) g)); exact = λ t. absurd t }) (λ Q. under_left (rounds Q f) (rounds Q g))
        branch false =
            onward g (once (here P)) (gained_once s s (here P) refl refl refl refl) (refl, refl) refl cg (λ t. absurd t)
            (record { under = under_plus (under_refl (once (here P))) (dearer_right (need W (here P) f) (need W (here P) g)); exact = λ t. absurd t }) (λ Q. under_right (rounds Q f) (rounds Q g))

    -- A step that uses u and goes on with e.
    takes_bound : {w : Here → Numbers} {b : Bool} {m : Numbers} (u : Uses) (e : Tm) → Admitted true e → (T b → T (straight e)) → Meets b ((once (here P) ⊕ spent u) ⊕ need W (here P) e) m → ((Q : Here) → Under (rounds Q e) (w Q))
        → Takes G W s (here P) X m w b P.depth (spend u s (λ s'. reduct s' e))
    takes_bound u e c st m l =
        takes_spent u _ (under_trans (under_left (once (here P) ⊕ spent u) (need W (here P) e)) m.under)
        (onward e (once (here P) ⊕ spent u) (gained_spent (here P) s (with_uses (add_uses s.used u) s) u refl refl refl refl) (besides_one (here P) (spent u) refl refl) refl c st m l)

    pub takes_split : (f : Tm) (v : Val) → Admitted true f → Takes G W s (here P) X ((once (here P) ⊕ binds P.dom 2) ⊕ need W (here P) f) (λ Q. rounds Q f) (straight f) P.depth (reduce_split P s f v)
    takes_split f v c = takes_with G W s (pair_of v) _ (λ vw e. open' vw.0 vw.1)
      where
        open' : (x y : Val) → Takes G W s (here P) X ((once (here P) ⊕ binds P.dom 2) ⊕ need W (here P) f) (λ Q. rounds Q f) (straight f) P.depth (spend (at_dom P.dom (some_bindings 2)) s (λ s'. reduct s' (subst 0 y (subst 1 x f))))
        open' x y =
            let n : need W (here P) (subst 0 y (subst 1 x f)) ≡ need W (here P) f = need_subst W y (subst 1 x f) (here P) 0 ∙ need_subst W x f (here P) 1 in
            let t : straight (subst 0 y (subst 1 x f)) ≡ straight f = straight_subst y (subst 1 x f) 0 ∙ straight_subst x f 1 in
            let c' = admitted_subst x true f 1 c in
            takes_bound (at_dom P.dom (some_bindings 2)) (subst 0 y (subst 1 x f)) (admitted_subst y true (subst 1 x f) 0 c') (λ z. rw t z) (record { under = rw n (under_refl _); exact = λ z. rw n refl })
            (λ Q. under_same (rounds_subst y (subst 1 x f) c' Q 0 ∙ rounds_subst x f c Q 1))

    takes_mark : ((Q : Here) → Under (standing Q s.advices) (W Q)) → {w : Here → Numbers} {b : Bool} (l : ℕ) (u : Val) → (T b → ⊥)
        → Takes G W s (here P) X (once (here P) ⊕ W (here P)) w b P.depth (spend (advice_bindings (triggered_by l s.advices)) s (λ s'. reduct s' (composed u (triggered_by l s.advices))))
    takes_mark sw {w} l u never =
        let x = triggered_by l s.advices in
        let admitted = all_filtered (λ a. member l a.labels) (all_reverse A) in
        let body = composed u x in
        let rounds-under : Under (standing (here P) x) (W (here P)) = under_trans (filtered_under (λ a. member l a.labels) (here P) (reverse s.advices)) (under_trans (under_same (standing_reverse (here P) s.advices)) (sw (here P))) in
        let all : (once (here P) ⊕ spent (advice_bindings x)) ⊕ need W (here P) body ≡ once (here P) ⊕ standing (here P) x = rw (← bound_count x, plus_assoc (once (here P)) (bound x) (need W (here P) body), composed_needs u W admitted (here P)) refl in
        takes_bound (advice_bindings x) body (composed_admitted u admitted) (λ t. absurd (never t))
        (record { under = rw all (under_plus (under_refl (once (here P))) rounds-under); exact = λ t. absurd (never t) })
        (λ Q. rw (composed_rounds u admitted Q) (none_under (w Q)))

    pub takes2 : ((Q : Here) → Under (standing Q s.advices) (W Q)) → {w : Here → Numbers} {b : Bool} (o : Op2) (t : Ty) (v u : Val) → Permits2 true o → (T b → T (straight2 o))
        → Takes G W s (here P) X (own2 W (here P) o) w b P.depth (reduce2 G P s o t v u)
    takes2 sw Op2.pair t v u c st = a_piece X (Val.pair v u) (hx (val (Val.pair v u)))
    takes2 sw app t v u c st = absurd c
    takes2 sw mark t v u c st = takes_with G W s (label_of v) _ (λ l e. takes_with G W s (get_elem? s.labels l) _ (λ p e'. takes_mark sw l u st))
    takes2 sw store t v u c st = takes_with G W s (cell_of v) _ (λ r e. takes_with G W s (get_elem? s.cells r) _ (λ k e'. plain X hx Val.unit refl refl refl refl))
    takes2 sw plus t v u c st = arithmetic X hx (number_of v) (number_of u) _
    takes2 sw minus t v u c st = arithmetic X hx (number_of v) (number_of u) _
    takes2 sw less t v u c st = arithmetic X hx (number_of v) (number_of u) _
    takes2 sw equal t v u c st = arithmetic X hx (number_of v) (number_of u) _

    -- A match.
    module _ (p : Pattern) (f g : Tm) (cf : Admitted true f) (cg : Admitted true g) where
      abbrev Matched : Answer State Tm → Type 0
      Matched r = Takes G W s (here P) X (once (here P) ⊕ dearer (binds P.dom (variables p) ⊕ need W (here P) f) (need W (here P) g)) (λ Q. rounds Q f ⊕ rounds Q g) false P.depth r

      takes_branch : (o : Option (List Val)) → ((ws : List Val) → o ≡ some ws → length ws ≡ variables p) → Matched (branch P s (λ ws. subst_all ws f) g o)
      takes_branch Option.none n =
          onward g (once (here P)) (gained s (once (here P)) (add_event (record { dom = P.dom; said = branched false }) s) refl (sym (counts_right s.used)) (omega arith) (omega arith) (log_turn s.trace P.dom false))
          (refl, refl) refl cg (λ t. absurd t)
          (record { under = under_plus (under_refl (once (here P))) (dearer_right (binds P.dom (variables p) ⊕ need W (here P) f) (need W (here P) g)); exact = λ t. absurd t }) (λ Q. under_right (rounds Q f) (rounds Q g))
      takes_branch (some ws) n =
          let u = at_dom P.dom (some_bindings (variables p)) in
          let less : Under ((once (here P) ⊕ spent u) ⊕ need W (here P) (subst_all ws f)) (once (here P) ⊕ dearer (binds P.dom (variables p) ⊕ need W (here P) f) (need W (here P) g)) =
          rw (plus_assoc (once (here P)) (spent u) (need W (here P) (subst_all ws f)), all_need W f (here P) ws)
          (under_plus (under_refl (once (here P))) (dearer_left (binds P.dom (variables p) ⊕ need W (here P) f) (need W (here P) g))) in
          rw (n ws refl)
          (takes_spent u _ (under_trans (under_left (once (here P) ⊕ spent u) (need W (here P) (subst_all ws f))) less)
          (onward (subst_all ws f) (once (here P) ⊕ spent u)
          (gained_besides (here P) s (add_event (record { dom = P.dom; said = branched true }) (with_uses (add_uses s.used u) s)) (spent u) refl refl (omega arith) (omega arith) (log_turn s.trace P.dom true))
          (besides_one (here P) (spent u) refl refl) refl (all_admitted_subst f cf ws) (λ t. absurd t) (record { under = less; exact = λ t. absurd t })
          (λ Q. rw (all_rounds_of f cf ws Q) (under_left (rounds Q f) (rounds Q g)))))

      pub takes_match : (vs : List Val) → Matched (reduce_match P s p f g vs)
      takes_match vs = look (reverse vs)
        where
          look : (us : List Val) → Matched (match_on top_of labels_of P s p (λ ws. subst_all ws f) g us)
          look [] = takes_wrong
          look (k ∷ us) = takes_branch (matched top_of labels_of p us k) (λ ws e. found p us k ws e)

  pub takes_adv : (X : Tm → Type 0) {w : Here → Numbers} {b : Bool} (p : Dom) (e : Tm) (v : Val) → ((ls : List ℕ) → X (val (Val.advice p ls e)))
      → Takes G W s (here P) X (once (here P) ⊕ a_piece_of P.dom) w b P.depth (reduce_adv P s p e v)
  takes_adv X p e v x = takes_with G W s (labels_of v) _ (λ ls eq. a_piece X (Val.advice p ls e) (x ls))
