-- What a step takes: induction over the term.
use Prim.Native.Nat.{ℕ}
use mathlib.Core.Path.{◌≡◌, refl, sym, ◌∙◌}
use mathlib.Core.Bool.{Bool, true, false, ◌&&◌}
use mathlib.Core.List.{List, [], ◌∷◌}
use mathlib.Core.Option.{some, some-injective}
use lib.Dec.{T}
use Rattle.calculus.specs.Syntax.{Dom, Ty, Val, Tm, Tms, Pattern, Op0, Op1, Op2, as_value, val, var, lam, op0, op1, op2, seq, ite, split, pcd, adv, lower, obj, keep, match, end, more, call, print, install, read, byte, new_cell, app, mark, store, plus, minus, less, equal}
use Rattle.calculus.specs.State.{State, Given, some_pieces}
use Rattle.calculus.specs.Answer.{Answer}
use Rattle.calculus.specs.Place.{Place, at, deeper, keeping}
use Rattle.calculus_needs.specs.Here.{Here, here}
use Rattle.calculus.specs.View.{label_of}
use Rattle.calculus.specs.Reduce.{reduce_pcd, reduce_match}
use Rattle.calculus.specs.Step.{step, step_first, before}
use Rattle.laws.proofs.Lists.{All, none_some}
use Rattle.calculus_needs.specs.Numbers.{Numbers, ◌⊕◌, dearer}
use Rattle.calculus_needs.specs.Class.{straight2, straight, all_straight}
use Rattle.calculus_needs.specs.Needs.{once, uses, variables, binds, a_piece_of, a_cell, a_label, an_advice, a_print, own1, own2, need, needs, round_of, installs, rounds, all_rounds, Extra, no_extra, a_new_label, kept_pieces, extra0, with_extra}
use Rattle.calculus_needs.specs.Used.{reach, reach_first}
use Rattle.calculus.specs.Typing.{Policy, StoreTyping}
use Rattle.calculus_safety.proofs.Inversion.{premises}
use Rattle.calculus_needs.specs.Claims.{Under}
use Rattle.calculus_needs.proofs.Typed.{Typed, AllTyped, typed_more, keep_label}
use Rattle.calculus_needs.proofs.Sums.{under_refl, under_trans, under_left, none_left, none_right, plus_assoc}
use Rattle.calculus_needs.proofs.Admitted.{both, first, second, Admitted, AllAdmitted, Over, Permits1}
use Rattle.calculus_needs.proofs.Takes.{standing, AdmittedAdvice, Takes, Takes.takes_wrong, takes_within, takes_as, takes_cases, takes_framed}
use Rattle.calculus_needs.proofs.Reductions.{takes0, takes1, takes2, takes_seq, takes_ite, takes_split, takes_adv, takes_lower, takes_pcd, takes_keep, takes_match}

abbrev nothing : Numbers
nothing = Rattle.calculus_needs.specs.Numbers.none

-- An advice stays one.
abbrev pub Keeps : Tm → Tm → Type 0
Keeps e e' = Over e → Over e' × ((Q : Here) → round_of Q e' ≡ round_of Q e)

permits_kept : (o : Op1) (e e' : Tm) → Permits1 true o e → Keeps e e' → Permits1 true o e'
permits_kept print e e' c k = tt
permits_kept install e e' c k = (tt, (k c.1).0)
permits_kept read e e' c k = tt
permits_kept byte e e' c k = tt
permits_kept new_cell e e' c k = tt
permits_kept (call m) e e' c k = c

installs_kept : (o : Op1) (e e' : Tm) → Permits1 true o e → Keeps e e' → (Q : Here) → installs o Q e' ≡ installs o Q e
installs_kept print e e' c k Q = refl
installs_kept install e e' c k Q = (k c.1).1 Q
installs_kept read e e' c k Q = refl
installs_kept byte e e' c k Q = refl
installs_kept new_cell e e' c k Q = refl
installs_kept (call m) e e' c k Q = refl

-- Every reduction is a step where it stands.
once_extra : (P : Here) (x : Extra) → Under (once P) (with_extra P x)
once_extra P no_extra = under_refl (once P)
once_extra P a_new_label = under_left (once P) a_label
once_extra P kept_pieces = under_left (once P) (uses P.dom (some_pieces P.kept))

once_own1 : (P : Here) (o : Op1) → Under (once P) (own1 P o)
once_own1 P print = under_left (once P) a_print
once_own1 P install = under_left (once P) an_advice
once_own1 P read = under_refl (once P)
once_own1 P byte = under_refl (once P)
once_own1 P new_cell = under_left (once P) (a_cell P.dom)
once_own1 P (call m) = under_left (once P) (binds P.dom 1)

once_own2 : (W : Here → Numbers) (P : Here) (o : Op2) → Under (once P) (own2 W P o)
once_own2 W P Op2.pair = under_left (once P) (a_piece_of P.dom)
once_own2 W P app = under_left (once P) (binds P.dom 1)
once_own2 W P mark = under_left (once P) (W P)
once_own2 W P store = under_refl (once P)
once_own2 W P plus = under_refl (once P)
once_own2 W P minus = under_refl (once P)
once_own2 W P less = under_refl (once P)
once_own2 W P equal = under_refl (once P)

-- A value needs nothing.
pub record NeedsNothing (W : Here → Numbers) (e : Tm) (v : Val) : Type 0 where
  pub needs' : (P : Here) → need W P e ≡ nothing
  pub rounds' : (Q : Here) → rounds Q e ≡ nothing
  pub straight' : T (straight e)
  pub kept : Keeps e (val v)

pub needs_nothing : (W : Here → Numbers) (e : Tm) (v : Val) → as_value e ≡ some v → NeedsNothing W e v
unfolding need rounds straight Over
needs_nothing W (val u) v eq = let same : u ≡ v = some-injective u v eq in record { needs' = λ P. refl; rounds' = λ Q. refl; straight' = tt; kept = rw (← same) (λ c. (c, λ Q. refl)) }
needs_nothing W (lam t b) v eq = record { needs' = λ P. refl; rounds' = λ Q. refl; straight' = tt; kept = λ c. absurd c }
needs_nothing W (var k) v eq = absurd (none_some eq)
needs_nothing W (op0 o t) v eq = absurd (none_some eq)
needs_nothing W (op1 o t e) v eq = absurd (none_some eq)
needs_nothing W (op2 o t e f) v eq = absurd (none_some eq)
needs_nothing W (seq e f) v eq = absurd (none_some eq)
needs_nothing W (ite e f g) v eq = absurd (none_some eq)
needs_nothing W (split e f) v eq = absurd (none_some eq)
needs_nothing W (pcd es) v eq = absurd (none_some eq)
needs_nothing W (adv p e b) v eq = absurd (none_some eq)
needs_nothing W (lower p e) v eq = absurd (none_some eq)
needs_nothing W (obj t bs) v eq = record { needs' = λ P. refl; rounds' = λ Q. refl; straight' = tt; kept = λ c. absurd c }
needs_nothing W (keep e f g) v eq = absurd (none_some eq)
needs_nothing W (match p es f g) v eq = absurd (none_some eq)

module _ (D : Policy) (Σ : StoreTyping) (G : Given) (W : Here → Numbers) (s : State) (A : All AdmittedAdvice s.advices) (sw : (Q : Here) → Under (standing Q s.advices) (W Q)) where
  abbrev Steps : Tm → Type 0
  Steps e = Typed D Σ e → Admitted true e → (P : Place) → Takes G W s (here P) (Keeps e) (need W (here P) e) (λ Q. rounds Q e) (straight e) (reach P.depth e) (step e G P s)

  -- An operand that is a value drops out.
  drop_left : {e : Tm} {v : Val} → NeedsNothing W e v → (P : Here) (m : Numbers) → m ≡ need W P e ⊕ m
  drop_left i P m = rw (i.needs' P) (sym (none_left m))

  drop_rounds : {e : Tm} {v : Val} → NeedsNothing W e v → (Q : Here) (m : Numbers) → m ≡ rounds Q e ⊕ m
  drop_rounds i Q m = rw (i.rounds' Q) (sym (none_left m))

  steps_op1 : (o : Op1) (t : Ty) (e : Tm) → Steps e → Steps (op1 o t e)
  unfolding step need rounds straight reach Admitted Over
  steps_op1 o t e h y c P =
      takes_cases G W s (as_value e) _ _
      (λ v eq. let i = needs_nothing W e v eq in
      takes_as G W s {b = straight e} (drop_left i (here (deeper P)) (own1 (here P) o)) (λ Q. installs_kept o e (val v) c.0 i.kept Q ∙ drop_rounds i Q (installs o Q e)) (λ t'. t')
      (takes_framed G W s P (once_own1 (here P) o) (takes1 G W s A P (Keeps (op1 o t e)) (λ e' x. absurd x) o t v (permits_kept o e (val v) c.0 i.kept))))
      (λ eq. takes_within G W s (own1 (here P) o) (λ Q. installs o Q e) (op1 o t) (λ t'. t')
      (λ e' k. record { needs = refl; rounds' = λ Q. rw (installs_kept o e e' c.0 k Q) refl; straight' = λ t' x. x; admitted' = λ c'. (permits_kept o e e' c.0 k, c'); holds = λ x. absurd x })
      (h (_, _, (premises y.2).3) c.1 (deeper P)))

  steps_op2 : (o : Op2) (t : Ty) (e f : Tm) → Steps e → Steps f → Steps (op2 o t e f)
  unfolding step need rounds straight reach Admitted Over
  steps_op2 o t e f h k y c P =
      takes_cases G W s (as_value e) _ _
      (λ v eq. let i = needs_nothing W e v eq in
      takes_as G W s {b = straight2 o && straight f} (drop_left i (here (deeper P)) (need W (here (deeper P)) f ⊕ own2 W (here P) o)) (λ Q. drop_rounds i Q (rounds Q f))
      (λ x. both (straight2 o) (straight f) (first (straight2 o) (straight e && straight f) x) (second (straight e) (straight f) (second (straight2 o) (straight e && straight f) x)))
      (takes_cases G W s (as_value f) _ _
      (λ u eq'. let j = needs_nothing W f u eq' in
      takes_as G W s {b = straight2 o} (drop_left j (here (deeper P)) (own2 W (here P) o)) (λ Q. refl) (λ x. first (straight2 o) (straight f) x)
      (takes_framed G W s P (once_own2 W (here P) o) (takes2 G W s A P (Keeps (op2 o t e f)) (λ e' x. absurd x) sw o t v u c.0 (λ x. x))))
      (λ eq'. takes_as G W s {b = straight2 o && straight f} refl (λ Q. none_right (rounds Q f)) (λ x. x)
      (takes_within G W s (own2 W (here P) o) (λ Q. nothing) (op2 o t (val v)) (λ x. second (straight2 o) (straight f) x)
      (λ f' x. record {
        needs = none_left (need W (here (deeper P)) f' ⊕ own2 W (here P) o);
        rounds' = λ Q. none_left (rounds Q f') ∙ sym (none_right (rounds Q f'));
        straight' = λ q z. both (straight2 o) (straight f') (first (straight2 o) (straight f) q) z;
        admitted' = λ c'. (c.0, tt, c');
        holds = λ q. absurd q;
      })
      (k (_, _, (premises y.2).5) c.2 (deeper P))))))
      (λ eq. takes_within G W s (need W (here (deeper P)) f ⊕ own2 W (here P) o) (λ Q. rounds Q f) (λ x. op2 o t x f) (λ x. first (straight e) (straight f) (second (straight2 o) (straight e && straight f) x))
      (λ e' x. record {
        needs = refl;
        rounds' = λ Q. refl;
        straight' = λ q z. both (straight2 o) (straight e' && straight f) (first (straight2 o) (straight e && straight f) q) (both (straight e') (straight f) z (second (straight e) (straight f) (second (straight2 o) (straight e && straight f) q)));
        admitted' = λ c'. (c.0, c', c.2);
        holds = λ q. absurd q;
      })
      (h (_, _, (premises y.2).4) c.1 (deeper P)))

  steps_seq : (e f : Tm) → Steps e → Steps (seq e f)
  unfolding step need rounds straight reach Admitted Over
  steps_seq e f h y c P =
      takes_cases G W s (as_value e) _ _
      (λ v eq. let i = needs_nothing W e v eq in
      takes_as G W s {b = straight f} (drop_left i (here (deeper P)) (once (here P) ⊕ need W (here P) f)) (λ Q. drop_rounds i Q (rounds Q f)) (λ x. second (straight e) (straight f) x)
      (takes_framed G W s P (under_left (once (here P)) (need W (here P) f)) (takes_seq G W s A P (Keeps (seq e f)) (λ e' x. absurd x) f v c.1)))
      (λ eq. takes_within G W s (once (here P) ⊕ need W (here P) f) (λ Q. rounds Q f) (λ x. seq x f) (λ x. first (straight e) (straight f) x)
      (λ e' x. record { needs = refl; rounds' = λ Q. refl; straight' = λ q z. both (straight e') (straight f) z (second (straight e) (straight f) q); admitted' = λ c'. (c', c.1); holds = λ q. absurd q })
      (h (_, _, (premises y.2).0) c.0 (deeper P)))

  steps_ite : (e f g : Tm) → Steps e → Steps (ite e f g)
  unfolding step need rounds straight reach Admitted Over
  steps_ite e f g h y c P =
      takes_cases G W s (as_value e) _ _
      (λ v eq. let i = needs_nothing W e v eq in
      takes_as G W s {b = false} (drop_left i (here (deeper P)) (once (here P) ⊕ dearer (need W (here P) f) (need W (here P) g))) (λ Q. drop_rounds i Q (rounds Q f ⊕ rounds Q g)) (λ x. x)
      (takes_framed G W s P (under_left (once (here P)) (dearer (need W (here P) f) (need W (here P) g))) (takes_ite G W s A P (Keeps (ite e f g)) (λ e' x. absurd x) f g v c.1 c.2)))
      (λ eq. takes_within G W s (once (here P) ⊕ dearer (need W (here P) f) (need W (here P) g)) (λ Q. rounds Q f ⊕ rounds Q g) (λ x. ite x f g) (λ x. absurd x)
      (λ e' x. record { needs = refl; rounds' = λ Q. refl; straight' = λ q z. q; admitted' = λ c'. (c', c.1, c.2); holds = λ q. absurd q })
      (h (_, _, (premises y.2).0) c.0 (deeper P)))

  steps_split : (e f : Tm) → Steps e → Steps (split e f)
  unfolding step need rounds straight reach Admitted Over
  steps_split e f h y c P =
      takes_cases G W s (as_value e) _ _
      (λ v eq. let i = needs_nothing W e v eq in
      takes_as G W s {b = straight f} (drop_left i (here (deeper P)) ((once (here P) ⊕ binds P.dom 2) ⊕ need W (here P) f)) (λ Q. drop_rounds i Q (rounds Q f)) (λ x. second (straight e) (straight f) x)
      (takes_framed G W s P (under_trans (under_left (once (here P)) (binds P.dom 2)) (under_left (once (here P) ⊕ binds P.dom 2) (need W (here P) f)))
      (takes_split G W s A P (Keeps (split e f)) (λ e' x. absurd x) f v c.1)))
      (λ eq. takes_within G W s ((once (here P) ⊕ binds P.dom 2) ⊕ need W (here P) f) (λ Q. rounds Q f) (λ x. split x f) (λ x. first (straight e) (straight f) x)
      (λ e' x. record { needs = refl; rounds' = λ Q. refl; straight' = λ q z. both (straight e') (straight f) z (second (straight e) (straight f) q); admitted' = λ c'. (c', c.1); holds = λ q. absurd q })
      (h (_, _, (premises y.2).2) c.0 (deeper P)))

  steps_adv : (p : Dom) (e b : Tm) → Steps e → Steps (adv p e b)
  unfolding step need rounds straight reach Admitted Over
  steps_adv p e b h y c P =
      takes_cases G W s (as_value e) _ _
      (λ v eq. let i = needs_nothing W e v eq in
      takes_as G W s {w = λ Q. rounds Q e} {b = straight e} (drop_left i (here (deeper P)) (once (here P) ⊕ a_piece_of P.dom)) (λ Q. refl) (λ x. x)
      (takes_framed G W s P (under_left (once (here P)) (a_piece_of P.dom)) (takes_adv G W s A P (Keeps (adv p e b)) p b v (λ ls x. (c.1, λ Q. refl)))))
      (λ eq. takes_as G W s {b = straight e} refl (λ Q. none_right (rounds Q e)) (λ x. x)
      (takes_within G W s (once (here P) ⊕ a_piece_of P.dom) (λ Q. nothing) (λ x. adv p x b) (λ x. x)
      (λ e' x. record { needs = refl; rounds' = λ Q. sym (none_right (rounds Q e')); straight' = λ q z. z; admitted' = λ c'. (c', c.1); holds = λ q. (tt, λ Q. refl) })
      (h (_, _, (premises y.2).3) c.0 (deeper P))))

  steps_lower : (p : Dom) (e : Tm) → Steps e → Steps (lower p e)
  unfolding step need rounds straight reach Admitted Over
  steps_lower p e h y c P =
      takes_cases G W s (as_value e) _ _
      (λ v eq. let i = needs_nothing W e v eq in
      takes_as G W s {w = λ Q. rounds Q e} {b = straight e} (drop_left i (here (at p (deeper P))) (once (here P))) (λ Q. refl) (λ x. x)
      (takes_framed G W s P (under_refl (once (here P))) (takes_lower G W s A P (Keeps (lower p e)) (λ e' x. absurd x) v)))
      (λ eq. takes_as G W s {b = straight e} refl (λ Q. none_right (rounds Q e)) (λ x. x)
      (takes_within G W s (once (here P)) (λ Q. nothing) (lower p) (λ x. x)
      (λ e' x. record { needs = refl; rounds' = λ Q. sym (none_right (rounds Q e')); straight' = λ q z. z; admitted' = λ c'. c'; holds = λ q. absurd q })
      (h (_, _, (premises y.2).2) c (at p (deeper P)))))

  -- Operands, after the values vs, latest first; k makes a term of them, of which rest is left.
  abbrev Firsts : Tms → Type 0
  Firsts es =
      AllTyped D Σ es → AllAdmitted true es → (P : Place) (vs : List Val) (k : Tms → Tm) (rest : Numbers) (wr : Here → Numbers) (br : Bool) → Under (once (here P)) rest
      → ((fs : Tms) → need W (here P) (k (before vs fs)) ≡ needs W (here (deeper P)) fs ⊕ rest) → ((fs : Tms) (Q : Here) → rounds Q (k (before vs fs)) ≡ all_rounds Q fs ⊕ wr Q)
      → ((fs : Tms) → T br → T (all_straight fs) → T (straight (k (before vs fs)))) → ((fs : Tms) → AllAdmitted true fs → Admitted true (k (before vs fs)))
      → (r : List Val → Answer State Tm) → ((ws : List Val) → Takes G W s (here P) (Keeps (pcd end)) rest wr br P.depth (r ws))
      → Takes G W s (here P) (Keeps (pcd end)) (needs W (here (deeper P)) es ⊕ rest) (λ Q. all_rounds Q es ⊕ wr Q) (all_straight es && br) (reach_first P.depth es) (step_first es G P s vs k r)

  firsts_end : Firsts end
  unfolding step_first needs all_rounds all_straight reach_first
  firsts_end y c P vs k rest wr br u kn kr ks kc r h = takes_as G W s {b = br} (sym (none_left rest)) (λ Q. sym (none_left (wr Q))) (λ x. x) (takes_framed G W s P u (h vs))

  firsts_more : (e : Tm) (es : Tms) → Steps e → Firsts es → Firsts (more e es)
  unfolding step_first need needs rounds all_rounds straight all_straight reach_first AllAdmitted Over
  firsts_more e es h hs y c P vs k rest wr br u kn kr ks kc r hr =
      takes_cases G W s (as_value e) _ _
      (λ v eq. let i = needs_nothing W e v eq in
      takes_as G W s {b = all_straight es && br} (rw (i.needs' (here (deeper P)), none_left (needs W (here (deeper P)) es)) refl) (λ Q. rw (i.rounds' Q, none_left (all_rounds Q es)) refl)
      (λ x. both (all_straight es) br (second (straight e) (all_straight es) (first (straight e && all_straight es) br x)) (second (straight e && all_straight es) br x))
      (hs (typed_more D Σ y.2).1 c.1 P (v ∷ vs) k rest wr br u (λ fs. kn (more (val v) fs) ∙ rw (none_left (needs W (here (deeper P)) fs)) refl) (λ fs Q. kr (more (val v) fs) Q ∙ rw (none_left (all_rounds Q fs)) refl)
      (λ fs x. ks (more (val v) fs) x) (λ fs x. kc (more (val v) fs) (tt, x)) r hr))
      (λ eq. takes_as G W s {b = (straight e && all_straight es) && br} (sym (plus_assoc (need W (here (deeper P)) e) (needs W (here (deeper P)) es) rest)) (λ Q. sym (plus_assoc (rounds Q e) (all_rounds Q es) (wr Q))) (λ x. x)
      (takes_within G W s (needs W (here (deeper P)) es ⊕ rest) (λ Q. all_rounds Q es ⊕ wr Q) (λ x. k (before vs (more x es))) (λ x. first (straight e) (all_straight es) (first (straight e && all_straight es) br x))
      (λ e' x. record {
        needs = kn (more e' es) ∙ plus_assoc (need W (here (deeper P)) e') (needs W (here (deeper P)) es) rest;
        rounds' = λ Q. kr (more e' es) Q ∙ plus_assoc (rounds Q e') (all_rounds Q es) (wr Q);
        straight' = λ q z. ks (more e' es) (second (straight e && all_straight es) br q) (both (straight e') (all_straight es) z (second (straight e) (all_straight es) (first (straight e && all_straight es) br q)));
        admitted' = λ c'. kc (more e' es) (c', c.1);
        holds = λ q. absurd q;
      })
      (h (typed_more D Σ y.2).0 c.0 (deeper P))))

  steps_pcd : (es : Tms) → Firsts es → Steps (pcd es)
  unfolding step need rounds straight reach Admitted Over
  steps_pcd es h y c P =
      takes_as G W s {b = all_straight es && true} refl (λ Q. none_right (all_rounds Q es)) (λ x. both (all_straight es) true x tt)
      (h (_, _, (premises y.2).4) c P [] pcd (once (here P) ⊕ a_piece_of P.dom) (λ Q. nothing) true (under_left (once (here P)) (a_piece_of P.dom)) (λ fs. refl) (λ fs Q. sym (none_right (all_rounds Q fs))) (λ fs b x. x) (λ fs x. x) (reduce_pcd P s)
      (λ ws. takes_pcd G W s A P (Keeps (pcd end)) (λ e x. absurd x) ws))

  steps_match : (p : Pattern) (es : Tms) (f g : Tm) → Firsts es → Steps (match p es f g)
  unfolding step need rounds straight reach Admitted Over
  steps_match p es f g h y c P =
      let rest = once (here P) ⊕ dearer (binds P.dom (variables p) ⊕ need W (here P) f) (need W (here P) g) in
      takes_as G W s {b = all_straight es && false} refl (λ Q. refl) (λ x. absurd x)
      (h (_, _, (premises y.2).2) c.0 P [] (λ x. match p x f g) rest (λ Q. rounds Q f ⊕ rounds Q g) false (under_left (once (here P)) (dearer (binds P.dom (variables p) ⊕ need W (here P) f) (need W (here P) g)))
      (λ fs. refl) (λ fs Q. refl) (λ fs b x. b) (λ fs x. (x, c.1, c.2)) (reduce_match P s p f g)
      (λ ws. takes_match G W s A P (Keeps (pcd end)) (λ e x. absurd x) p f g c.1 c.2 ws))

  kept_one : (v w : Val) (l : ℕ) → label_of v ≡ some l → (P : Place) → here (keeping v w (deeper P)) ≡ Rattle.calculus_needs.specs.Here.keeping (here (deeper P))
  kept_one v w l e P = rw e refl

  steps_keep : (e f g : Tm) → Steps e → Steps f → Steps g → Steps (keep e f g)
  unfolding step need rounds straight reach Admitted Over
  steps_keep e f g h k m y c P =
      let H = here (deeper P) in
      let K = Rattle.calculus_needs.specs.Here.keeping (here (deeper P)) in
      let b2 : (x : T (straight e && (straight f && straight g))) → T (straight f && straight g) = λ x. second (straight e) (straight f && straight g) x in
      takes_cases G W s (as_value e) _ _
      (λ v eq. let i = needs_nothing W e v eq in
      takes_as G W s {b = straight f && straight g} (drop_left i H (need W H f ⊕ (need W K g ⊕ once (here P)))) (λ Q. drop_rounds i Q (rounds Q f ⊕ rounds Q g)) b2
      (takes_cases G W s (as_value f) _ _
      (λ w eq'. let j = needs_nothing W f w eq' in
      takes_as G W s {b = straight g} (drop_left j H (need W K g ⊕ once (here P))) (λ Q. drop_rounds j Q (rounds Q g)) (λ x. second (straight f) (straight g) x)
      (takes_cases G W s (as_value g) _ _
      (λ u eq''. let z = needs_nothing W g u eq'' in
      takes_as G W s {b = straight g} (drop_left z K (once (here P))) (λ Q. refl) (λ x. x)
      (takes_framed G W s P (under_refl (once (here P))) (takes_keep G W s A P (Keeps (keep e f g)) (λ e' x. absurd x) u)))
      (λ eq''. let L = keep_label D Σ y.2 eq in
      let same_place = kept_one v w L.0 L.1 P in
      takes_as G W s {b = straight g} refl (λ Q. none_right (rounds Q g)) (λ x. x)
      (takes_within G W s (once (here P)) (λ Q. nothing) (keep (val v) (val w)) (λ x. x)
      (λ g' x. record {
        needs = none_left _ ∙ none_left (need W K g' ⊕ once (here P));
        rounds' = λ Q. none_left _ ∙ (none_left (rounds Q g') ∙ sym (none_right (rounds Q g')));
        straight' = λ q z. z;
        admitted' = λ c'. (tt, tt, c');
        holds = λ q. absurd q;
      })
      (rw same_place at (m (_, _, (premises y.2).3) c.2 (keeping v w (deeper P))))))))
      (λ eq'. takes_within G W s (need W K g ⊕ once (here P)) (λ Q. rounds Q g) (λ x. keep (val v) x g) (λ x. first (straight f) (straight g) x)
      (λ f' x. record {
        needs = none_left (need W H f' ⊕ (need W K g ⊕ once (here P)));
        rounds' = λ Q. none_left (rounds Q f' ⊕ rounds Q g);
        straight' = λ q z. both (straight f') (straight g) z (second (straight f) (straight g) q);
        admitted' = λ c'. (tt, c', c.2);
        holds = λ q. absurd q;
      })
      (k (_, _, (premises y.2).2) c.1 (deeper P)))))
      (λ eq. takes_within G W s (need W H f ⊕ (need W K g ⊕ once (here P))) (λ Q. rounds Q f ⊕ rounds Q g) (λ x. keep x f g) (λ x. first (straight e) (straight f && straight g) x)
      (λ e' x. record {
        needs = refl;
        rounds' = λ Q. refl;
        straight' = λ q z. both (straight e') (straight f && straight g) z (second (straight e) (straight f && straight g) q);
        admitted' = λ c'. (c', c.1, c.2);
        holds = λ q. absurd q;
      })
      (h (_, _, (premises y.2).1) c.0 (deeper P)))

  steps_op0 : (o : Op0) (t : Ty) → Steps (op0 o t)
  unfolding step need rounds straight reach Over
  steps_op0 o t y c P = takes_framed G W s P (once_extra (here P) (extra0 o)) (takes0 G W s A P (Keeps (op0 o t)) (λ e x. absurd x) o t (λ x. x))

  steps_var : (k : ℕ) → Steps (var k)
  unfolding step need rounds straight reach Over
  steps_var k y c P = absurd (none_some (premises y.2))

  steps_val : (v : Val) → Steps (val v)
  unfolding step
  steps_val v y c P = takes_wrong

  steps_lam : (t : Ty) (b : Tm) → Steps (lam t b)
  unfolding step
  steps_lam t b y c P = takes_wrong

  steps_obj : (t : Ty) (bs : Tms) → Steps (obj t bs)
  unfolding step
  steps_obj t bs y c P = takes_wrong

  mutual
    pub steps : (e : Tm) → Steps e
    steps (val v) = steps_val v
    steps (var k) = steps_var k
    steps (lam t b) = steps_lam t b
    steps (op0 o t) = steps_op0 o t
    steps (op1 o t e) = steps_op1 o t e (steps e)
    steps (op2 o t e f) = steps_op2 o t e f (steps e) (steps f)
    steps (seq e f) = steps_seq e f (steps e)
    steps (ite e f g) = steps_ite e f g (steps e)
    steps (split e f) = steps_split e f (steps e)
    steps (pcd es) = steps_pcd es (firsts es)
    steps (adv p e b) = steps_adv p e b (steps e)
    steps (lower p e) = steps_lower p e (steps e)
    steps (obj t bs) = steps_obj t bs
    steps (keep e f g) = steps_keep e f g (steps e) (steps f) (steps g)
    steps (match p es f g) = steps_match p es f g (firsts es)

    firsts : (es : Tms) → Firsts es
    firsts end = firsts_end
    firsts (more e es) = firsts_more e es (steps e) (firsts es)
