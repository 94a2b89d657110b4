-- Confinement: what a typed step at a domain may do to a state.
use Prim.Native.Nat.{ℕ, ◌-◌}
use native.Mathlib.Omega as nat
use mathlib.Core.Path.{◌≡◌, refl, sym, ap, subst as transp, ◌∙◌}
use mathlib.Core.Bool.{Bool, true, false}
use mathlib.Core.List.{List, [], ◌∷◌, ◌++◌, reverse}
use mathlib.Core.Option.{Option, none, some}
use lib.ListN.{get_elem?}
use lib.Dec.{leb}
use borrow.Author.Tests.{le-leb}
use Rattle.calculus.specs.declared.Outcome.{Outcome}
use Rattle.calculus.specs.Limits.{binding_limit, cell_limit, piece_limit}
use Rattle.calculus.specs.Combinators.{cases, choose}
use Rattle.calculus.specs.Syntax.{Dom, Ty, Val, Tm, Tms, Op0, Op1, Op2, as_value, Pattern}
use Rattle.calculus.specs.State.{Cell, Advice, Event, Counts, Uses, no_counts, add_counts, at_dom, advice_bindings, State, Given, with_uses, with_cells, stored, add_label, add_advice, drop_advice, add_event}
use Rattle.calculus.specs.View.{unit_of, truth_of, number_of, pair_of, body_of, cell_of, labels_of, bodies_of, top_of}
use Rattle.calculus.specs.Numbers.{sum, difference, is_less, is_equal}
use Rattle.calculus.specs.Answer.{Answer, reduct, at_capacity, halt, wrong, carry, within, by_capacity, with, spend}
use Rattle.calculus.specs.Place.{Place, at, deeper, keeping}
use Rattle.calculus.specs.Compose.{member, matching, triggered_by}
use Rattle.calculus.specs.Reduce.{reduce0, reduce1, reduce2, num, truth, arith, collect, method_body, matched, branch, match_on, subst_all, reduce_match}
use Rattle.calculus.specs.Step.{step, step_first}
use Rattle.calculus.specs.Typing.{Policy, StoreTyping, ◌⊢◌⦂◌ as Rule0, ◌⊢◌⦂◌⇒◌ as Rule1, ◌⊢◌⦂◌⇒◌⇒◌ as Rule2, ⊢◌⦂◌ as ValTy, ◌⨾◌⊢◌⦂◌ as TmTy, ◌⨾◌⊢*◌⦂◌ as TmsTy, t_new_label, t_abort, t_takedown, t_stack, t_print, t_install, t_read, t_byte, t_new_cell, t_call, t_pair, t_app, t_mark, t_store, t_plus, t_minus, t_less, t_equal, v_cell, v_label, v_advice, is_val, is_var, is_lam, is_op0, is_op1, is_op2, is_seq, is_ite, is_split, is_pcd, is_adv, is_lower, is_obj, is_keep, is_matching, is_end, is_more}
use Rattle.laws.proofs.Lists.{All, All.all_nil, All.all_cons, all_map, all_reverse}
use Rattle.calculus_safety.proofs.StoreFits.{StateFits, AdviceFits, AdviceFits.advice_fits}
use Rattle.calculus_safety.proofs.Values.{val_ty}
use Rattle.calculus_safety.proofs.Composed.{member_label}
use Rattle.calculus_noninterference.specs.Observe.{Highs, lacks_mainline}
use Rattle.calculus_noninterference.proofs.Store.{cell_dom}
use Rattle.calculus_noninterference.proofs.Clash.{clash}
use Rattle.calculus_noninterference.proofs.Quotas.{add_none, at_low, advice_low}

-- Where nothing is needed there is room.
none_needed : {n : ℕ} (m : ℕ) → n ≡ 0 → leb n m ≡ true
none_needed {n} m e = le-leb n m (omega nat.arith)

module _ (hi : Dom → Bool) where
  -- p is high only where c is.
  abbrev pub Under : Dom → Dom → Type 0
  Under p c = hi p ≡ true → hi c ≡ true

  pub low_of : {p c : Dom} → Under p c → hi c ≡ false → hi p ≡ false
  low_of {p} u f = pick (hi p) refl
    where
      pick : (b : Bool) → hi p ≡ b → hi p ≡ false
      pick true e = clash (u e) f
      pick false e = e

  -- A low domain c uses nothing of domain 0's half (card 9).
  abbrev pub Spares : Dom → Uses → Uses → Type 0
  Spares c v u = hi c ≡ false → v.mainline ≡ u.mainline

  -- What a step at c may do to a state: the cells that it makes or changes, the advice that it installs or takes down and what it says are of domains under c.
  pub data Effect (c : Dom) (s : State) : State → Type 0 where
    e_charge : {u : Uses} → Spares c s.used u → Effect c s (with_uses u s)
    e_cell : {u : Uses} → Spares c s.used u → (a : Cell Val) → Under a.dom c → Effect c s (with_cells (s.cells ++ (a ∷ [])) (with_uses u s))
    e_store : (r : ℕ) (a : Cell Val) (v : Val) → get_elem? s.cells r ≡ some a → Under a.dom c → Effect c s (stored r a v s)
    -- a label may be of any domain: the rule for new labels is not needed here
    e_label : (p : Dom) → Effect c s (add_label p s)
    e_advice : (a : Advice Tm) → Under a.dom c → Effect c s (add_advice a s)
    e_clear : (p : Dom) → Under p c → Effect c s (drop_advice p s)
    e_event : {u : Uses} → Spares c s.used u → (a : Event) → Under a.dom c → Effect c s (add_event a (with_uses u s))

  effect_up : {c p : Dom} {s s' : State} → Under p c → Effect p s s' → Effect c s s'
  effect_up u (e_charge x) = e_charge (λ f. x (low_of u f))
  effect_up u (e_cell y a x) = e_cell (λ f. y (low_of u f)) a (λ h. u (x h))
  effect_up u (e_store r a v e x) = e_store r a v e (λ h. u (x h))
  effect_up u (e_label p) = e_label p
  effect_up u (e_advice a x) = e_advice a (λ h. u (x h))
  effect_up u (e_clear p x) = e_clear p (λ h. u (x h))
  effect_up u (e_event y a x) = e_event (λ f. y (low_of u f)) a (λ h. u (x h))

  -- The state stays.
  pub e_stay : {c : Dom} {s : State} → Effect c s s
  e_stay = e_charge (λ f. refl)

  -- An answer to a step at c over s, if the step was made, had only such an effect.
  pub data Confined (c : Dom) (s : State) : Answer State Tm → Type 0 where
    c_go : {s' : State} {e : Tm} → Effect c s s' → Confined c s (reduct s' e)
    -- a low domain does not find that domain 0 lacks room (card 9)
    c_full : {o : Outcome} → (hi c ≡ false → lacks_mainline o ≡ false) → Confined c s (at_capacity o)
    c_halt : Confined c s halt
    c_wrong : Confined c s wrong

  confined_up : {c p : Dom} {s : State} {a : Answer State Tm} → Under p c → Confined p s a → Confined c s a
  confined_up u (c_go m) = c_go (effect_up u m)
  confined_up u (c_full x) = c_full (λ f. x (low_of u f))
  confined_up u c_halt = c_halt
  confined_up u c_wrong = c_wrong

  module _ {c : Dom} {s : State} where
    confined_within : {a : Answer State Tm} (k : Tm → Tm) → Confined c s a → Confined c s (within k a)
    unfolding carry
    confined_within k (c_go m) = c_go m
    confined_within k (c_full x) = c_full x
    confined_within k c_halt = c_halt
    confined_within k c_wrong = c_wrong

    confined_capacity : (b : Bool) (o : Outcome) {a : Answer State Tm} → lacks_mainline o ≡ false → Confined c s a → Confined c s (by_capacity b o a)
    unfolding by_capacity
    confined_capacity true o n m = m
    confined_capacity false o n m = c_full (λ f. n)

    confined_mainline : (b : Bool) (o : Outcome) {a : Answer State Tm} → (hi c ≡ false → b ≡ true) → Confined c s a → Confined c s (by_capacity b o a)
    unfolding by_capacity
    confined_mainline true o n m = m
    confined_mainline false o n m = c_full (λ f. clash (n f) refl)

    confined_spend : (n : Uses) (k : State → Answer State Tm) → (hi c ≡ false → n.mainline ≡ no_counts) → ((u : Uses) → Spares c s.used u → Confined c s (k (with_uses u s))) → Confined c s (spend n s k)
    unfolding spend
    confined_spend n k z m =
        confined_mainline _ _ (λ f. none_needed (binding_limit - s.used.mainline.bindings) (ap (λ u. u.bindings) (z f)))
        (confined_mainline _ _ (λ f. none_needed (cell_limit - s.used.mainline.cells) (ap (λ u. u.cells) (z f)))
        (confined_mainline _ _ (λ f. none_needed (piece_limit - s.used.mainline.pieces) (ap (λ u. u.pieces) (z f)))
        (confined_capacity _ _ refl (confined_capacity _ _ refl (confined_capacity _ _ refl (m _ (λ f. sym (ap (add_counts s.used.mainline) (z f) ∙ add_none s.used.mainline))))))))

    confined_with : {A : Type 0} (o : Option A) (k : A → Answer State Tm) → ((a : A) → Confined c s (k a)) → Confined c s (with o k)
    unfolding with
    confined_with none k m = c_wrong
    confined_with (some a) k m = m a

    confined_some : {A : Type 0} {o : Option A} {a : A} (k : A → Answer State Tm) → o ≡ some a → Confined c s (k a) → Confined c s (with o k)
    unfolding with
    confined_some k e m = rw e m

    confined_cases : {A : Type 0} (o : Option A) (k : A → Answer State Tm) (a : Unit {0} → Answer State Tm) → ((v : A) → o ≡ some v → Confined c s (k v)) → Confined c s (a tt) → Confined c s (cases o k a)
    unfolding cases
    confined_cases none k a m n = n
    confined_cases (some v) k a m n = m v refl

  module _ {D : Policy} (H : Highs D hi) where
    -- What is below c in the order is under c.
    under : {p c : Dom} → D.leq p c ≡ true → Under p c
    under {p} {c} l h = H.up p c h l

    -- What is charged to the current domain.
    confined_at : {c : Dom} {s : State} (n : Counts) (k : State → Answer State Tm) → ((u : Uses) → Spares c s.used u → Confined c s (k (with_uses u s))) → Confined c s (spend (at_dom c n) s k)
    confined_at {c} n k m = confined_spend (at_dom c n) k (at_low hi H.mainline c n) m

    -- The advice that a label of domain c triggers is of domains under c (card 9).
    under_matching : {Σ : StoreTyping} {b : Ty} {c : Dom} (l : ℕ) → get_elem? Σ.labels l ≡ some (Ty.label b c) → {x : List (Advice Tm)} → All (AdviceFits D Σ) x → All (λ a. Under a.dom c) (matching l x)
    under_matching l g all_nil = all_nil
    under_matching {c} l g (all_cons {x = a} {xs} (advice_fits {p} {q} {ls} labels o body) rest) = look (member l ls) refl (under_matching l g rest)
      where
        look : (m : Bool) → member l ls ≡ m → All (λ a. Under a.dom c) (matching l xs) → All (λ a. Under a.dom c) (choose m (a ∷ matching l xs) (matching l xs))
        look true e next =
            let found = member_label D labels l (rw e tt) in
            let same : found.0 ≡ c = cc in
            all_cons (λ h. H.up q c (H.up p q h o) (rw same at found.2)) next
        look false e next = next

    confined0 : {c : Dom} {o : Op0} {t : Ty} (G : Given) (P : Place) (s : State) → Rule0 D c o t → Confined c s (reduce0 G (at c P) s o t)
    confined0 G P s (t_new_label l) = confined_capacity _ _ refl (c_go (e_label _))
    confined0 G P s t_abort = c_halt
    confined0 G P s (t_takedown l) = c_go (e_clear _ (under l))
    confined0 G P s t_stack = confined_at _ _ (λ u x. c_go (e_charge x))

    confined1 : {Σ : StoreTyping} {c : Dom} {o : Op1} {t a : Ty} {v : Val} (G : Given) (P : Place) (s : State) → Rule1 D c o a t → ValTy D Σ v a → StateFits D Σ s → Confined c s (reduce1 G (at c P) s o t v)
    confined1 {v} G P s t_print h k = confined_with (number_of v) _ (λ n. confined_capacity _ _ refl (c_go (e_event (λ f. refl) _ (λ x. x))))
    confined1 G P s (t_install l) (v_advice x y z) k = confined_some _ refl (confined_capacity _ _ refl (c_go (e_advice _ (under l))))
    confined1 {v} G P s (t_read l) h k = confined_with (cell_of v) _ (λ r. confined_with (get_elem? s.cells r) _ (λ a. c_go e_stay))
    confined1 {v} G P s t_byte h k = confined_with (number_of v) _ (λ n. c_go e_stay)
    confined1 G P s (t_new_cell l) h k = confined_at _ _ (λ u x. c_go (e_cell x _ (under l)))
    confined1 {v} G P s (t_call {m} x) h k = confined_with (bodies_of v) _ (λ bs. confined_with (method_body bs m) _ (λ e. confined_at _ _ (λ u x. c_go (e_charge x))))

    confined_arith : {c : Dom} {A : Type 0} (s : State) (k : A → Tm) (f : ℕ → ℕ → A) (v w : Val) → Confined c s (arith s k f (number_of v) (number_of w))
    confined_arith s k f v w = confined_with (number_of v) _ (λ m. confined_with (number_of w) _ (λ n. c_go e_stay))

    confined2 : {Σ : StoreTyping} {c : Dom} {o : Op2} {t a b : Ty} {v : Val} (w : Val) (G : Given) (P : Place) (s : State) → Rule2 D c o a b t → ValTy D Σ v a → StateFits D Σ s → Confined c s (reduce2 G (at c P) s o t v w)
    confined2 w G P s t_pair h k = confined_at _ _ (λ u x. c_go (e_charge x))
    confined2 {v} w G P s t_app h k = confined_with (body_of v) _ (λ n. confined_at _ _ (λ u x. c_go (e_charge x)))
    confined2 w G P s t_mark (v_label {l} g) k =
        confined_some _ refl
        (confined_with (get_elem? s.labels l) _
        (λ p. confined_spend (advice_bindings (triggered_by l s.advices)) _ (λ f. advice_low hi H.mainline (all_map (λ a u. low_of u f) (under_matching l g (all_reverse k.advices)))) (λ u x. c_go (e_charge x))))
    confined2 {Σ} w G P s (t_store {p} l) (v_cell {r} {a} x) k =
        let q = cell_dom D Σ s r a p k x in
        confined_some _ refl (confined_some _ q.1 (c_go (e_store r q.0 w q.1 (λ y. under l (rw q.2 at y)))))
    confined2 {v} w G P s t_plus h k = confined_arith s num sum v w
    confined2 {v} w G P s t_minus h k = confined_arith s num difference v w
    confined2 {v} w G P s t_less h k = confined_arith s truth is_less v w
    confined2 {v} w G P s t_equal h k = confined_arith s truth is_equal v w

    confined_branch : {c : Dom} (s : State) (P : Place) (f : List Val → Tm) (g : Tm) (o : Option (List Val)) → Confined c s (branch (at c P) s f g o)
    confined_branch s P f g none = c_go (e_event (λ f. refl) _ (λ x. x))
    confined_branch s P f g (some vs) = confined_at _ _ (λ u y. c_go (e_event y _ (λ x. x)))

    confined_match : {c : Dom} (s : State) (P : Place) (p : Pattern) (f g : Tm) (vs : List Val) → Confined c s (reduce_match (at c P) s p f g vs)
    confined_match {c} s P p f g vs = pick (reverse vs)
      where
        pick : (ws : List Val) → Confined c s (match_on top_of labels_of (at c P) s p (λ us. subst_all us f) g ws)
        pick [] = c_wrong
        pick (k ∷ us) = confined_branch s P (λ ws. subst_all ws f) g (matched top_of labels_of p us k)

    closed : {Σ : StoreTyping} {Γ : List Ty} {c : Dom} {e : Tm} {t : Ty} → Γ ≡ [] → TmTy D Σ Γ c e t → TmTy D Σ [] c e t
    closed {Σ} {c} {e} {t} p h = transp (λ Γ. TmTy D Σ Γ c e t) p h

    module _ {Σ : StoreTyping} (s : State) (K : StateFits D Σ s) (G : Given) where
      mutual
        unfolding step

        confined_step : {Γ : List Ty} {c : Dom} {e : Tm} {t : Ty} → TmTy D Σ Γ c e t → Γ ≡ [] → (P : Place) → Confined c s (step e G (at c P) s)
        confined_step (is_val h) γ P = c_wrong
        confined_step (is_var h) γ P = confined_capacity _ _ refl c_wrong
        confined_step (is_lam h) γ P = c_wrong
        confined_step (is_op0 r) γ P = confined_capacity _ _ refl (confined0 G P s r)
        confined_step (is_op1 {e} r h) γ P = confined_cases (as_value e) _ _ (λ v p. confined_capacity _ _ refl (confined1 G P s r (val_ty (closed γ h) p) K)) (confined_within _ (confined_step h γ (deeper P)))
        confined_step (is_op2 {e} {f} r h g) γ P =
            confined_cases (as_value e) _ _
            (λ v p. confined_cases (as_value f) _ _ (λ w q. confined_capacity _ _ refl (confined2 w G P s r (val_ty (closed γ h) p) K)) (confined_within _ (confined_step g γ (deeper P))))
            (confined_within _ (confined_step h γ (deeper P)))
        confined_step (is_seq {e} h g) γ P = confined_cases (as_value e) _ _ (λ v p. confined_capacity _ _ refl (confined_with (unit_of v) _ (λ u. c_go e_stay))) (confined_within _ (confined_step h γ (deeper P)))
        confined_step (is_ite {e} h g f) γ P = confined_cases (as_value e) _ _ (λ v p. confined_capacity _ _ refl (confined_with (truth_of v) _ (λ u. c_go e_stay))) (confined_within _ (confined_step h γ (deeper P)))
        confined_step (is_split {e} h g) γ P = confined_cases (as_value e) _ _ (λ v p. confined_capacity _ _ refl (confined_with (pair_of v) _ (λ u. confined_at _ _ (λ n x. c_go (e_charge x))))) (confined_within _ (confined_step h γ (deeper P)))
        confined_step (is_pcd h o) γ P = confined_first h γ P [] _ _ (λ vs. confined_with (collect vs []) _ (λ l. confined_at _ _ (λ n x. c_go (e_charge x))))
        confined_step (is_adv {e} h l g) γ P = confined_cases (as_value e) _ _ (λ v p. confined_capacity _ _ refl (confined_with (labels_of v) _ (λ u. confined_at _ _ (λ n x. c_go (e_charge x))))) (confined_within _ (confined_step h γ (deeper P)))
        confined_step (is_lower {e} l h) γ P = confined_cases (as_value e) _ _ (λ v p. confined_capacity _ _ refl (confined_with (unit_of v) _ (λ u. c_go e_stay))) (confined_within _ (confined_up (under l) (confined_step h γ (deeper P))))
        confined_step (is_obj h) γ P = c_wrong
        confined_step (is_keep {e} {f} {g} h k l) γ P =
            confined_cases (as_value e) _ _
            (λ v p. confined_cases (as_value f) _ _
            (λ w q. confined_cases (as_value g) _ _ (λ u r. confined_capacity _ _ refl (c_go e_stay)) (confined_within _ (confined_step l γ (keeping v w (deeper P)))))
            (confined_within _ (confined_step k γ (deeper P))))
            (confined_within _ (confined_step h γ (deeper P)))
        confined_step (is_matching {p} {f} {g} h o k l) γ P = confined_first h γ P [] _ _ (λ vs. confined_match s P p f g vs)

        confined_first : {Γ ts : List Ty} {c : Dom} {es : Tms} → TmsTy D Σ Γ c es ts → Γ ≡ [] → (P : Place) (vs : List Val) (k : Tms → Tm) (r : List Val → Answer State Tm) → ((ws : List Val) → Confined c s (r ws)) → Confined c s (step_first es G (at c P) s vs k r)
        confined_first is_end γ P vs k r m = confined_capacity _ _ refl (m vs)
        confined_first (is_more {e} h g) γ P vs k r m = confined_cases (as_value e) _ _ (λ v p. confined_first g γ P (v ∷ vs) k r m) (confined_within _ (confined_step h γ (deeper P)))

      pub confined : {c : Dom} {e : Tm} {t : Ty} → TmTy D Σ [] c e t → (P : Place) → Confined c s (step e G (at c P) s)
      confined h P = confined_step h refl P
