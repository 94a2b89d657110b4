-- A well-typed program is a well-typed term of the calculus.
use Prim.Native.Nat.{ℕ, zero, suc, ◌+◌, ◌≤◌}
use native.Mathlib.Omega.{arith}
use mathlib.Core.Path.{◌≡◌, refl, sym, ap, subst, ◌∙◌}
use mathlib.Core.List.{List, [], ◌∷◌, reverse_aux}
use lib.ListN.{get_or, drop}
use Rattle.calculus.specs.Syntax.{Dom, Ty, Sigs, method, Val, Tm, Tms, Pattern, val, lam, op0, split, pcd, adv, lower, obj, match, abort, Op1, Op2, op1, op2}
use Rattle.calculus.specs.Typing.{Policy, no_store, PatternTy, ◌⨾◌⊢◌⦂◌ as TmTy, ◌⨾◌⊢*◌⦂◌ as TmsTy, ◌⊢ᵐ◌⦂◌ as BodiesTy, a_body, is_op1, is_op2, is_seq, is_ite, is_split, is_keep, is_matching, is_op0, is_end, is_more, t_abort}
use Rattle.calculus.specs.Plain.{dom_of, method_dom}
use Rattle.calculus_safety.proofs.Inversion.{premises, concluded}
use Rattle.image.specs.Kinds.{TermKind, Form, operator, form_of}
use Rattle.image.specs.Program.{Program, Programs, node, blank, end, more, nth, behind, pattern_of, assemble_as, assemble, to_tm, to_tms}
use Rattle.laws.proofs.Booleans.{no_path}
use Rattle.verdict.specs.Settings.{match_binds, Setting}
use Rattle.verdict.specs.WellTyped.{first_of, second_of, stated, stateds, aborts, child_setting, WellTyped, EachWellTyped}
use Rattle.verdict.proofs.Patterns.{pattern_binds}
use Rattle.verdict.proofs.Inversion.{more_premises, of_abort, of_unit}

module _ (D : Policy) where
  pub abort_type : {Γ : List Ty} {c : Dom} {s t : Ty} → TmTy D no_store Γ c (op0 abort s) t → s ≡ t
  abort_type d = of_abort d

  -- Terms that have no other types than ts, wherever they stand.
  pub data Pinned : List Ty → Tms → Type 0 where
    no_pin : Pinned [] Tms.end
    a_pin : {t : Ty} {ts : List Ty} {e : Tm} {es : Tms} → ((Γ : List Ty) (c : Dom) (u : Ty) → TmTy D no_store Γ c e u → t ≡ u) → Pinned ts es → Pinned (t ∷ ts) (Tms.more e es)

  -- Terms that have the types ts, each where it stands: the first of these is child i.
  pub data Each (at : ℕ → Setting Ty) : ℕ → List Ty → Tms → Type 0 where
    no_child : {i : ℕ} → Each at i [] Tms.end
    a_child : {i : ℕ} {t : Ty} {ts : List Ty} {e : Tm} {es : Tms} → TmTy D no_store (at i).context (at i).dom e t → Each at (suc i) ts es → Each at i (t ∷ ts) (Tms.more e es)

  -- Wherever the subterms as are typed, the subterms es are, each where it stands.
  record Stand (at : ℕ → Setting Ty) (as' es : Tms) : Type 0 where
    one : (j : ℕ) {t : Ty} → TmTy D no_store (at j).context (at j).dom (nth as' j) t → TmTy D no_store (at j).context (at j).dom (nth es j) t
    every : (n : ℕ) (p : Setting Ty) → ((j : ℕ) → n ≤ j → at j ≡ p) → {ts : List Ty} → TmsTy D no_store p.context p.dom (behind n as') ts → TmsTy D no_store p.context p.dom (behind n es) ts
    bodies : (ms : Sigs) (Δ : List Ty) → ((j : ℕ) → at j ≡ record { context = Δ; dom = method_dom ms j }) → BodiesTy D no_store Δ as' ms → BodiesTy D no_store Δ es ms

  unit_type : {Γ : List Ty} {c : Dom} {t : Ty} → TmTy D no_store Γ c (val Val.unit) t → t ≡ Ty.unit
  unit_type {Γ} {c} d = of_unit D Γ c d

  -- What follows at a type follows at one that is equal to it.
  across : (P Q : Ty → Type 0) {s u : Ty} → s ≡ u → (P s → Q s) → P u → Q u
  across P Q e f x = subst Q e (f (subst P (sym e) x))

  -- Without a first subterm there is no pair and no pointcut.
  no_split : {Γ : List Ty} {c : Dom} {t : Ty} {e : Tm} {A : Type 0} → TmTy D no_store Γ c (split (val Val.unit) e) t → A
  no_split d = let r = premises d in let z : Ty.pair r.0 r.1 ≡ Ty.unit = unit_type r.2 in no_path cc

  no_advice : {Γ : List Ty} {c p : Dom} {t : Ty} {e : Tm} {A : Type 0} → TmTy D no_store Γ c (adv p (val Val.unit) e) t → A
  no_advice d = let r = premises d in let z : Ty.pointcut r.0 r.1 ≡ Ty.unit = unit_type r.3 in no_path cc

  -- Card 6: the types behind the first three.
  behind_pinned : (n : ℕ) {ts : List Ty} {es : Tms} → Pinned ts es → Pinned (drop n ts) (behind n es)
  behind_pinned zero h = h
  behind_pinned (suc n) no_pin = no_pin
  behind_pinned (suc n) (a_pin f h) = behind_pinned n h

  pinned_types : {Γ : List Ty} {c : Dom} {ts us : List Ty} {es : Tms} → Pinned ts es → TmsTy D no_store Γ c es us → us ≡ ts
  pinned_types no_pin is_end = refl
  pinned_types {Γ} {c} (a_pin f h) (is_more {a = u} d ds) = rw (f Γ c u d, pinned_types h ds) refl

  -- What the first branch of a match binds.
  pub match_binds_lem : {Γ : List Ty} {c : Dom} (q : Pattern) (t : Ty) {ts us ws : List Ty} {e : Tm} {es : Tms} → Pinned ts (Tms.more e es) → TmsTy D no_store Γ c (Tms.more e (behind 2 es)) (Ty.stack ∷ us) → PatternTy q us ws
      → ws ≡ match_binds first_of q (get_or ts 0 t) (drop 3 ts)
  match_binds_lem q t {ts} (a_pin f k) (is_more d ds) o =
      pattern_binds o ∙ ap (match_binds first_of q Ty.stack) (pinned_types (behind_pinned 2 k) ds) ∙ ap (λ x. match_binds first_of q x (drop 3 ts)) (sym (f _ _ _ d))

  no_match : {Γ : List Ty} {c : Dom} {t : Ty} {p : Pattern} {es : Tms} {f g : Tm} {A : Type 0} → TmTy D no_store Γ c (match p (Tms.more (val Val.unit) es) f g) t → A
  no_match d = let z : Ty.stack ≡ Ty.unit = unit_type (more_premises (premises d).2).0 in no_path cc

  shifted : (at : ℕ → Setting Ty) (p : Setting Ty) → ((j : ℕ) → at (suc (suc (suc j))) ≡ p) → (j : ℕ) → 3 ≤ j → at j ≡ p
  shifted at p h zero l = absurd (omega arith)
  shifted at p h (suc zero) l = absurd (omega arith)
  shifted at p h (suc (suc zero)) l = absurd (omega arith)
  shifted at p h (suc (suc (suc j))) l = h j

  -- In an operation, whose subterms stand where the term does, a subterm may give way to any that has its types.
  module _ (p : Setting Ty) where
    abbrev Typed : Tm → Ty → Type 0
    Typed e t = TmTy D no_store p.context p.dom e t

    abbrev Stands : Tm → Tm → Type 0
    Stands e f = (s : Ty) → Typed e s → Typed f s

    unary : {o : Op1} {t : Ty} {a a' : Tm} → Stands a a' → Typed (op1 o t a) t → Typed (op1 o t a') t
    unary f d = let r = premises d in is_op1 r.2 (f r.0 r.3)

    binary : {o : Op2} {t : Ty} {a b a' b' : Tm} → Stands a a' → Stands b b' → Typed (op2 o t a b) t → Typed (op2 o t a' b') t
    binary f g d = let r = premises d in is_op2 r.3 (f r.0 r.4) (g r.1 r.5)

  rebuilt : (p : Setting Ty) {k : TermKind} (φ : Form k) (t : Ty) (vs : List ℕ) (ts : List Ty) (as' es : Tms) → Pinned ts as' → Stand (child_setting p k t vs ts) as' es
      → TmTy D no_store p.context p.dom (assemble_as φ t vs as') t → TmTy D no_store p.context p.dom (assemble_as φ t vs es) t
  rebuilt p (operator o n r) t vs ts as' es k h d = d
  rebuilt p Form.unit t vs ts as' es k h d = d
  rebuilt p Form.truth t vs ts as' es k h d = d
  rebuilt p Form.number t vs ts as' es k h d = d
  rebuilt p Form.var t vs ts as' es k h d = d
  rebuilt p Form.seq t vs ts as' es k h d = let r = premises d in is_seq (h.one 0 r.0) (h.one 1 r.1)
  rebuilt p Form.print t vs ts as' es k h d = unary p (λ s e. h.one 0 e) d
  rebuilt p Form.ite t vs ts as' es k h d = let r = premises d in is_ite (h.one 0 r.0) (h.one 1 r.1) (h.one 2 r.2)
  rebuilt p Form.pair t vs ts as' es k h d = binary p (λ s e. h.one 0 e) (λ s e. h.one 1 e) d
  rebuilt p Form.split t vs ts as' es no_pin h d = no_split d
  rebuilt p Form.split t vs ts as' es (a_pin f k) h d =
      let r = premises d in
      let At : Tm → Ty → Type 0 = λ e x. TmTy D no_store (second_of x ∷ first_of x ∷ p.context) p.dom e t in
      is_split (h.one 0 r.2) (across (At (nth as' 1)) (At (nth es 1)) (f _ _ _ r.2) (λ x. h.one 1 x) r.3)
  rebuilt p Form.fun t vs ts as' es k h d =
      let r = premises d in
      let At : Tm → Ty → Type 0 = λ e x. TmTy D no_store (first_of x ∷ p.context) (dom_of x) e r.2 in
      concluded (lam t (nth es 0)) (r.0, r.1, r.2, r.3, r.4, across (At (nth as' 0)) (At (nth es 0)) r.4 (λ x. h.one 0 x) r.5)
  rebuilt p Form.app t vs ts as' es k h d = binary p (λ s e. h.one 0 e) (λ s e. h.one 1 e) d
  rebuilt p Form.arith t vs ts as' es k h d = binary p (λ s e. h.one 0 e) (λ s e. h.one 1 e) d
  rebuilt p Form.mark t vs ts as' es k h d = binary p (λ s e. h.one 0 e) (λ s e. h.one 1 e) d
  rebuilt p Form.pcd t vs ts as' es k h d = let r = premises d in concluded (pcd es) (r.0, r.1, r.2, r.3, h.every 0 p (λ j l. refl) r.4, r.5)
  rebuilt p Form.adv t vs ts as' es no_pin h d = no_advice d
  rebuilt p Form.adv t vs ts as' es (a_pin f k) h d =
      let r = premises d in
      let At : Tm → Ty → Type 0 = λ e x. TmTy D no_store (first_of x ∷ p.context) (dom_of t) e Ty.unit in
      concluded (adv (dom_of t) (nth es 0) (nth es 1)) (r.0, r.1, r.2, h.one 0 r.3, r.4, across (At (nth as' 1)) (At (nth es 1)) (f _ _ _ r.3) (λ x. h.one 1 x) r.5)
  rebuilt p Form.install t vs ts as' es k h d = unary p (λ s e. h.one 0 e) d
  rebuilt p Form.new_cell t vs ts as' es k h d = unary p (λ s e. h.one 0 e) d
  rebuilt p Form.read t vs ts as' es k h d = unary p (λ s e. h.one 0 e) d
  rebuilt p Form.store t vs ts as' es k h d = binary p (λ s e. h.one 0 e) (λ s e. h.one 1 e) d
  rebuilt p Form.lower t vs ts as' es k h d = let r = premises d in concluded (lower (get_or vs 0 0) (nth es 0)) (r.0, r.1, h.one 0 r.2)
  rebuilt p Form.byte t vs ts as' es k h d = unary p (λ s e. h.one 0 e) d
  rebuilt p Form.obj t vs ts as' es k h d =
      let r = premises d in
      let each : (j : ℕ) → child_setting p TermKind.obj t vs ts j ≡ record { context = Ty.object r.0 ∷ p.context; dom = method_dom r.0 j } = λ j. ap (λ x. child_setting p TermKind.obj x vs ts j) r.2 in
      concluded (obj t es) (r.0, r.1, r.2, h.bodies r.0 (Ty.object r.0 ∷ p.context) each r.3)
  rebuilt p Form.call t vs ts as' es k h d = unary p (λ s e. h.one 0 e) d
  rebuilt p Form.keep t vs ts as' es k h d = let r = premises d in is_keep (h.one 0 r.1) (h.one 1 r.2) (h.one 2 r.3)
  rebuilt p Form.match t vs ts as' es no_pin h d = no_match d
  rebuilt p Form.match t vs ts as' es (a_pin f k) h d =
      let r = premises d in
      let m = more_premises r.2 in
      let b = match_binds_lem (pattern_of vs) t (a_pin f k) r.2 r.3 in
      let At : Tm → List Ty → Type 0 = λ e x. TmTy D no_store (reverse_aux x p.context) p.dom e t in
      is_matching (is_more (h.one 0 m.0) (h.every 3 p (λ j l. shifted (child_setting p TermKind.match t vs ts) p (λ i. refl) j l) m.1)) r.3 (subst (At (nth es 1)) (sym b) (h.one 1 (subst (At (nth as' 1)) b r.4))) (h.one 2 r.5)
  rebuilt p Form.takedown t vs ts as' es k h d = d

  stands_as : (p q : Setting Ty) {e : Tm} {t u : Ty} → q ≡ p → TmTy D no_store p.context p.dom e t → t ≡ u → TmTy D no_store q.context q.dom e u
  stands_as p q {e} {t} h d r = subst (λ s. TmTy D no_store q.context q.dom e s) r (subst (λ x. TmTy D no_store x.context x.dom e t) (sym h) d)

  child : (at : ℕ → Setting Ty) (i : ℕ) {ts : List Ty} {as' es : Tms} → Pinned ts as' → Each at i ts es → (j m : ℕ) → m ≡ i + j → {u : Ty}
      → TmTy D no_store (at m).context (at m).dom (nth as' j) u → TmTy D no_store (at m).context (at m).dom (nth es j) u
  child at i no_pin no_child j m q d = d
  child at i (a_pin f k) (a_child x w) zero m q d = let r : m ≡ i = omega arith in stands_as (at i) (at m) (ap at r) x (f _ _ _ d)
  child at i (a_pin f k) (a_child x w) (suc j) m q d = child at (suc i) k w j m (omega arith) d

  children : (at : ℕ → Setting Ty) (i : ℕ) {ts : List Ty} {as' es : Tms} → Pinned ts as' → Each at i ts es → (n : ℕ) (p : Setting Ty) → ((j : ℕ) → i + n ≤ j → at j ≡ p) → {us : List Ty}
      → TmsTy D no_store p.context p.dom (behind n as') us → TmsTy D no_store p.context p.dom (behind n es) us
  children at i no_pin no_child n p h d = d
  children at i (a_pin f k) (a_child x w) zero p h (is_more d ds) = is_more (stands_as (at i) p (sym (h i (omega arith))) x (f _ _ _ d)) (children at (suc i) k w 0 p (λ j l. h j (omega arith)) ds)
  children at i (a_pin f k) (a_child x w) (suc n) p h ds = children at (suc i) k w n p (λ j l. h j (omega arith)) ds

  -- The bodies of an object, each where its method says (card 3): the first of these is child i.
  bodies : (at : ℕ → Setting Ty) (i : ℕ) {ts : List Ty} {as' es : Tms} → Pinned ts as' → Each at i ts es → (ms : Sigs) (Δ : List Ty) → ((j m : ℕ) → m ≡ i + j → at m ≡ record { context = Δ; dom = method_dom ms j })
      → BodiesTy D no_store Δ as' ms → BodiesTy D no_store Δ es ms
  bodies at i (a_pin {t = t} {ts = ts} {e = e} {es = es} f k) (a_child x w) Rattle.calculus.specs.Syntax.no_method Δ h d = elim d [ ]
  bodies at i no_pin no_child ms Δ h d = d
  bodies at i (a_pin f k) (a_child x w) (method p b ms) Δ h (a_body d ds) =
      a_body (stands_as (at i) (record { context = Δ; dom = p }) (sym (h 0 i (omega arith))) x (f _ _ _ d)) (bodies at (suc i) k w ms Δ (λ j m r. h (suc j) m (omega arith)) ds)

  -- A term whose subterms have no other types than ts stays typed over others that have these types, each where it stands.
  pub over : (p : Setting Ty) (k : TermKind) (t : Ty) (vs : List ℕ) (ts : List Ty) (as' es : Tms) → Pinned ts as' → Each (child_setting p k t vs ts) 0 ts es
      → TmTy D no_store p.context p.dom (assemble k t vs as') t → TmTy D no_store p.context p.dom (assemble k t vs es) t
  unfolding assemble
  over p k t vs ts as' es f w d =
      let at : ℕ → Setting Ty = child_setting p k t vs ts in
      rebuilt p (form_of k) t vs ts as' es f
      (record {
        one = λ j d. child at 0 f w j j (omega arith) d;
        every = λ n q h d. children at 0 f w n q (λ j l. h j (omega arith)) d;
        bodies = λ ms Δ h d. bodies at 0 f w ms Δ (λ j m e. let r : m ≡ j = omega arith in rw r (h j)) d;
      })
      d

  -- An abort has just the type that it states, wherever it stands.
  pub aborts_pinned : (ts : List Ty) → Pinned ts (aborts ts)
  aborts_pinned [] = no_pin
  aborts_pinned (t ∷ ts) = a_pin (λ Γ c u d. of_abort d) (aborts_pinned ts)

  pub aborts_each : (at : ℕ → Setting Ty) (i : ℕ) (ts : List Ty) → Each at i ts (aborts ts)
  aborts_each at i [] = no_child
  aborts_each at i (t ∷ ts) = a_child (is_op0 t_abort) (aborts_each at (suc i) ts)

  mutual
    unfolding to_tm WellTyped

    -- A well-typed program is well typed as a term, with the type that it states.
    pub well_term : (p : Setting Ty) (e : Program) → WellTyped D p e → TmTy D no_store p.context p.dom (to_tm e) (stated e)
    well_term p (node k t vs es) w = over p k t vs (stateds es) (aborts (stateds es)) (to_tms es) (aborts_pinned (stateds es)) (well_terms (child_setting p k t vs (stateds es)) 0 es w.1) w.0
    well_term p blank w = absurd w

    well_terms : (at : ℕ → Setting Ty) (i : ℕ) (es : Programs) → EachWellTyped D at i es → Each at i (stateds es) (to_tms es)
    well_terms at i end w = no_child
    well_terms at i (more e es) w = a_child (well_term (at i) e w.0) (well_terms at (suc i) es w.1)
