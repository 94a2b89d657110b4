-- A program is well typed term by term exactly if it is well typed as one term of the calculus with every stated type in it: so where `child_setting` has a child stand is where the rules of figures 2 and 3 have it stand.
use Prim.Native.Nat.{ℕ, zero, suc, ◌+◌, ◌≤◌, ◌<◌}
use native.Mathlib.Omega.{arith}
use mathlib.Core.Path.{◌≡◌, refl, sym, ap, subst, ◌∙◌}
use mathlib.Core.Logic.{◌↔◌}
use mathlib.Core.List.{List, [], ◌∷◌, reverse_aux}
use lib.ListN.{length, length-map}
use Rattle.calculus.specs.Syntax.{Dom, Ty, Sigs, Tms}
use Rattle.calculus.specs.Typing.{Policy, no_store, ◌⨾◌⊢◌⦂◌ as TmTy, ◌⨾◌⊢*◌⦂◌ as TmsTy, ◌⊢ᵐ◌⦂◌ as BodiesTy, a_body, v_truth, t_abort, is_val, is_op0, is_ite, is_more}
use Rattle.calculus.specs.Plain.{dom_of, method_dom}
use Rattle.calculus_safety.proofs.Inversion.{premises}
use Rattle.image.specs.Kinds.{TermKind, term_row, Form, operator, form_of}
use Rattle.image.specs.Records.{Layout}
use Rattle.image.specs.Types.{type_no, children, root_of}
use Rattle.image.specs.LaidOut.{LaidOut}
use Rattle.image.specs.Program.{Program, Programs, node, blank, end, more, subtrees, tree, program, nth, behind, pattern_of, assemble_as, assemble}
use Rattle.laws.proofs.Booleans.{no_path}
use Rattle.image.proofs.Laid.{Below, LayoutOk, layout_good}
use Rattle.image.proofs.LaidOut.{laid_iff}
use Rattle.image.proofs.Counts.{most_children}
use Rattle.verdict.specs.Settings.{Setting}
use Rattle.verdict.specs.WellTyped.{first_of, second_of, stated, stateds, aborts, child_setting, mainline, WellTyped, EachWellTyped}
use Rattle.verdict.specs.Ascribed.{ascribed, ascribeds}
use Rattle.verdict.proofs.Inversion.{more_premises, of_abort, of_unit}
use Rattle.verdict.proofs.Term.{Pinned, no_pin, a_pin, Each, no_child, a_child, over, aborts_pinned, aborts_each, match_binds_lem}
use Rattle.verdict.proofs.Sound.{term_facts}

-- A property of each of at most so many children.
none_of : (T : ℕ → Type 0) {n : ℕ} → n ≤ 0 → (j : ℕ) → j < n → T j
none_of T l j m = absurd (omega arith)

first_of_lem : (T : ℕ → Type 0) {n : ℕ} → n ≤ 1 → T 0 → (j : ℕ) → j < n → T j
first_of_lem T l a zero m = a
first_of_lem T l a (suc j) m = absurd (omega arith)

both_of : (T : ℕ → Type 0) {n : ℕ} → n ≤ 2 → T 0 → T 1 → (j : ℕ) → j < n → T j
both_of T l a b zero m = a
both_of T l a b (suc zero) m = b
both_of T l a b (suc (suc j)) m = absurd (omega arith)

all_three : (T : ℕ → Type 0) {n : ℕ} → n ≤ 3 → T 0 → T 1 → T 2 → (j : ℕ) → j < n → T j
all_three T l a b c zero m = a
all_three T l a b c (suc zero) m = b
all_three T l a b c (suc (suc zero)) m = c
all_three T l a b c (suc (suc (suc j))) m = absurd (omega arith)

three_then : (T : ℕ → Type 0) {n : ℕ} → T 0 → T 1 → T 2 → ((j : ℕ) → suc (suc (suc j)) < n → T (suc (suc (suc j)))) → (j : ℕ) → j < n → T j
three_then T a b c d zero m = a
three_then T a b c d (suc zero) m = b
three_then T a b c d (suc (suc zero)) m = c
three_then T a b c d (suc (suc (suc j))) m = d j m

-- Arity: no term of a program has more children than its kind may have.
unfoldable mutual
  pub WithinArity : Program → Type 0
  WithinArity (node k t vs es) = (length (stateds es) ≤ most_children (term_row k)) × EachWithinArity es
  WithinArity blank = Unit {0}

  pub EachWithinArity : Programs → Type 0
  EachWithinArity end = Unit {0}
  EachWithinArity (more e es) = WithinArity e × EachWithinArity es

module _ (D : Policy) where
  ascribed_type : {Γ : List Ty} {c : Dom} (e : Program) {u : Ty} → TmTy D no_store Γ c (ascribed e) u → stated e ≡ u
  unfolding ascribed
  ascribed_type (node k t vs es) d = of_abort (premises d).2
  ascribed_type {Γ} {c} blank d = let r = premises d in let z : Ty.truth ≡ Ty.unit = of_abort r.2 ∙ of_unit D Γ c r.1 in no_path cc

  ascribeds_pinned : (es : Programs) → Pinned D (stateds es) (ascribeds es)
  unfolding ascribed
  ascribeds_pinned end = no_pin
  ascribeds_pinned (more e es) = a_pin (λ Γ c u d. ascribed_type e d) (ascribeds_pinned es)

  mutual
    unfolding ascribed WellTyped

    -- A program that is well typed term by term has the type that it states, as one term.
    pub well_ascribed : (p : Setting Ty) (e : Program) → WellTyped D p e → TmTy D no_store p.context p.dom (ascribed e) (stated e)
    well_ascribed p (node k t vs es) w =
        is_ite (is_val v_truth) (over D p k t vs (stateds es) (aborts (stateds es)) (ascribeds es) (aborts_pinned D (stateds es)) (well_ascribeds (child_setting p k t vs (stateds es)) 0 es w.1) w.0) (is_op0 t_abort)
    well_ascribed p blank w = absurd w

    well_ascribeds : (at : ℕ → Setting Ty) (i : ℕ) (es : Programs) → EachWellTyped D at i es → Each D at i (stateds es) (ascribeds es)
    well_ascribeds at i end w = no_child
    well_ascribeds at i (more e es) w = a_child (well_ascribed (at i) e w.0) (well_ascribeds at (suc i) es w.1)

  -- Child j of a term is typed where it stands.
  module _ (p : Setting Ty) (k : TermKind) (t : Ty) (vs : List ℕ) (ts : List Ty) (es : Tms) where
    abbrev Part : ℕ → Type 0
    Part j = (u : Ty) × TmTy D no_store (child_setting p k t vs ts j).context (child_setting p k t vs ts j).dom (nth es j) u

    abbrev Parts : Type 0
    Parts = (j : ℕ) → j < length ts → Part j

  tms_part : {Γ : List Ty} {c : Dom} {ts us : List Ty} {es : Tms} → Pinned D ts es → TmsTy D no_store Γ c es us → (j : ℕ) → j < length ts → (u : Ty) × TmTy D no_store Γ c (nth es j) u
  tms_part no_pin ds j l = absurd (omega arith)
  tms_part (a_pin f k) (is_more {a = u} d ds) zero l = (u, d)
  tms_part (a_pin f k) (is_more d ds) (suc j) l = tms_part k ds j (omega arith)

  late_part : {Γ : List Ty} {c : Dom} {ts us : List Ty} {es : Tms} → Pinned D ts es → TmsTy D no_store Γ c (behind 2 es) us → (j : ℕ) → suc (suc j) < length ts → (u : Ty) × TmTy D no_store Γ c (nth es (suc (suc j))) u
  late_part no_pin ds j l = absurd (omega arith)
  late_part (a_pin f no_pin) ds j l = absurd (omega arith)
  late_part (a_pin f (a_pin g k)) ds j l = tms_part k ds j (omega arith)

  body_part : {Δ : List Ty} {ts : List Ty} {es : Tms} {ms : Sigs} → Pinned D ts es → BodiesTy D no_store Δ es ms → (j : ℕ) → j < length ts → (u : Ty) × TmTy D no_store Δ (method_dom ms j) (nth es j) u
  body_part no_pin ds j l = absurd (omega arith)
  body_part (a_pin f k) (a_body {a = u} d ds) zero l = (u, d)
  body_part (a_pin f k) (a_body d ds) (suc j) l = body_part k ds j (omega arith)

  parts : (p : Setting Ty) {k : TermKind} (φ : Form k) (t : Ty) (vs : List ℕ) (ts : List Ty) (es : Tms) → Pinned D ts es → length ts ≤ most_children (term_row k)
      → TmTy D no_store p.context p.dom (assemble_as φ t vs es) t → Parts p k t vs ts es
  parts p (operator o n r) t vs ts es f l d = let z : length ts ≤ 0 = subst (λ x. length ts ≤ most_children x) r l in none_of _ z
  parts p Form.unit t vs ts es f l d = none_of _ l
  parts p Form.truth t vs ts es f l d = none_of _ l
  parts p Form.number t vs ts es f l d = none_of _ l
  parts p Form.var t vs ts es f l d = none_of _ l
  parts p Form.seq t vs ts es f l d = let r = premises d in both_of _ l (Ty.unit, r.0) (t, r.1)
  parts p Form.print t vs ts es f l d = let r = premises d in first_of_lem _ l (r.0, r.3)
  parts p Form.ite t vs ts es f l d = let r = premises d in all_three _ l (Ty.truth, r.0) (t, r.1) (t, r.2)
  parts p Form.pair t vs ts es f l d = let r = premises d in both_of _ l (r.0, r.4) (r.1, r.5)
  parts p Form.split t vs ts es no_pin l d = λ j m. absurd (omega arith)
  parts p Form.split t vs ts es (a_pin f k) l d =
      let r = premises d in
      both_of _ l (Ty.pair r.0 r.1, r.2)
      (t, subst (λ x. TmTy D no_store (second_of x ∷ first_of x ∷ p.context) p.dom (nth es 1) t) (sym (f _ _ _ r.2)) r.3)
  parts p Form.fun t vs ts es f l d =
      let r = premises d in
      first_of_lem _ l (r.2, subst (λ x. TmTy D no_store (first_of x ∷ p.context) (dom_of x) (nth es 0) r.2) (sym r.4) r.5)
  parts p Form.app t vs ts es f l d = let r = premises d in both_of _ l (r.0, r.4) (r.1, r.5)
  parts p Form.arith t vs ts es f l d = let r = premises d in both_of _ l (r.0, r.4) (r.1, r.5)
  parts p Form.mark t vs ts es f l d = let r = premises d in both_of _ l (r.0, r.4) (r.1, r.5)
  parts p Form.pcd t vs ts es f l d = tms_part f (premises d).4
  parts p Form.adv t vs ts es no_pin l d = λ j m. absurd (omega arith)
  parts p Form.adv t vs ts es (a_pin f k) l d =
      let r = premises d in
      both_of _ l (Ty.pointcut r.0 r.1, r.3)
      (Ty.unit, subst (λ x. TmTy D no_store (first_of x ∷ p.context) (dom_of t) (nth es 1) Ty.unit) (sym (f _ _ _ r.3)) r.5)
  parts p Form.install t vs ts es f l d = let r = premises d in first_of_lem _ l (r.0, r.3)
  parts p Form.new_cell t vs ts es f l d = let r = premises d in first_of_lem _ l (r.0, r.3)
  parts p Form.read t vs ts es f l d = let r = premises d in first_of_lem _ l (r.0, r.3)
  parts p Form.store t vs ts es f l d = let r = premises d in both_of _ l (r.0, r.4) (r.1, r.5)
  parts p Form.lower t vs ts es f l d = first_of_lem _ l (Ty.unit, (premises d).2)
  parts p Form.byte t vs ts es f l d = let r = premises d in first_of_lem _ l (r.0, r.3)
  parts p Form.obj t vs ts es f l d =
      let r = premises d in
      λ j m. subst (λ x. Part p TermKind.obj x vs ts es j) (sym r.2) (body_part f r.3 j m)
  parts p Form.call t vs ts es f l d = let r = premises d in first_of_lem _ l (r.0, r.3)
  parts p Form.keep t vs ts es f l d = let r = premises d in all_three _ l (Ty.label r.0 p.dom, r.1) (r.0, r.2) (t, r.3)
  parts p Form.match t vs ts es no_pin l d = λ j m. absurd (omega arith)
  parts p Form.match t vs ts es (a_pin f k) l d =
      let r = premises d in
      let m = more_premises r.2 in
      let b = match_binds_lem D (pattern_of vs) t (a_pin f k) r.2 r.3 in
      three_then _ (Ty.stack, m.0) (t, subst (λ x. TmTy D no_store (reverse_aux x p.context) p.dom (nth es 1) t) b r.4) (t, r.5) (λ j n. late_part k m.1 j (omega arith))
  parts p Form.takedown t vs ts es f l d = none_of _ l

  -- Children that are typed where they stand have their types, since they have no others: the first of these is child i.
  each_of : (at : ℕ → Setting Ty) (i : ℕ) {ts : List Ty} {es : Tms} → Pinned D ts es → ((j m : ℕ) → m ≡ i + j → j < length ts → (u : Ty) × TmTy D no_store (at m).context (at m).dom (nth es j) u) → Each D at i ts es
  each_of at i no_pin h = no_child
  each_of at i {es = es} (a_pin f k) h =
      let r = h 0 i (omega arith) (omega arith) in
      a_child (subst (λ x. TmTy D no_store (at i).context (at i).dom (nth es 0) x) (sym (f _ _ _ r.1)) r.1) (each_of at (suc i) k (λ j m e l. h (suc j) m (omega arith) (omega arith)))

  mutual
    unfolding ascribed WellTyped assemble WithinArity

    -- And the other way.
    pub ascribed_well : (p : Setting Ty) (e : Program) → WithinArity e → TmTy D no_store p.context p.dom (ascribed e) (stated e) → WellTyped D p e
    ascribed_well p (node k t vs es) f d =
        let at : ℕ → Setting Ty = child_setting p k t vs (stateds es) in
        let d' = (premises d).1 in
        let h = parts p (form_of k) t vs (stateds es) (ascribeds es) (ascribeds_pinned es) f.0 d' in
        (over D p k t vs (stateds es) (ascribeds es) (aborts (stateds es)) (ascribeds_pinned es) (aborts_each D at 0 (stateds es)) d', ascribed_wells at 0 es f.1 (each_of at 0 (ascribeds_pinned es) (λ j m e l. let r : m ≡ j = omega arith in rw r (h j l))))
    ascribed_well p blank f d = let r = premises d in let z : Ty.truth ≡ Ty.unit = of_abort r.2 in no_path cc

    ascribed_wells : (at : ℕ → Setting Ty) (i : ℕ) (es : Programs) → EachWithinArity es → Each D at i (stateds es) (ascribeds es) → EachWellTyped D at i es
    ascribed_wells at i end f w = tt
    ascribed_wells at i (more e es) f (a_child d w) = (ascribed_well (at i) e f.0 d, ascribed_wells at (suc i) es f.1 w)

  pub ascribed_iff : (p : Setting Ty) (e : Program) → WithinArity e → WellTyped D p e ↔ TmTy D no_store p.context p.dom (ascribed e) (stated e)
  ascribed_iff p e f = (well_ascribed p e, ascribed_well p e f)

-- The trees of an image are within it.
subtrees_length : (g : ℕ → Program) (es : List ℕ) → length (stateds (subtrees g es)) ≡ length es
subtrees_length g [] = refl
subtrees_length g (e ∷ es) = ap suc (subtrees_length g es)

subtrees_within : (g : ℕ → Program) (n : ℕ) → ((e : ℕ) → e < n → WithinArity (g e)) → (es : List ℕ) → Below n es → EachWithinArity (subtrees g es)
unfolding WithinArity
subtrees_within g n h [] b = tt
subtrees_within g n h (e ∷ es) b = (h e b.0, subtrees_within g n h es b.1)

module _ (L : Layout) (good : LayoutOk L) where
  tree_within : (f n : ℕ) → n < length L.terms → WithinArity (tree L f n)
  unfolding tree WithinArity
  tree_within zero n l = tt
  tree_within (suc f) n l =
      let t = term_facts L good n l in
      let s = subtrees_length (λ e. tree L f e) (children L n) in
      let m = length-map (children L n) (λ e. type_no L e) in
      (omega arith, subtrees_within (λ e. tree L f e) (length L.terms) (tree_within f) (children L n) t.below)

  -- Where there is no term, there is no root either.
  root_within : (f : ℕ) → f ≡ length L.terms → WithinArity (tree L f (root_of L))
  unfolding tree WithinArity
  root_within zero e = tt
  root_within (suc f) e = tree_within (suc f) (root_of L) (omega arith)

  program_within : WithinArity (program L)
  unfolding program
  program_within = root_within (length L.terms) refl

-- The program of an image is well typed exactly if it is one well-typed term of the calculus, at domain 0 and without variables, with every stated type in it. No domain and no context of a child is named.
pub program_ascribed : (D : Policy) (L : Layout) → LaidOut L → WellTyped D mainline (program L) ↔ TmTy D no_store [] 0 (ascribed (program L)) (stated (program L))
program_ascribed D L h = ascribed_iff D mainline (program L) (program_within L (layout_good L.image L ((laid_iff L).1 h)))
