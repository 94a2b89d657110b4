-- Every reduction (document 003, section 2.3, figure 4) of values that have the operands' types is safe.
use Prim.Native.Nat.{ℕ, suc, ◌+◌}
use native.Mathlib.Omega.{arith}
use mathlib.Core.Path.{◌≡◌, refl}
use mathlib.Core.Bool.{Bool, true, false}
use mathlib.Core.List.{List, [], ◌∷◌, ◌++◌, reverse, reverse_aux}
use mathlib.Core.Option.{some, Option, none}
use lib.ListN.{length, get_elem?}
use Rattle.calculus.specs.Combinators.{choose, cases}
use Rattle.calculus.specs.Syntax.{Dom, Ty, Sigs, Val, Tm, Tms, Pattern, Op0, Op1, Op2, val}
use Rattle.calculus.specs.State.{Cell, State, Given, Entry}
use Rattle.calculus.specs.View.{top_of, labels_of}
use Rattle.calculus.specs.Answer.{reduct, with}
use Rattle.calculus.specs.Place.{Place, at, keeping}
use Rattle.calculus.specs.Compose.{member}
use Rattle.calculus.specs.Reduce.{reduce0, reduce1, reduce2, reduce_seq, reduce_ite, reduce_split, reduce_adv, reduce_lower, reduce_pcd, collect, method_body, stack_val, cons_found, matched, branch, match_on, subst_all, reduce_keep, reduce_match}
use Rattle.calculus.specs.Typing.{StoreTyping, Policy, PatternTy, Has, LabelsOf, LabelTys, ⊢◌⦂◌ as ValTy, ◌⨾◌⊢◌⦂◌ as TmTy, ◌⊢ᵐ◌⦂◌ as BodiesTy, ◌⊢◌⦂◌ as Rule0, ◌⊢◌⦂◌⇒◌ as Rule1, ◌⊢◌⦂◌⇒◌⇒◌ as Rule2}
use Rattle.laws.proofs.Lists.{All2, All2.all2_nil, All2.all2_cons, all_snoc, all_reverse, all2_snoc, all2_set, all2_length, get_last, All.all_nil, All.all_cons}
use Rattle.calculus.specs.Accepted.{Transitive}
use Rattle.calculus_safety.proofs.Extend.{extends_cell, extends_label, grow_val}
use Rattle.calculus_safety.proofs.Substitute.{Without, Without.here, Without.there, subst_tm}
use Rattle.calculus_safety.proofs.StoreFits.{CellFits, CellFits.cell_fits, LabelFits.label_fits, AdviceFits.advice_fits, StateFits, all_filtered, cell_there, label_there, grow_cells, grow_advices, EntryFits.entry_fits, KeptFits}
use Rattle.calculus_safety.proofs.Safe.{Safe, Safe.safe_go, Safe.safe_halt, safe_here, safe_capacity, safe_spend, Found, Found.found, Found.nothing}
use Rattle.calculus_safety.proofs.Composed.{composed_typed, member_label}

-- What a match binds (card 6), and the places of its variables.
abbrev Bound : Policy → StoreTyping → List Ty → Option (List Val) → Type 0
Bound D Σ us = Found (λ vs. All2 (ValTy D Σ) vs us)

without_back : {a : Ty} (us : List Ty) {k : ℕ} {Γ Δ : List Ty} → Without a k Γ Δ → Without a (length us + k) (reverse_aux us Γ) (reverse_aux us Δ)
without_back [] {k} w = let z : k ≡ 0 + k = omega arith in rw z at w
without_back (u ∷ us) {k} w =
    let z : length us + suc k ≡ suc (length us) + k = omega arith in
    rw z at (without_back us (there {b = u} w))

module _ (D : Policy) {Σ : StoreTyping} where
  held_typed : {a : Ty} {p : Dom} {k : Cell Val} → CellFits D Σ (Ty.ref a p) k → ValTy D Σ k.held a
  held_typed (cell_fits h) = h

  held_set : {a : Ty} {p : Dom} {k : Cell Val} {v : Val} → CellFits D Σ (Ty.ref a p) k → ValTy D Σ v a → CellFits D Σ (Ty.ref a p) (record { dom = k.dom; plain = k.plain; held = v })
  held_set (cell_fits h) h' = cell_fits h'

  -- Values that are a pointcut's labels are collected.
  collect_labels : {a : Ty} {p : Dom} {vs : List Val} {ts : List Ty} {ls : List ℕ} → All2 (ValTy D Σ) vs ts → LabelTys D a p ts → LabelsOf D Σ a p ls
      → (ms : List ℕ) × (collect vs ls ≡ some ms) × LabelsOf D Σ a p ms
  unfolding cases
  collect_labels {ls} all2_nil LabelTys.no_types r = (ls, refl, r)
  collect_labels (all2_cons (ValTy.v_label g) hs) (LabelTys.a_type o os) r = collect_labels hs os (LabelsOf.one_label g o r)
  collect_labels {a = a} {p = p} {ls = ls} (all2_cons {xs = xs} {ys = ys} ValTy.v_unit hs) nt r = elim nt [ ]
  collect_labels {a = a} {p = p} {ls = ls} (all2_cons {xs = xs} {ys = ys} (ValTy.v_truth {b = b}) hs) nt r = elim nt [ ]
  collect_labels {a = a} {p = p} {ls = ls} (all2_cons {xs = xs} {ys = ys} (ValTy.v_number {n = n}) hs) nt r = elim nt [ ]
  collect_labels {a = a} {p = p} {ls = ls} (all2_cons {xs = xs} {ys = ys} (ValTy.v_pair {v = v} {w = w} {b = b} _ _) hs) nt r = elim nt [ ]
  collect_labels {a = a} {p = p} {ls = ls} (all2_cons {xs = xs} {ys = ys} (ValTy.v_fun {b = b} {e = e} _) hs) nt r = elim nt [ ]
  collect_labels {a = a} {p = p} {ls = ls} (all2_cons {xs = xs} {ys = ys} (ValTy.v_cell _) hs) nt r = elim nt [ ]
  collect_labels {a = a} {p = p} {ls = ls} (all2_cons {xs = xs} {ys = ys} (ValTy.v_pointcut _) hs) nt r = elim nt [ ]
  collect_labels {a = a} {p = p} {ls = ls} (all2_cons {xs = xs} {ys = ys} (ValTy.v_advice {q = q} {e = e} _ _ _) hs) nt r = elim nt [ ]
  collect_labels {a = a} {p = p} {ls = ls} (all2_cons {xs = xs} {ys = ys} (ValTy.v_object {ms = ms} {bs = bs} _) hs) nt r = elim nt [ ]
  collect_labels {a = a} {p = p} {ls = ls} (all2_cons {xs = xs} {ys = ys} ValTy.v_bottom hs) nt r = elim nt [ ]
  collect_labels {a = a} {p = p} {ls = ls} (all2_cons {xs = xs} {ys = ys} (ValTy.v_kept {l = l} {v = v} {k = k} {q = q} _ _ _) hs) nt r = elim nt [ ]

  -- A method that the type has has a body of its domain and type (card 3).
  body_typed : {Γ : List Ty} {p : Dom} {b : Ty} {ms : Sigs} {bs : Tms} {m : ℕ} → Has p b ms m → BodiesTy D Σ Γ bs ms → (e : Tm) × (method_body bs m ≡ some e) × TmTy D Σ Γ p e b
  body_typed Has.has_first (BodiesTy.a_body {e} h k) = (e, refl, h)
  body_typed (Has.has_later x) (BodiesTy.a_body h k) = body_typed x k

  -- Card 6: the stack of values that fit their labels, and a value more.
  stack_typed : {k : List (Entry Val)} → KeptFits D Σ k → ValTy D Σ (stack_val k) Ty.stack
  stack_typed all_nil = ValTy.v_bottom
  stack_typed (all_cons (entry_fits g h) hs) = ValTy.v_kept g h (stack_typed hs)

  pub keeping_fits : {a : Ty} {q : Dom} {v w : Val} (P : Place) → ValTy D Σ v (Ty.label a q) → ValTy D Σ w a → KeptFits D Σ P.kept → KeptFits D Σ (keeping v w P).kept
  keeping_fits P (ValTy.v_label g) hw k = all_cons (entry_fits g hw) k

  -- What a pattern binds of a stack is of the pattern's types.
  bound_more : {a : Ty} {v : Val} {us : List Ty} {o : Option (List Val)} → ValTy D Σ v a → Bound D Σ us o → Bound D Σ (a ∷ us) (cons_found v o)
  bound_more hv (found hs) = found (all2_cons hv hs)
  bound_more hv nothing = nothing

  matched_typed : {p : Pattern} {ts us : List Ty} {xs : List Val} {k : Val} → PatternTy p ts us → All2 (ValTy D Σ) xs ts → ValTy D Σ k Ty.stack → Bound D Σ us (matched top_of labels_of p xs k)
  unfolding cases
  matched_typed PatternTy.p_end all2_nil ValTy.v_bottom = found all2_nil
  matched_typed PatternTy.p_end all2_nil (ValTy.v_kept g h k) = nothing
  matched_typed PatternTy.p_rest all2_nil k = found (all2_cons k all2_nil)
  matched_typed (PatternTy.p_any p) hs ValTy.v_bottom = nothing
  matched_typed (PatternTy.p_any p) hs (ValTy.v_kept g h k) = matched_typed p hs k
  matched_typed (PatternTy.p_cut p) (all2_cons h hs) ValTy.v_bottom = nothing
  matched_typed (PatternTy.p_cut {us} {a} p) (all2_cons (ValTy.v_pointcut {ls} n) hs) (ValTy.v_kept {l} {v} {a = b} g h k) = look (member l ls) refl (matched_typed p hs k)
    where
      look : {o : Option (List Val)} (m : Bool) → member l ls ≡ m → Bound D Σ us o → Bound D Σ (a ∷ us) (choose m (cons_found v o) none)
      look true e next =
          let found-label = member_label D n l (rw e tt) in
          let same : b ≡ a = cc in
          bound_more (rw same at h) next
      look false e next = nothing

  -- So the branch that binds them keeps its type.
  subst_all_typed : {Γ us : List Ty} {c : Dom} {t : Ty} {f : Tm} {vs : List Val} → All2 (ValTy D Σ) vs us → TmTy D Σ (reverse_aux us Γ) c f t → TmTy D Σ Γ c (subst_all vs f) t
  subst_all_typed all2_nil h = h
  subst_all_typed {Γ} (all2_cons {x = v} {y = a} {xs = vs} {ys = us} hv hs) h =
      let n = all2_length hs in
      let z : length us + 0 ≡ length vs = omega arith in
      subst_all_typed hs (subst_tm D hv h (rw z at (without_back {a = a} us (here {Γ = Γ}))))

module _ (D : Policy) {Σ : StoreTyping} {c : Dom} (s : State) (fits : StateFits D Σ s) where
  -- A value, in a store typing that stays.
  here_val : {t : Ty} {v : Val} (s' : State) → StateFits D Σ s' → ValTy D Σ v t → Safe D Σ c t (reduct s' (val v))
  here_val s' f h = safe_here D s' f (TmTy.is_val h)

  module _ (G : Given) (P : Place) where
    pub safe0 : KeptFits D Σ P.kept → {o : Op0} {t : Ty} → Rule0 D c o t → Safe D Σ c t (reduce0 G (at c P) s o t)
    safe0 kept (Rule0.t_new_label {a} {p} h) =
        let x = extends_label Σ (Ty.label a p) in
        let place : get_elem? (Σ.labels ++ (Ty.label a p ∷ [])) (length s.labels) ≡ some (Ty.label a p) = rw (← all2_length fits.labels) (get_last Σ.labels (Ty.label a p)) in
        safe_capacity D _ _ tt
        (safe_go x
        (record { cells = grow_cells D x fits.cells; labels = all2_snoc fits.labels label_fits; advices = grow_advices D x fits.advices })
        (TmTy.is_val (ValTy.v_label place)))
    safe0 kept Rule0.t_abort = safe_halt
    safe0 kept (Rule0.t_takedown {p} h) = here_val _ (record { cells = fits.cells; labels = fits.labels; advices = all_filtered _ fits.advices }) ValTy.v_unit
    safe0 kept Rule0.t_stack = safe_spend D _ s _ (here_val _ fits (stack_typed D kept))

    pub safe1 : {o : Op1} {t a : Ty} {v : Val} → Rule1 D c o a t → ValTy D Σ v a → Safe D Σ c t (reduce1 G (at c P) s o t v)
    unfolding with
    safe1 Rule1.t_print ValTy.v_number = safe_capacity D _ _ tt (here_val _ fits ValTy.v_unit)
    safe1 (Rule1.t_install h) (ValTy.v_advice ls o b) =
        safe_capacity D _ _ tt (here_val _ (record { cells = fits.cells; labels = fits.labels; advices = all_snoc fits.advices (advice_fits ls o b) }) ValTy.v_unit)
    safe1 (Rule1.t_read h) (ValTy.v_cell {r} g) = let k = cell_there D s fits r g in rw k.1 (here_val _ fits (held_typed D k.2))
    safe1 Rule1.t_byte ValTy.v_number = here_val _ fits ValTy.v_number
    safe1 (Rule1.t_new_cell {a} {p} h) hv =
        let x = extends_cell Σ (Ty.ref a p) in
        let place : get_elem? (Σ.cells ++ (Ty.ref a p ∷ [])) (length s.cells) ≡ some (Ty.ref a p) = rw (← all2_length fits.cells) (get_last Σ.cells (Ty.ref a p)) in
        safe_spend D _ s _
        (safe_go x
        (record { cells = all2_snoc (grow_cells D x fits.cells) (cell_fits (grow_val D x hv)); labels = fits.labels; advices = grow_advices D x fits.advices })
        (TmTy.is_val (ValTy.v_cell place)))
    safe1 (Rule1.t_call x) (ValTy.v_object k) = let e = body_typed D x k in rw e.1 (safe_spend D _ s _ (safe_here D _ fits (subst_tm D (ValTy.v_object k) e.2 here)))

    pub safe2 : Transitive D → {o : Op2} {t a b : Ty} {v w : Val} → Rule2 D c o a b t → ValTy D Σ v a → ValTy D Σ w b → Safe D Σ c t (reduce2 G (at c P) s o t v w)
    unfolding with
    safe2 trans Rule2.t_pair hv hw = safe_spend D _ s _ (here_val _ fits (ValTy.v_pair hv hw))
    safe2 trans Rule2.t_app (ValTy.v_fun h) hw = safe_spend D _ s _ (safe_here D _ fits (subst_tm D hw h here))
    safe2 trans Rule2.t_mark (ValTy.v_label {l} g) hw =
        rw (label_there D s fits l g) (safe_spend D _ s _ (safe_here D _ fits (composed_typed D trans hw l g (all_reverse fits.advices))))
    safe2 trans (Rule2.t_store h) (ValTy.v_cell {r} g) hw =
        let k = cell_there D s fits r g in
        rw k.1 (here_val _ (record { cells = all2_set fits.cells r g (held_set D k.2 hw); labels = fits.labels; advices = fits.advices }) ValTy.v_unit)
    safe2 trans Rule2.t_plus ValTy.v_number ValTy.v_number = here_val _ fits ValTy.v_number
    safe2 trans Rule2.t_minus ValTy.v_number ValTy.v_number = here_val _ fits ValTy.v_number
    safe2 trans Rule2.t_less ValTy.v_number ValTy.v_number = here_val _ fits ValTy.v_truth
    safe2 trans Rule2.t_equal ValTy.v_number ValTy.v_number = here_val _ fits ValTy.v_truth

  pub safe_seq : {t : Ty} {f : Tm} {v : Val} → ValTy D Σ v Ty.unit → TmTy D Σ [] c f t → Safe D Σ c t (reduce_seq s f v)
  unfolding with
  safe_seq ValTy.v_unit k = safe_here D s fits k

  pub safe_ite : {t : Ty} {f g : Tm} {v : Val} → ValTy D Σ v Ty.truth → TmTy D Σ [] c f t → TmTy D Σ [] c g t → Safe D Σ c t (reduce_ite s f g v)
  unfolding with
  safe_ite {t} {f} {g} (ValTy.v_truth {b}) k l = branch b
    where
      branch : (b : Bool) → Safe D Σ c t (reduct s (choose b f g))
      branch true = safe_here D s fits k
      branch false = safe_here D s fits l

  pub safe_split : (P : Place) {t a b : Ty} {f : Tm} {v : Val} → ValTy D Σ v (Ty.pair a b) → TmTy D Σ (b ∷ a ∷ []) c f t → Safe D Σ c t (reduce_split P s f v)
  unfolding with
  safe_split P (ValTy.v_pair h h') k = safe_spend D _ s _ (safe_here D _ fits (subst_tm D h' (subst_tm D h k (there here)) here))

  pub safe_adv : (P : Place) {p q : Dom} {a : Ty} {b : Tm} {v : Val} → ValTy D Σ v (Ty.pointcut a q) → D.leq p q ≡ true → TmTy D Σ (a ∷ []) p b Ty.unit → Safe D Σ c (Ty.advice p) (reduce_adv P s p b v)
  unfolding with
  safe_adv P (ValTy.v_pointcut h) o k = safe_spend D _ s _ (here_val _ fits (ValTy.v_advice h o k))

  pub safe_lower : {v : Val} → ValTy D Σ v Ty.unit → Safe D Σ c Ty.unit (reduce_lower s v)
  unfolding with
  safe_lower ValTy.v_unit = here_val _ fits ValTy.v_unit

  pub safe_pcd : (P : Place) {a : Ty} {p : Dom} {vs : List Val} {ts : List Ty} → All2 (ValTy D Σ) vs ts → LabelTys D a p ts → Safe D Σ c (Ty.pointcut a p) (reduce_pcd P s vs)
  unfolding with
  safe_pcd P hs os =
      let m = collect_labels D hs os LabelsOf.no_labels in
      rw m.1 (safe_spend D _ s _ (here_val _ fits (ValTy.v_pointcut m.2)))

  -- Card 6.
  pub safe_keep : {t : Ty} {v : Val} → ValTy D Σ v t → Safe D Σ c t (reduce_keep s v)
  safe_keep h = here_val s fits h

  safe_branch : (P : Place) {t : Ty} {us : List Ty} {f g : Tm} {o : Option (List Val)} → Bound D Σ us o → TmTy D Σ (reverse_aux us []) c f t → TmTy D Σ [] c g t
      → Safe D Σ c t (branch P s (λ ws. subst_all ws f) g o)
  safe_branch P (found hs) k l = safe_spend D _ s _ (safe_here D _ fits (subst_all_typed D hs k))
  safe_branch P nothing k l = safe_here D _ fits l

  pub safe_match : (P : Place) {t : Ty} {p : Pattern} {ts us : List Ty} {f g : Tm} (vs : List Val) → All2 (ValTy D Σ) (reverse vs) (Ty.stack ∷ ts) → PatternTy p ts us
      → TmTy D Σ (reverse_aux us []) c f t → TmTy D Σ [] c g t → Safe D Σ c t (reduce_match P s p f g vs)
  safe_match P {t} {p} {ts} {us} {f} {g} vs hs pt k l = on hs
    where
      on : {ws : List Val} → All2 (ValTy D Σ) ws (Ty.stack ∷ ts) → Safe D Σ c t (match_on top_of labels_of P s p (λ xs. subst_all xs f) g ws)
      on (all2_cons hk hx) = safe_branch P (matched_typed D pt hx hk) k l
