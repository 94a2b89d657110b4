-- The simulation: two related terms at a high domain, over related states; what they do next keeps them related.
use Prim.Native.Nat.{◌≤◌}
use mathlib.Core.Path.{◌≡◌, refl}
use mathlib.Core.Bool.{Bool, true}
use mathlib.Core.List.{List, [], ◌∷◌, reverse, reverse_aux}
use mathlib.Core.Option.{none}
use Rattle.calculus.specs.Syntax.{Dom, Ty, Val, Tm, Tms, Pattern, Op0, Op1, Op2, as_value, val, op0, op1, op2, seq, ite, split, pcd, adv, lower, keep, match, more}
use Rattle.calculus.specs.State.{State, Given}
use Rattle.calculus.specs.View.{label_of}
use Rattle.calculus.specs.Answer.{Answer, wrong}
use Rattle.calculus.specs.Place.{Place, at, deeper, keeping}
use Rattle.calculus.specs.Step.{before, step, step_first}
use Rattle.calculus.specs.Typing.{Policy, StoreTyping, ◌⊢◌⦂◌ as Rule0, ◌⊢◌⦂◌⇒◌ as Rule1, ◌⊢◌⦂◌⇒◌⇒◌ as Rule2, ◌⨾◌⊢◌⦂◌ as TmTy, ◌⨾◌⊢*◌⦂◌ as TmsTy, is_op0, is_op1, is_op2, is_seq, is_ite, is_split, is_pcd, is_adv, is_lower, is_more, PatternTy, ⊢◌⦂◌ as ValTy, is_keep, is_matching, is_end}
use Rattle.laws.proofs.Lists.{All2.all2_nil, All2.all2_cons, All2, all2_reverse}
use Rattle.calculus_safety.proofs.StoreFits.{StateFits}
use Rattle.calculus_safety.proofs.Values.{val_ty}
use Rattle.calculus_noninterference.specs.Observe.{Highs}
use Rattle.calculus_noninterference.specs.NoLowTakedown.{NoLowTakedown, NoLowTakedowns}
use Rattle.calculus_noninterference.proofs.NoLowTakedown.{NoLowTakedownState, no_low_takedown_value, no_low_takedown_keeping}
use Rattle.calculus_noninterference.proofs.Clash.{clash}
use Rattle.calculus_noninterference.proofs.Related.{World, Grows, RelT, RelL, l_high, l_low, RelTs, RelVs, RelPlace, inward, v_fun, v_object, r_val, r_var, r_lam, r_val_lam, r_lam_val, r_op0, r_op1, r_op2, r_seq, r_ite, r_split, r_pcd, r_adv, r_lower, r_obj, r_val_obj, r_obj_val, r_keep, r_match, r_skip_left, r_skip_right, r_end, r_more, rel_v_mono, rel_t_mono, rel_l_mono, rel_ts_mono, RelS}
use Rattle.calculus_noninterference.proofs.Paired.{n_wrong, no_step_capacity, not_short_capacity, Two, Sim, s_values, s_both, s_none_left, two_framed, lift_in, lift}
use Rattle.calculus_noninterference.proofs.Reductions.{two_pcd, two_seq, two_lower, two_ite, two_split, two_adv, two0, two1, two2, keeping_rel, two_stay, two_match}
use Rattle.calculus_noninterference.proofs.Alone.{skips, skip_left, skip_right, sim_low}
use Rattle.calculus_noninterference.proofs.Operands.{value_left, value_right}

-- The typing of a term's parts.
module _ {D : Policy} {Σ : StoreTyping} {c : Dom} where
  inv_op0 : {o : Op0} {t u : Ty} → TmTy D Σ [] c (op0 o t) u → Rule0 D c o t
  inv_op0 (is_op0 r) = r

  inv_op1 : {o : Op1} {t u : Ty} {e : Tm} → TmTy D Σ [] c (op1 o t e) u → (a : Ty) × Rule1 D c o a t × TmTy D Σ [] c e a
  inv_op1 (is_op1 {a} r h) = (a, r, h)

  inv_op2 : {o : Op2} {t u : Ty} {e f : Tm} → TmTy D Σ [] c (op2 o t e f) u → (a b : Ty) × Rule2 D c o a b t × TmTy D Σ [] c e a × TmTy D Σ [] c f b
  inv_op2 (is_op2 {a} {b} r h k) = (a, b, r, h, k)

  inv_seq : {u : Ty} {e f : Tm} → TmTy D Σ [] c (seq e f) u → TmTy D Σ [] c e Ty.unit × TmTy D Σ [] c f u
  inv_seq (is_seq h k) = (h, k)

  inv_ite : {u : Ty} {e f g : Tm} → TmTy D Σ [] c (ite e f g) u → TmTy D Σ [] c e Ty.truth
  inv_ite (is_ite h k l) = h

  inv_split : {u : Ty} {e f : Tm} → TmTy D Σ [] c (split e f) u → (a b : Ty) × TmTy D Σ [] c e (Ty.pair a b)
  inv_split (is_split {a} {b} h k) = (a, b, h)

  inv_pcd : {u : Ty} {es : Tms} → TmTy D Σ [] c (pcd es) u → (ts : List Ty) × TmsTy D Σ [] c es ts
  inv_pcd (is_pcd {ts} h l) = (ts, h)

  inv_adv : {u : Ty} {p : Dom} {e b : Tm} → TmTy D Σ [] c (adv p e b) u → (a : Ty) × (q : Dom) × TmTy D Σ [] c e (Ty.pointcut a q)
  inv_adv (is_adv {q} {a} h l k) = (a, q, h)

  inv_lower : {u : Ty} {p : Dom} {e : Tm} → TmTy D Σ [] c (lower p e) u → TmTy D Σ [] p e Ty.unit
  inv_lower (is_lower l h) = h

  inv_keep : {u : Ty} {e f g : Tm} → TmTy D Σ [] c (keep e f g) u → (a : Ty) × TmTy D Σ [] c e (Ty.label a c) × TmTy D Σ [] c f a × TmTy D Σ [] c g u
  inv_keep (is_keep {a} h k l) = (a, h, k, l)

  inv_match : {u : Ty} {p : Pattern} {es : Tms} {f g : Tm} → TmTy D Σ [] c (match p es f g) u → (ts us : List Ty) × TmsTy D Σ [] c es (Ty.stack ∷ ts) × PatternTy p ts us
  inv_match (is_matching {ts} {us} h p k l) = (ts, us, h, p)

  inv_more : {ts : List Ty} {e : Tm} {es : Tms} → TmsTy D Σ [] c (more e es) ts → (a : Ty) × (us : List Ty) × TmTy D Σ [] c e a × TmsTy D Σ [] c es us
  inv_more (is_more {ts} {a} h k) = (a, ts, h, k)

module _ (hi : Dom → Bool) {D : Policy} (H : Highs D hi) (G G' : Given) (frame : G.frame ≡ G'.frame) {W : World} (log : W.stripped ≡ true → G.log_length ≤ G'.log_length) {s s' : State} (R : RelS hi W s s') {Σ Σ' : StoreTyping} (K : StateFits D Σ s) (K' : StateFits D Σ' s') (S : W.stripped ≡ true → NoLowTakedownState hi s) where
  -- A lower to a high domain goes on in both runs.
  sim_lower : {p : Dom} (c : Dom) {e e' : Tm} → hi p ≡ true → TmTy D Σ [] p e Ty.unit → (P P' : Place) → RelPlace hi W P P'
      → Sim hi W s s' e e' (step e G (at p (deeper P)) s) (step e' G' (at p (deeper P')) s')
      → Sim hi W s s' (lower p e) (lower p e') (step (lower p e) G (at c P) s) (step (lower p e') G' (at c P') s')
  unfolding step
  sim_lower {p} c h T P P' Q m = lift hi (lower p) (lower p) refl refl (λ X x x' w y. r_lower (l_high h y)) (λ v v' k k' y. s_both refl refl (two_framed hi Q (two_lower hi R (val_ty T k) y))) m

  mutual
    unfolding step NoLowTakedown NoLowTakedowns

    pub sim : {e e' : Tm} → RelT hi W e e' → (c : Dom) {t t' : Ty} → hi c ≡ true → TmTy D Σ [] c e t → TmTy D Σ' [] c e' t' → (W.stripped ≡ true → NoLowTakedown hi c e) → (P P' : Place) → RelPlace hi W P P' → Sim hi W s s' e e' (step e G (at c P) s) (step e' G' (at c P') s')
    sim (r_val r) c h T T' C P P' Q = s_values refl refl r
    sim r_var c h T T' C P P' Q = s_none_left refl (no_step_capacity _ _ n_wrong) (not_short_capacity wrong _ _ refl (λ y. y))
    sim (r_lam r) c h T T' C P P' Q = s_values refl refl (v_fun r)
    sim (r_val_lam x r) c h T T' C P P' Q = s_values refl refl r
    sim (r_lam_val x r) c h T T' C P P' Q = s_values refl refl r
    sim r_op0 c h T T' C P P' Q = s_both refl refl (two_framed hi Q (two0 hi H R K G G' h P P' Q (inv_op0 T)))
    sim (r_op1 {o} {t} r) c h T T' C P P' Q =
        lift hi (op1 o t) (op1 o t) refl refl
        (λ X x x' w y. r_op1 y)
        (λ v v' p p' y. s_both refl refl (two_framed hi Q (two1 hi H R K G G' h P P' frame log (inv_op1 T).1 (val_ty (inv_op1 T).2 p) y)))
        (sim r c h (inv_op1 T).2 (inv_op1 T').2 C (deeper P) (deeper P') (inward hi W Q))
    sim (r_op2 {o} {t} {f} {f'} r q) c h T T' C P P' Q =
        lift hi (λ x. op2 o t x f) (λ x. op2 o t x f') refl refl
        (λ X x x' w y. r_op2 y (rel_t_mono hi q w))
        (λ v v' p p' y. lift_in hi (op2 o t (val v)) (op2 o t (val v')) refl refl
        (λ X x x' w z. r_op2 (r_val (rel_v_mono hi y w)) z)
        (λ X x w z. r_op2 (rel_t_mono hi (value_left hi (inv_op2 T').3 p' y) w) z)
        (λ X x w z. r_op2 (rel_t_mono hi (value_right hi (inv_op2 T).3 p y) w) z)
        (λ u u' k k' z. s_both refl refl (two_framed hi Q (two2 hi H R K G G' h P P' (inv_op2 T).2 (val_ty (inv_op2 T).3 p) (val_ty (inv_op2 T).4 k) y z)))
        (sim q c h (inv_op2 T).4 (inv_op2 T').4 (λ z. (C z).1) (deeper P) (deeper P') (inward hi W Q)))
        (sim r c h (inv_op2 T).3 (inv_op2 T').3 (λ z. (C z).0) (deeper P) (deeper P') (inward hi W Q))
    sim (r_seq {f} {f'} r q) c h T T' C P P' Q =
        lift hi (λ x. seq x f) (λ x. seq x f') refl refl
        (λ X x x' w y. r_seq y (rel_t_mono hi q w))
        (λ v v' p p' y. s_both refl refl (two_framed hi Q (two_seq hi R (val_ty (inv_seq T).0 p) y q)))
        (sim r c h (inv_seq T).0 (inv_seq T').0 (λ z. (C z).0) (deeper P) (deeper P') (inward hi W Q))
    sim (r_ite {f} {f'} {g} {g'} r q u) c h T T' C P P' Q =
        lift hi (λ x. ite x f g) (λ x. ite x f' g') refl refl
        (λ X x x' w y. r_ite y (rel_t_mono hi q w) (rel_t_mono hi u w))
        (λ v v' p p' y. s_both refl refl (two_framed hi Q (two_ite hi R (val_ty (inv_ite T) p) y q u)))
        (sim r c h (inv_ite T) (inv_ite T') (λ z. (C z).0) (deeper P) (deeper P') (inward hi W Q))
    sim (r_split {f} {f'} r q) c h T T' C P P' Q =
        lift hi (λ x. split x f) (λ x. split x f') refl refl
        (λ X x x' w y. r_split y (rel_t_mono hi q w))
        (λ v v' p p' y. s_both refl refl (two_framed hi Q (two_split hi R c P P' (val_ty (inv_split T).2 p) y q)))
        (sim r c h (inv_split T).2 (inv_split T').2 (λ z. (C z).0) (deeper P) (deeper P') (inward hi W Q))
    sim (r_pcd r) c h T T' C P P' Q =
        sims r c h (inv_pcd T).1 (inv_pcd T').1 C P P' Q refl refl [] [] all2_nil [] all2_nil pcd pcd
        (λ X x x' w y. r_pcd y) (λ X x w y. r_pcd y) (λ X x w y. r_pcd y)
        _ _ (λ vs vs' xs y z e. two_pcd hi R c P P' y)
    sim (r_adv {p} {b} {b'} r q) c h T T' C P P' Q =
        lift hi (λ x. adv p x b) (λ x. adv p x b') refl refl
        (λ X x x' w y. r_adv y (rel_l_mono hi q w))
        (λ v v' k k' y. s_both refl refl (two_framed hi Q (two_adv hi R c P P' (val_ty (inv_adv T).2 k) y q)))
        (sim r c h (inv_adv T).2 (inv_adv T').2 (λ z. (C z).0) (deeper P) (deeper P') (inward hi W Q))
    sim (r_keep {f} {f'} {g} {g'} r q u) c h T T' C P P' Q =
        lift hi (λ x. keep x f g) (λ x. keep x f' g') refl refl
        (λ X x x' w y. r_keep y (rel_t_mono hi q w) (rel_t_mono hi u w))
        (λ v v' p p' y. lift_in hi (λ x. keep (val v) x g) (λ x. keep (val v') x g') refl refl
        (λ X x x' w z. r_keep (r_val (rel_v_mono hi y w)) z (rel_t_mono hi u w))
        (λ X x w z. r_keep (rel_t_mono hi (value_left hi (inv_keep T').1 p' y) w) z (rel_t_mono hi u w))
        (λ X x w z. r_keep (rel_t_mono hi (value_right hi (inv_keep T).1 p y) w) z (rel_t_mono hi u w))
        (λ b b' k k' z. lift_in hi (keep (val v) (val b)) (keep (val v') (val b')) refl refl
        (λ X x x' w m. r_keep (r_val (rel_v_mono hi y w)) (r_val (rel_v_mono hi z w)) m)
        (λ X x w m. r_keep (rel_t_mono hi (value_left hi (inv_keep T').1 p' y) w) (rel_t_mono hi (value_left hi (inv_keep T').2 k' z) w) m)
        (λ X x w m. r_keep (rel_t_mono hi (value_right hi (inv_keep T).1 p y) w) (rel_t_mono hi (value_right hi (inv_keep T).2 k z) w) m)
        (λ a a' i i' m. s_both refl refl (two_framed hi Q (two_stay hi R (r_val m))))
        (sim u c h (inv_keep T).3 (inv_keep T').3 (λ i. (C i).2) (keeping v b (deeper P)) (keeping v' b' (deeper P')) (record { kept = keeping_rel hi W (deeper P) (deeper P') (val_ty (inv_keep T).1 p) y z Q.kept; depth = (inward hi W Q).depth; no_low_takedown = λ i. no_low_takedown_keeping hi b (label_of v) (no_low_takedown_value hi c f k (C i).1) (Q.no_low_takedown i) })))
        (sim q c h (inv_keep T).2 (inv_keep T').2 (λ z. (C z).1) (deeper P) (deeper P') (inward hi W Q)))
        (sim r c h (inv_keep T).1 (inv_keep T').1 (λ z. (C z).0) (deeper P) (deeper P') (inward hi W Q))
    sim (r_match {p} {f} {f'} {g} {g'} r q u) c h T T' C P P' Q =
        sims r c h (inv_match T).2 (inv_match T').2 (λ z. (C z).0) P P' Q refl refl [] [] all2_nil [] all2_nil (λ x. match p x f g) (λ x. match p x f' g')
        (λ X x x' w y. r_match y (rel_t_mono hi q w) (rel_t_mono hi u w)) (λ X x w y. r_match y (rel_t_mono hi q w) (rel_t_mono hi u w)) (λ X x w y. r_match y (rel_t_mono hi q w) (rel_t_mono hi u w))
        _ _ (λ vs vs' xs y z e. two_match hi H R K G G' h P P' vs vs' (inv_match T).3 (rw (← e) at (all2_reverse z)) (all2_reverse y) q u)
    sim (r_lower r) c h T T' C P P' Q = sim_body r c (inv_lower T) (inv_lower T') C P P' Q
    sim (r_obj r) c h T T' C P P' Q = s_values refl refl (v_object r)
    sim (r_val_obj x r) c h T T' C P P' Q = s_values refl refl r
    sim (r_obj_val x r) c h T T' C P P' Q = s_values refl refl r
    sim (r_skip_left i r) c h T T' C P P' Q = skip_left hi R _ (skips hi (W.stripped ≡ true) H s K S G i (inv_seq T).0 (λ z. (C z).0) P Q.no_low_takedown _) r
    sim (r_skip_right z i r) c h T T' C P P' Q = skip_right hi R z _ (skips hi (W.stripped ≡ true) H s' K' (λ t. clash t z) G' i (inv_seq T').0 (λ t. clash t z) P' (λ t. clash t z) _) r

    sim_body : {p : Dom} {e e' : Tm} → RelL hi W p e e' → (c : Dom) → TmTy D Σ [] p e Ty.unit → TmTy D Σ' [] p e' Ty.unit → (W.stripped ≡ true → NoLowTakedown hi p e) → (P P' : Place) → RelPlace hi W P P' → Sim hi W s s' (lower p e) (lower p e') (step (lower p e) G (at c P) s) (step (lower p e') G' (at c P') s')
    sim_body (l_high {p} x r) c T T' C P P' Q = sim_lower c x T P P' Q (sim r p x T T' C (deeper P) (deeper P') (inward hi W Q))
    sim_body (l_low l u) c T T' C P P' Q = sim_low hi R H K K' S G G' c l u T T' C P P' Q

    -- Operands of the whole terms w and w', after those that are the values vs and vs': k puts operands back, r reduces values.
    sims : {es es' : Tms} → RelTs hi W es es' → (c : Dom) {ts ts' : List Ty} → hi c ≡ true → TmsTy D Σ [] c es ts → TmsTy D Σ' [] c es' ts' → (W.stripped ≡ true → NoLowTakedowns hi c es) → (P P' : Place) → RelPlace hi W P P' → {w w' : Tm} → as_value w ≡ none → as_value w' ≡ none
        → (vs vs' : List Val) → RelVs hi W vs vs' → (us : List Ty) → All2 (ValTy D Σ) vs us → (k k' : Tms → Tm)
        → ((X : World) (x x' : Tms) → Grows W X → RelTs hi X x x' → RelT hi X (k (before vs x)) (k' (before vs' x')))
        → ((X : World) (x : Tms) → Grows W X → RelTs hi X x es' → RelT hi X (k (before vs x)) w')
        → ((X : World) (x' : Tms) → Grows W X → RelTs hi X es x' → RelT hi X w (k' (before vs' x')))
        → (r r' : List Val → Answer State Tm) → ((vs vs' : List Val) (xs : List Ty) → RelVs hi W vs vs' → All2 (ValTy D Σ) vs xs → reverse_aux us ts ≡ reverse xs → Two hi W (r vs) (r' vs'))
        → Sim hi W s s' w w' (step_first es G (at c P) s vs k r) (step_first es' G' (at c P') s' vs' k' r')
    sims r_end c h is_end T' C P P' Q n n' vs vs' ws us hs k k' g gl gr r r' m = s_both n n' (two_framed hi Q (m vs vs' us ws hs refl))
    sims (r_more {e} {e'} {es = f} {es' = f'} q qs) c h (is_more {a} T Ts) T' C P P' Q n n' vs vs' ws us hs k k' g gl gr r r' m =
        lift_in hi (λ x. k (before vs (more x f))) (λ x. k' (before vs' (more x f'))) n n'
        (λ X x x' w y. g X _ _ w (r_more y (rel_ts_mono hi qs w)))
        (λ X x w y. gl X _ w (r_more y (rel_ts_mono hi qs w)))
        (λ X x w y. gr X _ w (r_more y (rel_ts_mono hi qs w)))
        (λ v v' p p' y. sims qs c h Ts (inv_more T').3 (λ z. (C z).1) P P' Q n n' (v ∷ vs) (v' ∷ vs') (all2_cons y ws) (a ∷ us) (all2_cons (val_ty T p) hs) k k'
        (λ X x x' w z. g X _ _ w (r_more (r_val (rel_v_mono hi y w)) z))
        (λ X x w z. gl X _ w (r_more (rel_t_mono hi (value_left hi (inv_more T').2 p' y) w) z))
        (λ X x w z. gr X _ w (r_more (rel_t_mono hi (value_right hi T p y) w) z))
        r r' m)
        (sim q c h T (inv_more T').2 (λ z. (C z).0) (deeper P) (deeper P') (inward hi W Q))
