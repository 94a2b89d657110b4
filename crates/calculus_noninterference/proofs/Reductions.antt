-- Two related redexes at a high domain, over related states: what they reduce to is related.
use Prim.Native.Nat.{ℕ, ◌-◌, ◌*◌, ◌≤◌}
use borrow.Author.Tests.{ltb-true, lt-ltb, leb-true, le-leb}
use mathlib.Core.Path.{◌≡◌, refl, sym, ap, ◌∙◌, subst as transp}
use mathlib.Core.Bool.{Bool, true, false}
use mathlib.Core.List.{List, ◌∷◌, reverse}
use mathlib.Core.Option.{Option, none, some, some-injective}
use lib.ListN.{get_elem?, length}
use lib.Dec.{ltb, leb}
use Rattle.calculus.specs.Limits.{label_limit, advice_limit, log_record_length}
use Rattle.calculus.specs.Combinators.{cases, choose}
use Rattle.calculus.specs.Syntax.{Dom, Ty, Sigs, Val, Tm, Tms, Op0, Op1, Op2, val, Pattern, lower}
use Rattle.calculus.specs.State.{Cell, State, Given, Counts, Uses, some_pieces, some_bindings, at_dom, Entry, prints, Advice, advice_bindings}
use Rattle.calculus.specs.Numbers.{frame_byte, sum, difference, is_less, is_equal}
use Rattle.calculus.specs.View.{top_of, labels_of}
use Rattle.calculus.specs.Answer.{reduct, with, spend}
use Rattle.calculus.specs.Place.{Place, at, keeping}
use Rattle.calculus.specs.Reduce.{piece, bind, reduce0, reduce1, reduce2, arith, num, truth, reduce_seq, reduce_ite, reduce_split, reduce_adv, reduce_lower, collect, reduce_pcd, method_body, stack_val, cons_found, matched, branch, match_on, subst_all, reduce_match}
use Rattle.calculus.specs.Typing.{Policy, Has, has_first, has_later, StoreTyping, ◌⊢◌⦂◌ as Rule0, ◌⊢◌⦂◌⇒◌ as Rule1, ◌⊢◌⦂◌⇒◌⇒◌ as Rule2, ⊢◌⦂◌ as ValTy, t_new_label, t_abort, t_takedown, t_print, t_install, t_read, t_byte, t_new_cell, t_call, t_pair, t_app, t_mark, t_store, t_plus, t_minus, t_less, t_equal, PatternTy, p_end, p_rest, p_any, p_cut, t_stack}
use Rattle.laws.proofs.Lists.{All2.all2_nil, All2.all2_cons, All2, all2_length}
use Rattle.calculus_safety.proofs.StoreFits.{StateFits}
use Rattle.calculus_noninterference.specs.Observe.{Highs, NoMore}
use Rattle.calculus_noninterference.proofs.Clash.{clash}
use Rattle.calculus_noninterference.proofs.Quotas.{no_more_refl, mainline_both, mainline_alone, others_both, others_alone}
use Rattle.calculus_noninterference.proofs.Interleave.{both, Matches, matched_last, get_both, interleaving_reverse, no_longer, Side, Matched, matched_eqb, i_nil, i_both, i_left, i_right}
use Rattle.calculus_noninterference.proofs.Traces.{log_no_longer}
use Rattle.calculus_noninterference.proofs.Related.{World, grows_refl, RelCell, RelV, RelT, RelL, RelVs, RelBs, SameUse, RelPlace, b_rel, b_low, v_unit, v_truth, v_number, v_pair, v_fun, v_label, v_cell, v_pointcut, v_advice, v_object, r_val, r_body, RelS, RelKept, v_bottom, v_kept, inert_lower, r_seq, r_lower, r_skip_left, r_skip_right, RelAdvice, Advices}
use Rattle.calculus.specs.Subst.{subst}
use Rattle.calculus.specs.Compose.{member, matching, composed}
use Rattle.calculus_noninterference.proofs.Substitute.{rel_choose, rel_t_subst, rel_l_subst}
use Rattle.calculus_noninterference.proofs.Store.{cell_dom}
use Rattle.calculus_noninterference.proofs.States.{grows_cell, grows_label, rel_charged, cell_both, store_both, label_both, advice_both, clear_both, event_both}
use Rattle.calculus_noninterference.proofs.Paired.{n_halt, Two, two_go, none_left, two_capacity, two_spend, two_some, two_found, two_none}
use native.Mathlib.Omega as nat

-- What a mark of matched labels becomes in the two runs is related (document 003, section 2.3, figure 5).
-- Matched lists of labels agree on a matched pair of labels.
pub member_same : {w : List Side} {l l' : ℕ} {ls ls' : List ℕ} → Matched w l l' → Matches w ls ls' → member l ls ≡ member l' ls'
member_same m all2_nil = refl
member_same {l} {l'} m (all2_cons n ns) = rw (matched_eqb m n, member_same m ns)

module _ (hi : Dom → Bool) {W : World} where
  -- An advice is put before the rest if a test b says so: where both runs have it, and where one run has it alone.
  chosen_both : {a a' : Advice Tm} (x x' : List (Advice Tm)) {v v' : Val} (b b' : Bool) → b ≡ b' → RelAdvice hi W a a' → RelV hi W v v' → RelT hi W (composed v x) (composed v' x')
      → RelT hi W (composed v (choose b (a ∷ x) x)) (composed v' (choose b' (a' ∷ x') x'))
  chosen_both {a} {a'} x x' {v} {v'} true true e h u r = r_seq (transp (λ q. RelT hi W (lower a.dom (subst 0 v a.body)) (lower q (subst 0 v' a'.body))) h.same_dom (r_lower (rel_l_subst hi h.body 0 u))) r
  chosen_both x x' true false e h u r = clash refl e
  chosen_both x x' false true e h u r = clash refl (sym e)
  chosen_both x x' false false e h u r = r

  chosen_left : (a : Advice Tm) (x : List (Advice Tm)) (v : Val) {e : Tm} (b : Bool) → hi a.dom ≡ false → RelT hi W (composed v x) e → RelT hi W (composed v (choose b (a ∷ x) x)) e
  chosen_left a x v true l r = r_skip_left (inert_lower l) r
  chosen_left a x v false l r = r

  chosen_right : (a : Advice Tm) (x : List (Advice Tm)) (v : Val) {e : Tm} (b : Bool) → (hi a.dom ≡ false) × (W.stripped ≡ false) → RelT hi W e (composed v x) → RelT hi W e (composed v (choose b (a ∷ x) x))
  chosen_right a x v true l r = r_skip_right l.1 (inert_lower l.0) r
  chosen_right a x v false l r = r

  pub composed_rel : {w : List Side} {x x' : List (Advice Tm)} {l l' : ℕ} {v v' : Val} → Advices hi W w x x' → Matched W.labels l l' → RelV hi W v v' → RelT hi W (composed v (matching l x)) (composed v' (matching l' x'))
  composed_rel i_nil m u = r_val v_unit
  composed_rel {l} {l'} (i_both {a} {b} {x} {y} h k) m u = chosen_both (matching l x) (matching l' y) (member l a.labels) (member l' b.labels) (member_same m h.labels) h u (composed_rel k m u)
  composed_rel {l} {v} (i_left {a} {x} h k) m u = chosen_left a (matching l x) v (member l a.labels) h (composed_rel k m u)
  composed_rel {l'} {v'} (i_right {b} {y} h k) m u = chosen_right b (matching l' y) v' (member l' b.labels) h (composed_rel k m u)

  -- The two marks use the same of domain 0's half (card 9).
  pub mainline_bindings : hi 0 ≡ true → {w : List Side} {x x' : List (Advice Tm)} {l l' : ℕ} → Advices hi W w x x' → Matched W.labels l l' → (advice_bindings (matching l x)).mainline ≡ (advice_bindings (matching l' x')).mainline
  mainline_bindings main i_nil m = refl
  mainline_bindings main {l} {l'} (i_both {a} {b} {x} {y} h k) m = mainline_both a b (matching l x) (matching l' y) (member l a.labels) (member l' b.labels) (member_same m h.labels) h.same_dom (mainline_bindings main k m)
  mainline_bindings main {l} (i_left {a} {x} h k) m = mainline_alone hi main a (matching l x) (member l a.labels) h ∙ mainline_bindings main k m
  mainline_bindings main {l'} (i_right {b} {y} h k) m = mainline_bindings main k m ∙ sym (mainline_alone hi main b (matching l' y) (member l' b.labels) h.0)

  -- And a stripped program's mark uses no more of the others' (card 13).
  pub others_bindings : W.stripped ≡ true → {w : List Side} {x x' : List (Advice Tm)} {l l' : ℕ} → Advices hi W w x x' → Matched W.labels l l' → NoMore (advice_bindings (matching l x)).others (advice_bindings (matching l' x')).others
  others_bindings z i_nil m = no_more_refl _
  others_bindings z {l} {l'} (i_both {a} {b} {x} {y} h k) m = others_both a b (matching l x) (matching l' y) (member l a.labels) (member l' b.labels) (member_same m h.labels) h.same_dom (others_bindings z k m)
  others_bindings z {l} (i_left {a} {x} h k) m = others_alone a (matching l x) (member l a.labels) (others_bindings z k m)
  others_bindings z (i_right h k) m = clash z h.1

module _ (hi : Dom → Bool) (W : World) where
  -- Of related values, both lists of labels can be collected, or neither.
  data Collected : Option (List ℕ) → Option (List ℕ) → Type 0 where
    c_none : Collected none none
    c_some : {ls ls' : List ℕ} → Matches W.labels ls ls' → Collected (some ls) (some ls')

  collected : {vs vs' : List Val} {ls ls' : List ℕ} → RelVs hi W vs vs' → Matches W.labels ls ls' → Collected (collect vs ls) (collect vs' ls')
  unfolding cases
  collected all2_nil m = c_some m
  collected (all2_cons v_unit r) m = c_none
  collected (all2_cons v_truth r) m = c_none
  collected (all2_cons v_number r) m = c_none
  collected (all2_cons (v_pair q u) r) m = c_none
  collected (all2_cons (v_fun b) r) m = c_none
  collected (all2_cons (v_label n) r) m = collected r (all2_cons n m)
  collected (all2_cons (v_cell n) r) m = c_none
  collected (all2_cons (v_pointcut n) r) m = c_none
  collected (all2_cons (v_advice n b) r) m = c_none
  collected (all2_cons (v_object b) r) m = c_none
  collected (all2_cons v_bottom r) m = c_none
  collected (all2_cons (v_kept n q u) r) m = c_none

  -- Card 6: the stacks of what is kept around both, and one value more.
  stack_rel : {k k' : List (Entry Val)} → RelKept hi W k k' → RelV hi W (stack_val k) (stack_val k')
  stack_rel all2_nil = v_bottom
  stack_rel (all2_cons a r) = v_kept a.label a.held (stack_rel r)

  pub keeping_rel : {D : Policy} {Σ : StoreTyping} {a : Ty} {q : Dom} {v v' w w' : Val} (P P' : Place) → ValTy D Σ v (Ty.label a q) → RelV hi W v v' → RelV hi W w w' → RelKept hi W P.kept P'.kept → RelKept hi W (keeping v w P).kept (keeping v' w' P').kept
  keeping_rel P P' (ValTy.v_label g) (v_label m) r k = all2_cons (record { label = m; held = r }) k

  -- A pattern binds related values of both stacks, or none of either.
  data Bound : Option (List Val) → Option (List Val) → Type 0 where
    bound_none : Bound none none
    bound_some : {vs vs' : List Val} → RelVs hi W vs vs' → Bound (some vs) (some vs')

  bound_more : {v v' : Val} {o o' : Option (List Val)} (b b' : Bool) → b ≡ b' → RelV hi W v v' → Bound o o' → Bound (choose b (cons_found v o) none) (choose b' (cons_found v' o') none)
  bound_more true true e r bound_none = bound_none
  bound_more true true e r (bound_some k) = bound_some (all2_cons r k)
  bound_more true false e r k = clash refl e
  bound_more false true e r k = clash refl (sym e)
  bound_more false false e r k = bound_none

  matched_rel : {D : Policy} {Σ : StoreTyping} {p : Pattern} {ts us : List Ty} {xs xs' : List Val} {k k' : Val} → PatternTy p ts us → All2 (ValTy D Σ) xs ts → RelVs hi W xs xs' → ValTy D Σ k Ty.stack → RelV hi W k k' → Bound (matched top_of labels_of p xs k) (matched top_of labels_of p xs' k')
  unfolding cases
  matched_rel p_end all2_nil all2_nil ValTy.v_bottom v_bottom = bound_some all2_nil
  matched_rel p_end all2_nil all2_nil (ValTy.v_kept x y z) (v_kept m r k) = bound_none
  matched_rel p_rest all2_nil all2_nil h k = bound_some (all2_cons k all2_nil)
  matched_rel (p_any p) hs rs ValTy.v_bottom v_bottom = bound_none
  matched_rel (p_any p) hs rs (ValTy.v_kept x y z) (v_kept m r k) = matched_rel p hs rs z k
  matched_rel (p_cut p) (all2_cons h hs) (all2_cons q rs) ValTy.v_bottom v_bottom = bound_none
  matched_rel (p_cut p) (all2_cons (ValTy.v_pointcut h) hs) (all2_cons (v_pointcut q) rs) (ValTy.v_kept x y z) (v_kept m r k) = bound_more _ _ (member_same m q) r (matched_rel p hs rs z k)

  subst_all_rel : {vs vs' : List Val} {f f' : Tm} → RelVs hi W vs vs' → RelT hi W f f' → RelT hi W (subst_all vs f) (subst_all vs' f')
  subst_all_rel all2_nil r = r
  subst_all_rel {f} {f'} (all2_cons {x = v} {y = v'} {xs = vs} q qs) r = subst_all_rel qs (transp (λ (n : ℕ). RelT hi W (subst (length vs) v f) (subst n v' f')) (all2_length qs) (rel_t_subst hi r (length vs) q))

same_use : {b : Bool} (n : Uses) → SameUse b n n
same_use n = record { mainline = refl; others = λ z. no_more_refl n.others }

same_size : {b : Bool} (c : Dom) (f : ℕ → Counts) {m n : ℕ} → m ≡ n → SameUse b (at_dom c (f m)) (at_dom c (f n))
same_size c f {m} e = rw (← e) (same_use (at_dom c (f m)))

module _ (hi : Dom → Bool) {W : World} {s s' : State} (R : RelS hi W s s') where
  -- The states stay.
  pub two_stay : {e e' : Tm} → RelT hi W e e' → Two hi W (reduct s e) (reduct s' e')
  two_stay r = two_go (grows_refl W) R r

  -- Only the counts change.
  two_charge : (n n' : Uses) {e e' : Tm} → SameUse W.stripped n n' → RelT hi W e e' → Two hi W (spend n s (λ x. reduct x e)) (spend n' s' (λ x. reduct x e'))
  two_charge n n' o r = two_spend hi s s' n n' _ _ R.used o (λ u u' e. two_go (grows_refl W) (rel_charged hi R u u' e) r)

  two_arith : {A : Type 0} (k : A → Tm) (f : ℕ → ℕ → A) (m n : ℕ) → RelT hi W (k (f m n)) (k (f m n)) → Two hi W (arith s k f (some m) (some n)) (arith s' k f (some m) (some n))
  two_arith k f m n r = two_some hi _ _ (two_some hi _ _ (two_stay r))

  two_labels : (c : Dom) {o o' : Option (List ℕ)} → Collected hi W o o' → Two hi W (with o (λ ls. piece c s (val (Val.pointcut ls)))) (with o' (λ ls. piece c s' (val (Val.pointcut ls))))
  two_labels c c_none = two_none hi _ _
  two_labels c (c_some m) = two_some hi _ _ (two_charge _ _ (same_use _) (r_val (v_pointcut m)))

  pub two_pcd : (c : Dom) (P P' : Place) {vs vs' : List Val} → RelVs hi W vs vs' → Two hi W (reduce_pcd (at c P) s vs) (reduce_pcd (at c P') s' vs')
  two_pcd c P P' r = two_labels c (collected hi W r all2_nil)

  module _ {D : Policy} {Σ : StoreTyping} where
    pub two_seq : {v v' : Val} {f f' : Tm} → ValTy D Σ v Ty.unit → RelV hi W v v' → RelT hi W f f' → Two hi W (reduce_seq s f v) (reduce_seq s' f' v')
    two_seq ValTy.v_unit v_unit r = two_some hi _ _ (two_stay r)

    pub two_lower : {v v' : Val} → ValTy D Σ v Ty.unit → RelV hi W v v' → Two hi W (reduce_lower s v) (reduce_lower s' v')
    two_lower ValTy.v_unit v_unit = two_some hi _ _ (two_stay (r_val v_unit))

    pub two_ite : {v v' : Val} {f f' g g' : Tm} → ValTy D Σ v Ty.truth → RelV hi W v v' → RelT hi W f f' → RelT hi W g g' → Two hi W (reduce_ite s f g v) (reduce_ite s' f' g' v')
    two_ite (ValTy.v_truth {b}) v_truth r q = two_some hi _ _ (two_stay (rel_choose hi b r q))

    pub two_split : (c : Dom) (P P' : Place) {a b : Ty} {v v' : Val} {f f' : Tm} → ValTy D Σ v (Ty.pair a b) → RelV hi W v v' → RelT hi W f f' → Two hi W (reduce_split (at c P) s f v) (reduce_split (at c P') s' f' v')
    two_split c P P' (ValTy.v_pair x y) (v_pair r q) u = two_some hi _ _ (two_charge _ _ (same_use _) (rel_t_subst hi (rel_t_subst hi u 1 r) 0 q))

    pub two_adv : (c : Dom) (P P' : Place) {a : Ty} {p q : Dom} {v v' : Val} {b b' : Tm} → ValTy D Σ v (Ty.pointcut a q) → RelV hi W v v' → RelL hi W p b b' → Two hi W (reduce_adv (at c P) s p b v) (reduce_adv (at c P') s' p b' v')
    two_adv c P P' (ValTy.v_pointcut x) (v_pointcut m) r = two_some hi _ _ (two_charge _ _ (same_use _) (r_val (v_advice m r)))

-- Where there are no more, there is room (card 13).
fewer : (m n L : ℕ) → n ≤ m → ltb m L ≡ true → ltb n L ≡ true
fewer m n L l e = let h = ltb-true m L e in lt-ltb n L (omega nat.arith)

log_capacity_lem : (a a' m m' : ℕ) → a ≤ a' → m' ≤ m → leb log_record_length (a - log_record_length * m) ≡ true → leb log_record_length (a' - log_record_length * m') ≡ true
log_capacity_lem a a' m m' x y e = let h = leb-true log_record_length (a - log_record_length * m) e in le-leb log_record_length (a' - log_record_length * m') (omega nat.arith)

-- The operators, at a current domain c that is high.
module _ (hi : Dom → Bool) {D : Policy} (H : Highs D hi) {W : World} {s s' : State} (R : RelS hi W s s') {Σ : StoreTyping} (K : StateFits D Σ s) (G G' : Given) {c : Dom} (h : hi c ≡ true) (P P' : Place) where
  pub two0 : RelPlace hi W P P' → {o : Op0} {t : Ty} → Rule0 D c o t → Two hi W (reduce0 G (at c P) s o t) (reduce0 G' (at c P') s' o t)
  two0 Q (t_new_label {p} l) = two_capacity hi _ _ _ refl (λ z. fewer _ _ label_limit (no_longer (λ a r. clash z r) R.labels)) (two_go (grows_label W both) (label_both hi R p) (r_val (v_label (matched_last R.labels))))
  two0 Q t_abort = none_left n_halt (λ x. absurd x)
  two0 Q (t_takedown {p} l) = two_go (grows_refl W) (clear_both hi R p) (r_val v_unit)
  two0 Q t_stack = two_charge hi R _ _ (same_size c some_pieces (all2_length Q.kept)) (r_val (stack_rel hi W Q.kept))

  -- A cell that is read at c is high, so what it holds is related.
  two_read : (r : ℕ) {p : Dom} {a : Ty} {k k' : Cell Val} → D.leq c p ≡ true → get_elem? Σ.cells r ≡ some (Ty.ref a p) → get_elem? s.cells r ≡ some k → RelCell hi W k k' → RelV hi W k.held k'.held
  two_read r {p} {a} {k} l x e m =
      let q = cell_dom D Σ s r a p K x in
      let same : q.0 ≡ k = some-injective _ _ (sym q.1 ∙ e) in
      m.held (rw (← same, q.2) (H.up c p h l))

  -- A method that is called at c is of the domain c, so its bodies are related (card 3).
  two_call : {b : Ty} {ms : Sigs} {m : ℕ} {bs bs' : Tms} {v v' : Val} → Has c b ms m → RelBs hi W ms bs bs' → RelV hi W v v' → Two hi W (with (method_body bs m) (λ e. bind c 1 s (subst 0 v e))) (with (method_body bs' m) (λ e. bind c 1 s' (subst 0 v' e)))
  two_call has_first (r_body (b_rel r) k) u = two_some hi _ _ (two_charge hi R _ _ (same_use _) (rel_t_subst hi r 0 u))
  two_call has_first (r_body (b_low f) k) u = clash h f
  two_call (has_later x) (r_body r k) u = two_call x k u

  pub two1 : {o : Op1} {t a : Ty} {v v' : Val} → G.frame ≡ G'.frame → (W.stripped ≡ true → G.log_length ≤ G'.log_length) → Rule1 D c o a t → ValTy D Σ v a → RelV hi W v v' → Two hi W (reduce1 G (at c P) s o t v) (reduce1 G' (at c P') s' o t v')
  two1 frame log t_print (ValTy.v_number {n}) v_number = two_some hi _ _ (two_capacity hi _ _ _ refl (λ z. log_capacity_lem _ _ _ _ (log z) (log_no_longer hi z R.trace)) (two_go (grows_refl W) (event_both hi R _ _ (ap (λ u. record { dom = c; said = prints n u }) R.used.mainline) h) (r_val v_unit)))
  two1 frame log (t_install l) (ValTy.v_advice x y z) (v_advice m r) = two_some hi _ _ (two_capacity hi _ _ _ refl (λ i. fewer _ _ advice_limit (no_longer (λ a k. clash i k.1) R.advices)) (two_go (grows_refl W) (advice_both hi R (record { same_dom = refl; labels = m; body = r })) (r_val v_unit)))
  two1 frame log (t_read l) (ValTy.v_cell {r} x) (v_cell m) = let k = get_both m R.cells in two_some hi _ _ (two_found hi _ _ k.2 k.3 (two_stay hi R (r_val (two_read r l x k.2 k.4))))
  two1 frame log t_byte (ValTy.v_number {n}) v_number = two_some hi _ _ (transp (λ (f : List ℕ). Two hi W (reduct s (val (Val.number (frame_byte G.frame n)))) (reduct s' (val (Val.number (frame_byte f n))))) frame (two_stay hi R (r_val v_number)))
  two1 frame log (t_new_cell l) x r = two_spend hi s s' _ _ _ _ R.used (same_use _) (λ u u' e. two_go (grows_cell W both) (cell_both hi R u u' e (record { same_dom = refl; same_plain = refl; held = λ o. r })) (r_val (v_cell (matched_last R.cells))))
  two1 frame log (t_call {ms} x) (ValTy.v_object y) (v_object r) = two_some hi _ _ (two_call x r (v_object {t = Ty.object ms} r))

  pub two2 : {o : Op2} {t a b : Ty} {v v' w w' : Val} → Rule2 D c o a b t → ValTy D Σ v a → ValTy D Σ w b → RelV hi W v v' → RelV hi W w w' → Two hi W (reduce2 G (at c P) s o t v w) (reduce2 G' (at c P') s' o t v' w')
  two2 t_pair x y r u = two_charge hi R _ _ (same_use _) (r_val (v_pair r u))
  two2 t_app (ValTy.v_fun x) y (v_fun (b_rel r)) u = two_some hi _ _ (two_charge hi R _ _ (same_use _) (rel_t_subst hi r 0 u))
  two2 t_app (ValTy.v_fun x) y (v_fun (b_low f)) u = clash h f
  two2 t_mark (ValTy.v_label x) y (v_label m) u = let k = get_both m R.labels in two_some hi _ _ (two_found hi _ _ k.2 k.3 (two_charge hi R _ _ (record { mainline = mainline_bindings hi H.mainline (interleaving_reverse R.advices) m; others = λ z. others_bindings hi z (interleaving_reverse R.advices) m }) (composed_rel hi (interleaving_reverse R.advices) m u)))
  two2 (t_store l) (ValTy.v_cell x) y (v_cell m) u = let k = get_both m R.cells in two_some hi _ _ (two_found hi _ _ k.2 k.3 (two_go (grows_refl W) (store_both hi R m k.4 u) (r_val v_unit)))
  two2 t_plus (ValTy.v_number {n = m}) (ValTy.v_number {n}) v_number v_number = two_arith hi R num sum m n (r_val v_number)
  two2 t_minus (ValTy.v_number {n = m}) (ValTy.v_number {n}) v_number v_number = two_arith hi R num difference m n (r_val v_number)
  two2 t_less (ValTy.v_number {n = m}) (ValTy.v_number {n}) v_number v_number = two_arith hi R truth is_less m n (r_val v_truth)
  two2 t_equal (ValTy.v_number {n = m}) (ValTy.v_number {n}) v_number v_number = two_arith hi R truth is_equal m n (r_val v_truth)

  -- A match takes the same branch in both runs (card 6); no rule on its pointcuts' domains is used.
  two_branch : {f f' g g' : Tm} {o o' : Option (List Val)} → Bound hi W o o' → RelT hi W f f' → RelT hi W g g' → Two hi W (branch (at c P) s (λ ws. subst_all ws f) g o) (branch (at c P') s' (λ ws. subst_all ws f') g' o')
  two_branch bound_none q r = two_go (grows_refl W) (event_both hi R _ _ refl h) r
  two_branch (bound_some k) q r = two_spend hi s s' _ _ _ _ R.used (same_size c some_bindings (all2_length k)) (λ u u' e. two_go (grows_refl W) (event_both hi (rel_charged hi R u u' e) _ _ refl h) (subst_all_rel hi W k q))

  pub two_match : {p : Pattern} {ts us : List Ty} {f f' g g' : Tm} (vs vs' : List Val) → PatternTy p ts us → All2 (ValTy D Σ) (reverse vs) (Ty.stack ∷ ts) → RelVs hi W (reverse vs) (reverse vs') → RelT hi W f f' → RelT hi W g g' → Two hi W (reduce_match (at c P) s p f g vs) (reduce_match (at c P') s' p f' g' vs')
  two_match {p} {ts} {f} {f'} {g} {g'} vs vs' o hs rs q r = on hs rs
    where
      on : {ws ws' : List Val} → All2 (ValTy D Σ) ws (Ty.stack ∷ ts) → RelVs hi W ws ws' → Two hi W (match_on top_of labels_of (at c P) s p (λ us. subst_all us f) g ws) (match_on top_of labels_of (at c P') s' p (λ us. subst_all us f') g' ws')
      on (all2_cons x xs) (all2_cons y ys) = two_branch (matched_rel hi W o xs ys x y) q r
