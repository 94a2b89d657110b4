-- Card 13: what a step of calm code leaves is calm; at a low domain no advice goes, and what is used only becomes more.
use Prim.Native.Nat.{ℕ, ◌≤◌}
use native.Mathlib.Omega as nat
use mathlib.Core.Path.{◌≡◌, refl}
use mathlib.Core.Bool.{Bool, true, false}
use mathlib.Core.List.{List, [], ◌∷◌}
use mathlib.Core.Option.{Option, none, some}
use lib.ListN.{length, get_elem?, length-append}
use Rattle.calculus.specs.declared.Outcome.{Outcome}
use Rattle.calculus.specs.Combinators.{choose, cases}
use Rattle.calculus.specs.Syntax.{Dom, Ty, Sigs, Val, Tm, Tms, Op0, Op1, Op2, Pattern, as_value, val, op1, op2, seq, ite, split, pcd, adv, lower, keep, match, more}
use Rattle.calculus.specs.Subst.{subst}
use Rattle.calculus.specs.State.{Uses, State, Given, with_uses, other_than}
use Rattle.calculus.specs.View.{unit_of, truth_of, number_of, pair_of, label_of, cell_of, labels_of, top_of}
use Rattle.calculus.specs.Numbers.{sum, difference, is_less, is_equal}
use Rattle.calculus.specs.Answer.{Answer, reduct, at_capacity, halt, wrong, carry, within, by_capacity, with, spend}
use Rattle.calculus.specs.Place.{Place, at, deeper, keeping}
use Rattle.calculus.specs.Compose.{member}
use Rattle.calculus.specs.Reduce.{reduce0, reduce1, reduce2, reduce_match, arith, num, truth, collect, method_body, bind, branch, match_on, subst_all}
use Rattle.calculus.specs.Step.{before, step, step_first}
use Rattle.calculus.specs.Typing.{Policy, StoreTyping, Has, has_first, has_later, ◌⊢◌⦂◌ as Rule0, ◌⊢◌⦂◌⇒◌ as Rule1, ◌⊢◌⦂◌⇒◌⇒◌ as Rule2, ⊢◌⦂◌ as ValTy, ◌⨾◌⊢◌⦂◌ as TmTy, ◌⨾◌⊢*◌⦂◌ as TmsTy, ◌⊢ᵐ◌⦂◌ as BodiesTy, a_body, t_new_label, t_abort, t_takedown, t_stack, t_print, t_install, t_read, t_byte, t_new_cell, t_call, t_pair, t_app, t_mark, t_store, t_plus, t_minus, t_less, t_equal, is_val, is_var, is_lam, is_op0, is_op1, is_op2, is_seq, is_ite, is_split, is_pcd, is_adv, is_lower, is_obj, is_keep, is_matching, is_end, is_more}
use Rattle.laws.proofs.Lists.{All.all_nil, All.all_cons, all_snoc, all_reverse}
use Rattle.calculus_safety.proofs.Safety.{close}
use Rattle.calculus_safety.proofs.Safe.{Found, Found.found, Found.nothing}
use Rattle.calculus_safety.proofs.StoreFits.{all_filtered}
use Rattle.calculus_safety.proofs.Values.{val_ty}
use Rattle.calculus_noninterference.specs.Observe.{Highs, NoMore}
use Rattle.calculus_noninterference.specs.NoLowTakedown.{NoLowTakedownOp, NoLowTakedown, NoLowTakedowns, NoLowTakedownBodies, NoLowTakedownVal}
use Rattle.calculus_noninterference.proofs.Clash.{clash}
use Rattle.calculus_noninterference.proofs.Quotas.{no_more_refl, no_more_left}
use Rattle.calculus_noninterference.proofs.Confined.{Under, low_of}
use Rattle.calculus_noninterference.proofs.NoLowTakedown.{all_get, all_set, NoLowTakedownState, NoLowTakedownKept, NoLowTakedownVals, no_low_takedown_subst, no_low_takedown_subst_all, no_low_takedown_value, no_low_takedown_before, no_low_takedown_stack, no_low_takedown_keeping, no_low_takedown_composed, no_low_takedown_matched}

module _ (hi : Dom → Bool) where
  -- What a step at c does to a state: where c is low, no advice goes; what the other domains than 0 have used only becomes more.
  pub record Steady (c : Dom) (s t : State) : Type 0 where
    pub advices : hi c ≡ false → length s.advices ≤ length t.advices
    pub others : NoMore t.used.others s.used.others

  pub steady_same : {c : Dom} (s : State) → Steady c s s
  steady_same s = record { advices = λ f. omega nat.arith; others = no_more_refl s.used.others }

  steady_up : {p c : Dom} {s t : State} → Under hi p c → Steady p s t → Steady c s t
  steady_up u S = record { advices = λ f. S.advices (low_of hi u f); others = S.others }

  steady_charged : {c : Dom} (s : State) (u : Uses) → NoMore u.others s.used.others → Steady c s (with_uses u s)
  steady_charged s u x = record { advices = λ f. omega nat.arith; others = x }

  -- An answer to a step at c over s, if the step was made, left calm code and a calm state.
  pub data NoLowTakedownAnswer (c : Dom) (s : State) : Answer State Tm → Type 0 where
    no_low_takedown_go : {t : State} {e : Tm} → NoLowTakedownState hi t → Steady c s t → NoLowTakedown hi c e → NoLowTakedownAnswer c s (reduct t e)
    no_low_takedown_full : {o : Outcome} → NoLowTakedownAnswer c s (at_capacity o)
    no_low_takedown_halt : NoLowTakedownAnswer c s halt
    no_low_takedown_wrong : NoLowTakedownAnswer c s wrong

  pub made_no_low_takedown : {c : Dom} {s t : State} {e : Tm} → NoLowTakedownAnswer c s (reduct t e) → NoLowTakedownState hi t × Steady c s t × NoLowTakedown hi c e
  made_no_low_takedown (no_low_takedown_go S k x) = (S, k, x)

  module _ {c : Dom} {s : State} where
    no_low_takedown_within : {p : Dom} {a : Answer State Tm} (k : Tm → Tm) → Under hi p c → ((x : Tm) → NoLowTakedown hi p x → NoLowTakedown hi c (k x)) → NoLowTakedownAnswer p s a → NoLowTakedownAnswer c s (within k a)
    unfolding carry
    no_low_takedown_within k u f (no_low_takedown_go S m x) = no_low_takedown_go S (steady_up u m) (f _ x)
    no_low_takedown_within k u f no_low_takedown_full = no_low_takedown_full
    no_low_takedown_within k u f no_low_takedown_halt = no_low_takedown_halt
    no_low_takedown_within k u f no_low_takedown_wrong = no_low_takedown_wrong

    no_low_takedown_inside : {a : Answer State Tm} (k : Tm → Tm) → ((x : Tm) → NoLowTakedown hi c x → NoLowTakedown hi c (k x)) → NoLowTakedownAnswer c s a → NoLowTakedownAnswer c s (within k a)
    no_low_takedown_inside k f m = no_low_takedown_within k (λ h. h) f m

    no_low_takedown_capacity : (b : Bool) (o : Outcome) {a : Answer State Tm} → NoLowTakedownAnswer c s a → NoLowTakedownAnswer c s (by_capacity b o a)
    unfolding by_capacity
    no_low_takedown_capacity true o m = m
    no_low_takedown_capacity false o m = no_low_takedown_full

    no_low_takedown_spend : (n : Uses) (k : State → Answer State Tm) → ((u : Uses) → NoMore u.others s.used.others → NoLowTakedownAnswer c s (k (with_uses u s))) → NoLowTakedownAnswer c s (spend n s k)
    unfolding spend
    no_low_takedown_spend n k m = no_low_takedown_capacity _ _ (no_low_takedown_capacity _ _ (no_low_takedown_capacity _ _ (no_low_takedown_capacity _ _ (no_low_takedown_capacity _ _ (no_low_takedown_capacity _ _ (m _ (no_more_left s.used.others n.others)))))))

    no_low_takedown_with : {A : Type 0} (o : Option A) (k : A → Answer State Tm) → ((a : A) → o ≡ some a → NoLowTakedownAnswer c s (k a)) → NoLowTakedownAnswer c s (with o k)
    unfolding with
    no_low_takedown_with none k m = no_low_takedown_wrong
    no_low_takedown_with (some a) k m = m a refl

    no_low_takedown_cases : {A : Type 0} (o : Option A) (k : A → Answer State Tm) (a : Unit {0} → Answer State Tm) → ((v : A) → o ≡ some v → NoLowTakedownAnswer c s (k v)) → NoLowTakedownAnswer c s (a tt) → NoLowTakedownAnswer c s (cases o k a)
    unfolding cases
    no_low_takedown_cases none k a m n = n
    no_low_takedown_cases (some v) k a m n = m v refl

  -- The reductions.
  module _ {c : Dom} (G : Given) (P : Place) (s : State) (S : NoLowTakedownState hi s) where
    -- The state stays, but for the counts.
    stay : {e : Tm} → NoLowTakedown hi c e → NoLowTakedownAnswer c s (reduct s e)
    stay x = no_low_takedown_go S (steady_same s) x

    charge : (n : Uses) (e : Tm) → NoLowTakedown hi c e → NoLowTakedownAnswer c s (spend n s (λ t. reduct t e))
    charge n e x = no_low_takedown_spend n _ (λ u m. no_low_takedown_go (record { cells = S.cells; advices = S.advices }) (steady_charged s u m) x)

    no_low_takedown_arith : {A : Type 0} (k : A → Tm) (f : ℕ → ℕ → A) (v w : Val) → ((a : A) → NoLowTakedown hi c (k a)) → NoLowTakedownAnswer c s (arith s k f (number_of v) (number_of w))
    no_low_takedown_arith k f v w x = no_low_takedown_with (number_of v) _ (λ m e. no_low_takedown_with (number_of w) _ (λ n g. stay (x (f m n))))

    module _ {D : Policy} where
      no_low_takedown0 : {o : Op0} {t : Ty} → NoLowTakedownKept hi P.kept → NoLowTakedownOp hi c o → Rule0 D c o t → NoLowTakedownAnswer c s (reduce0 G (at c P) s o t)
      unfolding NoLowTakedown NoLowTakedownVal
      no_low_takedown0 q x (t_new_label l) = no_low_takedown_capacity _ _ (no_low_takedown_go (record { cells = S.cells; advices = S.advices }) (record { advices = λ f. omega nat.arith; others = no_more_refl s.used.others }) tt)
      no_low_takedown0 q x t_abort = no_low_takedown_halt
      no_low_takedown0 q x (t_takedown {p} l) = no_low_takedown_go (record { cells = S.cells; advices = all_filtered (other_than p) S.advices }) (record { advices = λ f. clash x f; others = no_more_refl s.used.others }) tt
      no_low_takedown0 q x t_stack = charge _ _ (no_low_takedown_stack hi q)

      module _ {Σ : StoreTyping} where
        -- A method that is called at c is of the domain c.
        no_low_takedown_method : {b : Ty} {ms : Sigs} {m : ℕ} (v : Val) {Γ : List Ty} {bs : Tms} → Has c b ms m → BodiesTy D Σ Γ bs ms → NoLowTakedownVal hi v → NoLowTakedownBodies hi ms bs → NoLowTakedownAnswer c s (with (method_body bs m) (λ e. bind c 1 s (subst 0 v e)))
        unfolding with NoLowTakedownBodies
        no_low_takedown_method v has_first (a_body {e} y ys) h x = charge _ _ (no_low_takedown_subst hi v h c 0 e x.0)
        no_low_takedown_method v (has_later l) (a_body y ys) h x = no_low_takedown_method v l ys h x.1

        no_low_takedown1 : {o : Op1} {t a : Ty} {v : Val} → Rule1 D c o a t → ValTy D Σ v a → NoLowTakedownVal hi v → NoLowTakedownAnswer c s (reduce1 G (at c P) s o t v)
        unfolding NoLowTakedown NoLowTakedownVal with
        no_low_takedown1 {v} t_print y h = no_low_takedown_with (number_of v) _ (λ n e. no_low_takedown_capacity _ _ (no_low_takedown_go (record { cells = S.cells; advices = S.advices }) (record { advices = λ f. omega nat.arith; others = no_more_refl s.used.others }) tt))
        no_low_takedown1 (t_install l) (ValTy.v_advice {ls} {p} {e} y o z) h = no_low_takedown_capacity _ _ (no_low_takedown_go (record { cells = S.cells; advices = all_snoc S.advices h }) (record { advices = λ f. omega (nat.arith, length-append s.advices (record { dom = p; labels = ls; body = e } ∷ [])); others = no_more_refl s.used.others }) tt)
        no_low_takedown1 {v} (t_read l) y h = no_low_takedown_with (cell_of v) _ (λ r e. no_low_takedown_with (get_elem? s.cells r) _ (λ a g. stay (all_get S.cells r g)))
        no_low_takedown1 {v} t_byte y h = no_low_takedown_with (number_of v) _ (λ n e. stay tt)
        no_low_takedown1 (t_new_cell l) y h = no_low_takedown_spend _ _ (λ u m. no_low_takedown_go (record { cells = all_snoc S.cells h; advices = S.advices }) (record { advices = λ f. omega nat.arith; others = m }) tt)
        no_low_takedown1 (t_call l) (ValTy.v_object y) h = no_low_takedown_method _ l y h h

        no_low_takedown2 : {o : Op2} {t a b : Ty} {v : Val} (w : Val) → Rule2 D c o a b t → ValTy D Σ v a → NoLowTakedownVal hi v → NoLowTakedownVal hi w → NoLowTakedownAnswer c s (reduce2 G (at c P) s o t v w)
        unfolding NoLowTakedown NoLowTakedownVal with
        no_low_takedown2 w t_pair y h k = charge _ _ (h, k)
        no_low_takedown2 w t_app (ValTy.v_fun {e} y) h k = charge _ _ (no_low_takedown_subst hi w k c 0 e h)
        no_low_takedown2 {v} w t_mark y h k = no_low_takedown_with (label_of v) _ (λ l e. no_low_takedown_with (get_elem? s.labels l) _ (λ p g. charge _ _ (no_low_takedown_composed hi c w k (all_filtered (λ a. member l a.labels) (all_reverse S.advices)))))
        no_low_takedown2 {v} w (t_store l) y h k = no_low_takedown_with (cell_of v) _ (λ r e. no_low_takedown_with (get_elem? s.cells r) _ (λ a g. no_low_takedown_go (record { cells = all_set r S.cells k; advices = S.advices }) (record { advices = λ f. omega nat.arith; others = no_more_refl s.used.others }) tt))
        no_low_takedown2 {v} w t_plus y h k = no_low_takedown_arith num sum v w (λ a. tt)
        no_low_takedown2 {v} w t_minus y h k = no_low_takedown_arith num difference v w (λ a. tt)
        no_low_takedown2 {v} w t_less y h k = no_low_takedown_arith truth is_less v w (λ a. tt)
        no_low_takedown2 {v} w t_equal y h k = no_low_takedown_arith truth is_equal v w (λ a. tt)

        no_low_takedown_split : {a b : Ty} {v : Val} (f : Tm) → ValTy D Σ v (Ty.pair a b) → NoLowTakedownVal hi v → NoLowTakedown hi c f → NoLowTakedownAnswer c s (with (pair_of v) (λ vw. bind c 2 s (subst 0 vw.1 (subst 1 vw.0 f))))
        unfolding NoLowTakedownVal with
        no_low_takedown_split f (ValTy.v_pair y z) h x = charge _ _ (no_low_takedown_subst hi _ h.1 c 0 _ (no_low_takedown_subst hi _ h.0 c 1 f x))

    no_low_takedown_choose : (b : Bool) (f g : Tm) → NoLowTakedown hi c f → NoLowTakedown hi c g → NoLowTakedownAnswer c s (reduct s (choose b f g))
    no_low_takedown_choose true f g x y = stay x
    no_low_takedown_choose false f g x y = stay y

    no_low_takedown_branch : (f g : Tm) {o : Option (List Val)} → Found (NoLowTakedownVals hi) o → NoLowTakedown hi c f → NoLowTakedown hi c g → NoLowTakedownAnswer c s (branch (at c P) s (λ ws. subst_all ws f) g o)
    no_low_takedown_branch f g (found hs) x y = no_low_takedown_spend _ _ (λ u m. no_low_takedown_go (record { cells = S.cells; advices = S.advices }) (record { advices = λ f. omega nat.arith; others = m }) (no_low_takedown_subst_all hi c hs f x))
    no_low_takedown_branch f g nothing x y = no_low_takedown_go (record { cells = S.cells; advices = S.advices }) (record { advices = λ f. omega nat.arith; others = no_more_refl s.used.others }) y

    no_low_takedown_match : (p : Pattern) (f g : Tm) {vs : List Val} → NoLowTakedownVals hi vs → NoLowTakedown hi c f → NoLowTakedown hi c g → NoLowTakedownAnswer c s (reduce_match (at c P) s p f g vs)
    no_low_takedown_match p f g hs x y = pick (all_reverse hs)
      where
        pick : {ws : List Val} → NoLowTakedownVals hi ws → NoLowTakedownAnswer c s (match_on top_of labels_of (at c P) s p (λ us. subst_all us f) g ws)
        pick all_nil = no_low_takedown_wrong
        pick (all_cons {x = k} {xs = us} z zs) = no_low_takedown_branch f g (no_low_takedown_matched hi p us k z) x y

  module _ {D : Policy} (H : Highs D hi) {Σ : StoreTyping} (s : State) (S : NoLowTakedownState hi s) (G : Given) where
    mutual
      unfolding step NoLowTakedown NoLowTakedowns NoLowTakedownVal

      no_low_takedown : {Γ : List Ty} {c : Dom} {e : Tm} {t : Ty} → TmTy D Σ Γ c e t → Γ ≡ [] → NoLowTakedown hi c e → (P : Place) → NoLowTakedownKept hi P.kept → NoLowTakedownAnswer c s (step e G (at c P) s)
      no_low_takedown (is_val h) γ x P q = no_low_takedown_wrong
      no_low_takedown (is_var h) γ x P q = no_low_takedown_capacity _ _ no_low_takedown_wrong
      no_low_takedown (is_lam h) γ x P q = no_low_takedown_wrong
      no_low_takedown (is_op0 r) γ x P q = no_low_takedown_capacity _ _ (no_low_takedown0 G P s S q x r)
      no_low_takedown (is_op1 {c} {o} {t} {e} r h) γ x P q =
          no_low_takedown_cases (as_value e) _ _
          (λ v p. no_low_takedown_capacity _ _ (no_low_takedown1 G P s S r (val_ty (close D Σ γ h) p) (no_low_takedown_value hi c e p x)))
          (no_low_takedown_inside (op1 o t) (λ y z. z) (no_low_takedown h γ x (deeper P) q))
      no_low_takedown (is_op2 {c} {o} {t} {e} {f} r h g) γ x P q =
          no_low_takedown_cases (as_value e) _ _
          (λ v p. no_low_takedown_cases (as_value f) _ _
          (λ w k. no_low_takedown_capacity _ _ (no_low_takedown2 G P s S w r (val_ty (close D Σ γ h) p) (no_low_takedown_value hi c e p x.0) (no_low_takedown_value hi c f k x.1)))
          (no_low_takedown_inside (op2 o t (val v)) (λ y z. (no_low_takedown_value hi c e p x.0, z)) (no_low_takedown g γ x.1 (deeper P) q)))
          (no_low_takedown_inside (λ y. op2 o t y f) (λ y z. (z, x.1)) (no_low_takedown h γ x.0 (deeper P) q))
      no_low_takedown (is_seq {c} {e} {f} h g) γ x P q =
          no_low_takedown_cases (as_value e) _ _
          (λ v p. no_low_takedown_capacity _ _ (no_low_takedown_with (unit_of v) _ (λ u k. stay G P s S x.1)))
          (no_low_takedown_inside (λ y. seq y f) (λ y z. (z, x.1)) (no_low_takedown h γ x.0 (deeper P) q))
      no_low_takedown (is_ite {c} {e} {f} {g} h k l) γ x P q =
          no_low_takedown_cases (as_value e) _ _
          (λ v p. no_low_takedown_capacity _ _ (no_low_takedown_with (truth_of v) _ (λ b j. no_low_takedown_choose G P s S b f g x.1 x.2)))
          (no_low_takedown_inside (λ y. ite y f g) (λ y z. (z, x.1, x.2)) (no_low_takedown h γ x.0 (deeper P) q))
      no_low_takedown (is_split {c} {e} {f} h g) γ x P q =
          no_low_takedown_cases (as_value e) _ _
          (λ v p. no_low_takedown_capacity _ _ (no_low_takedown_split G P s S f (val_ty (close D Σ γ h) p) (no_low_takedown_value hi c e p x.0) x.1))
          (no_low_takedown_inside (λ y. split y f) (λ y z. (z, x.1)) (no_low_takedown h γ x.0 (deeper P) q))
      no_low_takedown (is_pcd {c} h o) γ x P q = no_low_takedowns h γ x P q all_nil pcd (λ y z. z) _ (λ vs z. no_low_takedown_with (collect vs []) _ (λ l k. charge G P s S _ _ tt))
      no_low_takedown (is_adv {c} {p} {e} {b} h l g) γ x P q =
          no_low_takedown_cases (as_value e) _ _
          (λ v k. no_low_takedown_capacity _ _ (no_low_takedown_with (labels_of v) _ (λ u j. charge G P s S _ _ x.1)))
          (no_low_takedown_inside (λ y. adv p y b) (λ y z. (z, x.1)) (no_low_takedown h γ x.0 (deeper P) q))
      no_low_takedown (is_lower {c} {p} {e} l h) γ x P q =
          no_low_takedown_cases (as_value e) _ _
          (λ v k. no_low_takedown_capacity _ _ (no_low_takedown_with (unit_of v) _ (λ u j. stay G P s S tt)))
          (no_low_takedown_within (lower p) (λ y. H.up p c y l) (λ y z. z) (no_low_takedown h γ x (deeper P) q))
      no_low_takedown (is_obj h) γ x P q = no_low_takedown_wrong
      no_low_takedown (is_keep {c} {e} {f} {g} h k l) γ x P q =
          no_low_takedown_cases (as_value e) _ _
          (λ v i. no_low_takedown_cases (as_value f) _ _
          (λ w j. no_low_takedown_cases (as_value g) _ _
          (λ u m. no_low_takedown_capacity _ _ (stay G P s S (no_low_takedown_value hi c g m x.2)))
          (no_low_takedown_inside (keep (val v) (val w)) (λ y z. (no_low_takedown_value hi c e i x.0, no_low_takedown_value hi c f j x.1, z)) (no_low_takedown l γ x.2 (keeping v w (deeper P)) (no_low_takedown_keeping hi w (label_of v) (no_low_takedown_value hi c f j x.1) q))))
          (no_low_takedown_inside (λ y. keep (val v) y g) (λ y z. (no_low_takedown_value hi c e i x.0, z, x.2)) (no_low_takedown k γ x.1 (deeper P) q)))
          (no_low_takedown_inside (λ y. keep y f g) (λ y z. (z, x.1, x.2)) (no_low_takedown h γ x.0 (deeper P) q))
      no_low_takedown (is_matching {c} {p} {f} {g} h o k l) γ x P q = no_low_takedowns h γ x.0 P q all_nil (λ y. match p y f g) (λ y z. (z, x.1, x.2)) _ (λ vs z. no_low_takedown_match G P s S p f g z x.1 x.2)

      -- Operands, after those that are the calm values vs: k puts operands back, r reduces values.
      no_low_takedowns : {Γ ts : List Ty} {c : Dom} {es : Tms} → TmsTy D Σ Γ c es ts → Γ ≡ [] → NoLowTakedowns hi c es → (P : Place) → NoLowTakedownKept hi P.kept → {vs : List Val} → NoLowTakedownVals hi vs
          → (k : Tms → Tm) → ((xs : Tms) → NoLowTakedowns hi c xs → NoLowTakedown hi c (k xs))
          → (r : List Val → Answer State Tm) → ((ws : List Val) → NoLowTakedownVals hi ws → NoLowTakedownAnswer c s (r ws))
          → NoLowTakedownAnswer c s (step_first es G (at c P) s vs k r)
      no_low_takedowns is_end γ x P q hs k f r m = no_low_takedown_capacity _ _ (m _ hs)
      no_low_takedowns (is_more {c} {e} {es} h g) γ x P q {vs} hs k f r m =
          no_low_takedown_cases (as_value e) _ _
          (λ v p. no_low_takedowns g γ x.1 P q (all_cons (no_low_takedown_value hi c e p x.0) hs) k f r m)
          (no_low_takedown_inside (λ y. k (before vs (more y es))) (λ y z. f _ (no_low_takedown_before hi c hs (more y es) (z, x.1))) (no_low_takedown h γ x.0 (deeper P) q))

    pub no_low_takedown_step : {c : Dom} {e : Tm} {t : Ty} → TmTy D Σ [] c e t → NoLowTakedown hi c e → (P : Place) → NoLowTakedownKept hi P.kept → NoLowTakedownAnswer c s (step e G (at c P) s)
    no_low_takedown_step h x P q = no_low_takedown h refl x P q
