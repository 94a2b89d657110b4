-- Related states stay related as both runs do the same, and as one run alone acts at a low domain.
use Prim.Native.Nat.{ℕ, ◌≤◌}
use mathlib.Core.Path.{◌≡◌, refl, sym, ◌∙◌, ap, subst as transp}
use mathlib.Core.Bool.{Bool, true, false, not}
use mathlib.Core.List.{List, [], ◌∷◌, ◌++◌}
use mathlib.Core.Option.{some}
use lib.ListN.{length, get_elem?}
use lib.Dec.{eqb, eqb→eq}
use borrow.Author.Tests.{not-false}
use Rattle.calculus.specs.Syntax.{Dom, Val, Tm}
use Rattle.calculus.specs.State.{Cell, Advice, Event, Uses, State, with_uses, with_cells, stored, add_label, add_advice, other_than, without, drop_advice, add_event}
use Rattle.laws.proofs.Lists.{prefix_refl, prefix_append}
use Rattle.calculus_noninterference.specs.Observe.{NoMore}
use Rattle.calculus_noninterference.proofs.Clash.{clash}
use Rattle.calculus_noninterference.proofs.Quotas.{no_more_trans}
use Rattle.calculus_noninterference.proofs.Interleave.{Side, both, left, right, Matched, interleaving_map, append_both, append_left, append_right, set_both, set_left, set_right}
use Rattle.calculus_noninterference.proofs.Filtered.{filtered_whole, filtered_both, filtered_left, filtered_right}
use Rattle.calculus_noninterference.proofs.Related.{World, Grows, grows_refl, RelV, RelCell, RelAdvice, Cells, Labels, Advices, Events, SameUse, RelS, cell_mono, advice_mono, alone_mono}
use Rattle.calculus_noninterference.proofs.Confined.{Effect, Spares, low_of, e_charge, e_cell, e_store, e_label, e_advice, e_clear, e_event}
use Rattle.calculus_noninterference.proofs.NoLowTakedownStep.{Steady}

-- A world with one more cell, one more label.
abbrev pub with_cell : World → Side → World
with_cell W v = record { cells = W.cells ++ (v ∷ []); labels = W.labels; stripped = W.stripped }

abbrev pub with_label : World → Side → World
with_label W v = record { cells = W.cells; labels = W.labels ++ (v ∷ []); stripped = W.stripped }

pub grows_cell : (W : World) (v : Side) → Grows W (with_cell W v)
grows_cell W v = record { cells = prefix_append W.cells (v ∷ []); labels = prefix_refl W.labels; same = refl }

pub grows_label : (W : World) (v : Side) → Grows W (with_label W v)
grows_label W v = record { cells = prefix_refl W.cells; labels = prefix_append W.labels (v ∷ []); same = refl }

-- A state with other labels, with other advice, with another trace.
abbrev put_labels : List Dom → State → State
put_labels x s = record { cells = s.cells; labels = x; advices = s.advices; used = s.used; trace = s.trace }

abbrev put_advices : List (Advice Tm) → State → State
put_advices x s = record { cells = s.cells; labels = s.labels; advices = x; used = s.used; trace = s.trace }

abbrev put_trace : List Event → State → State
put_trace x s = record { cells = s.cells; labels = s.labels; advices = s.advices; used = s.used; trace = x }

module _ (hi : Dom → Bool) {W : World} {s s' : State} (R : RelS hi W s s') where
  -- Other counts; and one field after another replaced on both sides.
  pub rel_charged : (u u' : Uses) → SameUse W.stripped u u' → RelS hi W (with_uses u s) (with_uses u' s')
  rel_charged u u' e = record { cells = R.cells; labels = R.labels; advice_order = R.advice_order; advices = R.advices; event_order = R.event_order; trace = R.trace; used = e }

  put_cells : {x y : List (Cell Val)} → Cells hi W W.cells x y → RelS hi W (with_cells x s) (with_cells y s')
  put_cells k = record { cells = k; labels = R.labels; advice_order = R.advice_order; advices = R.advices; event_order = R.event_order; trace = R.trace; used = R.used }

  grow_cells : (v : Side) {x y : List (Cell Val)} → (Cells hi (with_cell W v) W.cells s.cells s'.cells → Cells hi (with_cell W v) (W.cells ++ (v ∷ [])) x y) → RelS hi (with_cell W v) (with_cells x s) (with_cells y s')
  grow_cells v f = record { cells = f (interleaving_map (cell_mono hi (grows_cell W v)) (alone_mono hi (grows_cell W v) (λ a. a.dom)) R.cells); labels = R.labels; advice_order = R.advice_order; advices = interleaving_map (advice_mono hi (grows_cell W v)) (alone_mono hi (grows_cell W v) (λ a. a.dom)) R.advices; event_order = R.event_order; trace = R.trace; used = R.used }

  grow_labels : (v : Side) {x y : List Dom} → Labels W.stripped (W.labels ++ (v ∷ [])) x y → RelS hi (with_label W v) (put_labels x s) (put_labels y s')
  grow_labels v k = record { cells = interleaving_map (cell_mono hi (grows_label W v)) (alone_mono hi (grows_label W v) (λ a. a.dom)) R.cells; labels = k; advice_order = R.advice_order; advices = interleaving_map (advice_mono hi (grows_label W v)) (alone_mono hi (grows_label W v) (λ a. a.dom)) R.advices; event_order = R.event_order; trace = R.trace; used = R.used }

  put_advices_lem : {w : List Side} {x y : List (Advice Tm)} → Advices hi W w x y → RelS hi W (put_advices x s) (put_advices y s')
  put_advices_lem k = record { cells = R.cells; labels = R.labels; advice_order = _; advices = k; event_order = R.event_order; trace = R.trace; used = R.used }

  put_trace_lem : {w : List Side} {x y : List Event} → Events hi W.stripped w x y → RelS hi W (put_trace x s) (put_trace y s')
  put_trace_lem k = record { cells = R.cells; labels = R.labels; advice_order = R.advice_order; advices = R.advices; event_order = _; trace = k; used = R.used }

-- Both runs make, change or say the same.
module _ (hi : Dom → Bool) {W : World} {s s' : State} (R : RelS hi W s s') where
  pub cell_both : (u u' : Uses) → SameUse W.stripped u u' → {a b : Cell Val} → RelCell hi W a b → RelS hi (with_cell W both) (with_cells (s.cells ++ (a ∷ [])) (with_uses u s)) (with_cells (s'.cells ++ (b ∷ [])) (with_uses u' s'))
  cell_both u u' e {a} {b} h = grow_cells hi (rel_charged hi R u u' e) both (λ k. append_both k (cell_mono hi (grows_cell W both) a b h))

  pub store_both : {r r' : ℕ} {a a' : Cell Val} {v v' : Val} → Matched W.cells r r' → RelCell hi W a a' → RelV hi W v v' → RelS hi W (stored r a v s) (stored r' a' v' s')
  store_both m c u = put_cells hi R (set_both R.cells (record { same_dom = c.same_dom; same_plain = c.same_plain; held = λ h. u }) m)

  pub label_both : (p : Dom) → RelS hi (with_label W both) (add_label p s) (add_label p s')
  label_both p = grow_labels hi R both (append_both R.labels refl)

  pub advice_both : {a b : Advice Tm} → RelAdvice hi W a b → RelS hi W (add_advice a s) (add_advice b s')
  advice_both h = put_advices_lem hi R (append_both R.advices h)

  pub clear_both : (p : Dom) → RelS hi W (drop_advice p s) (drop_advice p s')
  clear_both p = put_advices_lem hi R (filtered_both _ _ _ (other_than p) (λ a b h. ap (λ q. not (eqb q p)) h.same_dom) R.advices).1

  pub event_both : (a b : Event) → a ≡ b → hi a.dom ≡ true → RelS hi W (add_event a s) (add_event b s')
  event_both a b e h = put_trace_lem hi R (append_both R.trace (record { same = e; high = h }))

-- What a takedown of a low domain takes down is low (card 7).
low_gone : (hi : Dom → Bool) (a : Advice Tm) (p : Dom) → hi p ≡ false → other_than p a ≡ false → hi a.dom ≡ false
low_gone hi a p f e = let z : a.dom ≡ p = eqb→eq a.dom p (rw (not-false (eqb a.dom p) e) tt) in rw z f

-- The new state of a run that went on alone, related to the other's in a world that grew.
pub record Later (hi : Dom → Bool) (W : World) (s s' : State) : Type 0 where
  pub world : World
  pub grows : Grows W world
  pub rel : RelS hi world s s'

module _ (hi : Dom → Bool) {W : World} {s s' : State} (R : RelS hi W s s') where
  later : {t t' : State} → RelS hi W t t' → Later hi W t t'
  later r = record { world = W; grows = grows_refl W; rel = r }

  store_left : (r : ℕ) (a : Cell Val) (v : Val) → get_elem? s.cells r ≡ some a → hi a.dom ≡ false → RelS hi W (stored r a v s) s'
  store_left r a v e l = put_cells hi R (set_left r _ R.cells e (λ b h. record { same_dom = h.same_dom; same_plain = h.same_plain; held = λ o. clash o l }) (λ h. h))

  store_right : (r : ℕ) (b : Cell Val) (v : Val) → get_elem? s'.cells r ≡ some b → hi b.dom ≡ false → RelS hi W s (stored r b v s')
  store_right r b v e l = put_cells hi R (set_right r _ R.cells e (λ a h. record { same_dom = h.same_dom; same_plain = h.same_plain; held = λ o. clash (rw h.same_dom at o) l }) (λ h. h))

  left_used : {c : Dom} {u : Uses} → hi c ≡ false → Spares hi c s.used u → (W.stripped ≡ true → NoMore u.others s.used.others) → SameUse W.stripped u s'.used
  left_used f y m = record { mainline = sym (y f) ∙ R.used.mainline; others = λ z. no_more_trans (m z) (R.used.others z) }

  -- A takedown of the left alone: of a low domain; where the right is stripped, of nothing.
  clear_left : (p : Dom) → hi p ≡ false → (W.stripped ≡ true → length s.advices ≤ length (without p s.advices)) → RelS hi W (drop_advice p s) s'
  clear_left p l m = pick W.stripped refl
    where
      pick : (b : Bool) → W.stripped ≡ b → RelS hi W (drop_advice p s) s'
      pick true z = put_advices_lem hi R (transp (λ x. Advices hi W R.advice_order x s'.advices) (sym (filtered_whole (other_than p) s.advices (m z))) R.advices)
      pick false z = put_advices_lem hi R (filtered_left _ _ _ (other_than p) (λ a b (h : RelAdvice hi W a b) e. (rw h.same_dom at (low_gone hi a p l e), z)) R.advices).1

  -- The left alone makes a step at a low domain; where the right is stripped, a steady one.
  pub effect_left : {c : Dom} {t : State} → hi c ≡ false → Effect hi c s t → (W.stripped ≡ true → Steady hi c s t) → Later hi W t s'
  effect_left f (e_charge {u} y) m = later (rel_charged hi R u s'.used (left_used f y (λ z. (m z).others)))
  effect_left f (e_cell {u} y a x) m = record { world = with_cell W left; grows = grows_cell W left; rel = grow_cells hi (rel_charged hi R u s'.used (left_used f y (λ z. (m z).others))) left (λ k. append_left k (low_of hi x f)) }
  effect_left f (e_store r a v e x) m = later (store_left r a v e (low_of hi x f))
  effect_left f (e_label p) m = record { world = with_label W left; grows = grows_label W left; rel = grow_labels hi R left (append_left R.labels tt) }
  effect_left f (e_advice a x) m = later (put_advices_lem hi R (append_left R.advices (low_of hi x f)))
  effect_left f (e_clear p x) m = later (clear_left p (low_of hi x f) (λ z. (m z).advices f))
  effect_left f (e_event {u} y a x) m = later (put_trace_lem hi (rel_charged hi R u s'.used (left_used f y (λ z. (m z).others))) (append_left R.trace (low_of hi x f)))

  -- The right alone, which is not stripped, makes a step at a low domain.
  module _ (z : W.stripped ≡ false) where
    right_used : {c : Dom} {u : Uses} → hi c ≡ false → Spares hi c s'.used u → SameUse W.stripped s.used u
    right_used f y = record { mainline = R.used.mainline ∙ y f; others = λ t. clash t z }

    pub effect_right : {c : Dom} {t : State} → hi c ≡ false → Effect hi c s' t → Later hi W s t
    effect_right f (e_charge {u} y) = later (rel_charged hi R s.used u (right_used f y))
    effect_right f (e_cell {u} y a x) = record { world = with_cell W right; grows = grows_cell W right; rel = grow_cells hi (rel_charged hi R s.used u (right_used f y)) right (λ k. append_right k (low_of hi x f, z)) }
    effect_right f (e_store r b v e x) = later (store_right r b v e (low_of hi x f))
    effect_right f (e_label p) = record { world = with_label W right; grows = grows_label W right; rel = grow_labels hi R right (append_right R.labels z) }
    effect_right f (e_advice a x) = later (put_advices_lem hi R (append_right R.advices (low_of hi x f, z)))
    effect_right f (e_clear p x) = later (put_advices_lem hi R (filtered_right _ _ _ (other_than p) (λ a b h e. rw h.same_dom (low_gone hi b p (low_of hi x f) e)) R.advices).1)
    effect_right f (e_event {u} y a x) = later (put_trace_lem hi (rel_charged hi R s.used u (right_used f y)) (append_right R.trace (low_of hi x f, z)))
