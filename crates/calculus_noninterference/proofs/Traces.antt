-- The high events of a trace: equal in related states, only more as a run goes on; the high prints of the log are their prints, the high branches their branches.
use Prim.Native.Nat.{◌≤◌}
use native.Mathlib.Omega.{arith}
use mathlib.Core.Path.{◌≡◌, refl, sym, ap}
use mathlib.Core.Logic.{◌⊎◌, inl, inr}
use mathlib.Core.Bool.{Bool, true, false}
use mathlib.Core.List.{List, [], ◌∷◌, ◌++◌}
use mathlib.Core.Option.{Option, none, some}
use lib.ListN.{length}
use lib.Seq.{take-nil}
use lib.Dec.{eqb, eqb→eq}
use Rattle.calculus.specs.Combinators.{choose}
use Rattle.calculus.specs.Syntax.{Dom}
use Rattle.calculus.specs.State.{Event, Said, prints, Print, print_of, cons_option, picked, log_of, State, branched, branch_of, branches_of, mainline_count_of, mainline_counts}
use Rattle.laws.proofs.Lists.{Prefix, Prefix.pre_nil, Prefix.pre_cons, prefix_refl}
use Rattle.calculus_safety.proofs.Safe.{Found, Found.found, Found.nothing}
use Rattle.calculus_noninterference.specs.Observe.{high_of, CutEqual}
use Rattle.calculus_noninterference.proofs.Interleave.{Side, i_nil, i_both, i_left, i_right}
use Rattle.calculus_noninterference.proofs.Related.{Events}
use Rattle.calculus_noninterference.proofs.Confined.{Effect, e_charge, e_cell, e_store, e_label, e_advice, e_clear, e_event}
use Rattle.calculus_noninterference.proofs.Clash.{clash}

-- A prefix picks a prefix.
prefix_picked : {A B : Type 0} (f : A → Option B) {x y : List A} → Prefix x y → Prefix (picked f x) (picked f y)
unfolding picked
prefix_picked f pre_nil = pre_nil
prefix_picked {B} f (pre_cons {x = a} {xs} {ys} p) = pick (f a) (prefix_picked f p)
  where
    pick : (o : Option B) → Prefix (picked f xs) (picked f ys) → Prefix (cons_option o (picked f xs)) (cons_option o (picked f ys))
    pick none h = h
    pick (some b) h = pre_cons h

prefix_cut : {A : Type 0} {x y : List A} → Prefix x y → CutEqual x y
prefix_cut {y} pre_nil = take-nil (length y)
prefix_cut (pre_cons {x} p) = ap (λ z. x ∷ z) (prefix_cut p)

prefix_length : {A : Type 0} {x y : List A} → Prefix x y → length x ≤ length y
prefix_length pre_nil = omega arith
prefix_length (pre_cons p) = let h = prefix_length p in omega arith

module _ (hi : Dom → Bool) where
  abbrev pub high_events : List Event → List Event
  high_events x = high_of hi (λ a. a.dom) x

  -- What is picked of events, each with its event's domain: the high ones are picked of the high events.
  high_picked : {A : Type 0} (f : Event → Option A) (dom : A → Dom) → ((a : Event) → Found (λ b. dom b ≡ a.dom) (f a)) → (x : List Event) → high_of hi dom (picked f x) ≡ picked f (high_events x)
  unfolding high_of picked
  high_picked f dom g [] = refl
  high_picked {A} f dom g (a ∷ x) = pick (f a) refl (g a) (hi a.dom) refl (high_picked f dom g x)
    where
      pick : (o : Option A) → f a ≡ o → Found (λ b. dom b ≡ a.dom) o → (c : Bool) → hi a.dom ≡ c → high_of hi dom (picked f x) ≡ picked f (high_events x) → high_of hi dom (cons_option o (picked f x)) ≡ picked f (choose c (a ∷ high_events x) (high_events x))
      pick o p (found {x = b} e) true q h = rw (e, q, p) (ap (λ z. b ∷ z) h)
      pick o p (found {x = b} e) false q h = rw (e, q) h
      pick o p nothing true q h = rw p h
      pick o p nothing false q h = h

  print_dom : (a : Event) → Found (λ b. b.dom ≡ a.dom) (print_of a)
  print_dom a = pick a.said
    where
      pick : (o : Said) → Found (λ b. b.dom ≡ a.dom) (print_of (record { dom = a.dom; said = o }))
      pick (prints n u) = found refl
      pick (branched b) = nothing

  branch_dom : (a : Event) → Found (λ b. b.dom ≡ a.dom) (branch_of a)
  branch_dom a = pick a.said
    where
      pick : (o : Said) → Found (λ b. b.dom ≡ a.dom) (branch_of (record { dom = a.dom; said = o }))
      pick (prints n u) = nothing
      pick (branched b) = found refl

  -- Where the high events of one trace begin those of the other, so does what is picked of them.
  cut_picked : {A : Type 0} (f : Event → Option A) (dom : A → Dom) → ((a : Event) → Found (λ b. dom b ≡ a.dom) (f a)) → (x y : List Event) → Prefix (high_events x) (high_events y) ⊎ Prefix (high_events y) (high_events x) → CutEqual (high_of hi dom (picked f x)) (high_of hi dom (picked f y))
  cut_picked f dom g x y (inl p) = rw (high_picked f dom g x, high_picked f dom g y) (prefix_cut (prefix_picked f p))
  cut_picked f dom g x y (inr p) = rw (high_picked f dom g x, high_picked f dom g y) (sym (prefix_cut (prefix_picked f p)))

  pub cut_prints : (x y : List Event) → Prefix (high_events x) (high_events y) ⊎ Prefix (high_events y) (high_events x) → CutEqual (high_of hi (λ a. a.dom) (log_of x)) (high_of hi (λ a. a.dom) (log_of y))
  cut_prints x y p = cut_picked print_of (λ a. a.dom) print_dom x y p

  pub fewer_prints : (x y : List Event) → Prefix (high_events y) (high_events x) → length (high_of hi (λ a. a.dom) (log_of y)) ≤ length (high_of hi (λ a. a.dom) (log_of x))
  fewer_prints x y p = rw (high_picked print_of (λ a. a.dom) print_dom x, high_picked print_of (λ a. a.dom) print_dom y) (prefix_length (prefix_picked print_of p))

  pub same_prints : (x y : List Event) → high_events x ≡ high_events y → high_of hi (λ a. a.dom) (log_of x) ≡ high_of hi (λ a. a.dom) (log_of y)
  same_prints x y e = rw (high_picked print_of (λ a. a.dom) print_dom x, high_picked print_of (λ a. a.dom) print_dom y, e)

  pub cut_branches : (x y : List Event) → Prefix (high_events x) (high_events y) ⊎ Prefix (high_events y) (high_events x) → CutEqual (high_of hi (λ a. a.dom) (branches_of x)) (high_of hi (λ a. a.dom) (branches_of y))
  cut_branches x y p = cut_picked branch_of (λ a. a.dom) branch_dom x y p

  -- Card 9: domain 0 is high, so its prints are among the high events.
  module _ (main : hi 0 ≡ true) where
    mainline_low : (a : Event) → hi a.dom ≡ false → mainline_count_of a ≡ none
    mainline_low a f = pick a.said (eqb a.dom 0) refl
      where
        pick : (o : Said) (b : Bool) → eqb a.dom 0 ≡ b → mainline_count_of (record { dom = a.dom; said = o }) ≡ none
        pick (prints n u) true e = let z : a.dom ≡ 0 = eqb→eq a.dom 0 (rw e tt) in clash (rw z main) f
        pick (prints n u) false e = rw e
        pick (branched t) b e = refl

    mainline_picked : (x : List Event) → picked mainline_count_of (high_events x) ≡ mainline_counts x
    unfolding high_of picked
    mainline_picked [] = refl
    mainline_picked (a ∷ x) = pick (hi a.dom) refl (mainline_picked x)
      where
        pick : (h : Bool) → hi a.dom ≡ h → picked mainline_count_of (high_events x) ≡ picked mainline_count_of x → picked mainline_count_of (choose h (a ∷ high_events x) (high_events x)) ≡ cons_option (mainline_count_of a) (picked mainline_count_of x)
        pick true e h = ap (cons_option (mainline_count_of a)) h
        pick false e h = rw (mainline_low a e) h

    pub cut_counts : (x y : List Event) → Prefix (high_events x) (high_events y) ⊎ Prefix (high_events y) (high_events x) → CutEqual (mainline_counts x) (mainline_counts y)
    cut_counts x y (inl p) = rw (sym (mainline_picked x), sym (mainline_picked y)) (prefix_cut (prefix_picked mainline_count_of p))
    cut_counts x y (inr p) = rw (sym (mainline_picked x), sym (mainline_picked y)) (sym (prefix_cut (prefix_picked mainline_count_of p)))

  pub events_same : {b : Bool} {w : List Side} {x y : List Event} → Events hi b w x y → high_events x ≡ high_events y
  unfolding high_of
  events_same i_nil = refl
  events_same (i_both {a} {b} h k) = rw (sym h.same, h.high, events_same k)
  events_same (i_left l k) = rw (l, events_same k)
  events_same (i_right l k) = rw (l.0, events_same k)

  -- A stripped program's log is no longer (card 13).
  pub log_no_longer : {b : Bool} → b ≡ true → {w : List Side} {x y : List Event} → Events hi b w x y → length (log_of y) ≤ length (log_of x)
  unfolding picked
  log_no_longer z i_nil = omega arith
  log_no_longer z (i_both {a} {x} {y} h k) = rw (← h.same) (both (print_of a) (log_no_longer z k))
    where
      both : (o : Option Print) → length (log_of y) ≤ length (log_of x) → length (cons_option o (log_of y)) ≤ length (cons_option o (log_of x))
      both none l = l
      both (some p) l = omega arith
  log_no_longer z (i_left {a} {x} {y} h k) = more (print_of a) (log_no_longer z k)
    where
      more : (o : Option Print) → length (log_of y) ≤ length (log_of x) → length (log_of y) ≤ length (cons_option o (log_of x))
      more none l = l
      more (some p) l = omega arith
  log_no_longer z (i_right h k) = clash z h.1

  events_more : (x y : List Event) → Prefix (high_events x) (high_events (x ++ y))
  unfolding high_of
  events_more [] y = pre_nil
  events_more (a ∷ x) y = pick (hi a.dom) (events_more x y)
    where
      pick : {u v : List Event} (b : Bool) → Prefix u v → Prefix (choose b (a ∷ u) u) (choose b (a ∷ v) v)
      pick true h = pre_cons h
      pick false h = h

  pub effect_events : {c : Dom} {s t : State} → Effect hi c s t → Prefix (high_events s.trace) (high_events t.trace)
  effect_events (e_charge y) = prefix_refl _
  effect_events (e_cell y a u) = prefix_refl _
  effect_events (e_store r a v e u) = prefix_refl _
  effect_events (e_label p) = prefix_refl _
  effect_events (e_advice a u) = prefix_refl _
  effect_events (e_clear p u) = prefix_refl _
  effect_events (e_event y a u) = events_more _ _
