-- The children of a pointcut: atoms are taken in place, up to the first that is none.
use Prim.Native.Nat.{ℕ, zero, suc, ◌%◌, ◌≤◌, ◌<◌}
use native.Mathlib.Omega.{arith}
use mathlib.Core.Path.{◌≡◌, refl, sym, subst, ◌∙◌}
use mathlib.Core.Bool.{Bool, true, false}
use mathlib.Core.List.{List, [], ◌∷◌, map, nil≢cons}
use lib.ListN.{length, get_or, drop}
use Rattle.calculus.specs.Combinators.{choose}
use Rattle.calculus.specs.Syntax.{Dom, Tm, Tms, end, more, pcd}
use Rattle.closure_machine.specs.Closure.{CVal, Env, CState, close}
use Rattle.closure_machine.specs.Machine.{Control, eval, ret, pcd_n, op_nf, Stack, place_at, redex, reduce_nc, move}
use Rattle.closure_machine.specs.Measure.{work}
use Rattle.vm_theory.specs.Code.{Skel}
use Rattle.vm_theory.specs.Table.{many_n, pcd_m, In, here, there, terms_of, is_atom_at}
use Rattle.vm_theory.proofs.Reach.{Reach, reach_moves, reach_label}
use Rattle.vm_theory.proofs.Leads.{leads_same, atom_leads}
use Rattle.vm_theory.proofs.Bound.{bound_tm}
use Rattle.vm_theory.proofs.Located.{Located, l_listed}
use Rattle.vm_code.specs.Values.{body_of}
use Rattle.vm_code.specs.Words.{term_count}
use Rattle.vm_code.specs.Classes as classes
use Rattle.vm_machine.specs.Memory.{Memory, with_digit, binding_places}
use Rattle.vm_machine.specs.Fetch.{code_at, atom_value}
use Rattle.vm_machine.specs.Turn.{child_at, Taken, take_labels}
use Rattle.vm_machine_correct.proofs.Setup.{Setup}
use Rattle.vm_machine_correct.proofs.Relations.{Sizes, IsEnv}
use Rattle.vm_machine_correct.proofs.Views.{AsLabel, one_label, no_label, as_label}
use Rattle.vm_machine_correct.proofs.Labels.{digits_of, Labels, one_more, with_digit_lem}
use Rattle.vm_machine_correct.proofs.Fetch.{atom_is}
use Rattle.vm_machine_correct.proofs.Entries.{word_atom}
use Rattle.calculus.specs.Limits.{label_limit}

-- What is left of a list from place i on.
pub drop_at : (xs : List ℕ) (i y : ℕ) (ys : List ℕ) → drop i xs ≡ y ∷ ys → (get_or xs i 0 ≡ y) × (drop (suc i) xs ≡ ys) × (i < length xs) × In y xs
drop_at [] zero y ys p = absurd (nil≢cons p)
drop_at [] (suc i) y ys p = absurd (nil≢cons p)
drop_at (x ∷ xs) zero y ys p =
    let e : x ≡ y = cc in
    let f : xs ≡ ys = cc in
    (e, f, omega arith, subst (λ (j : ℕ). In j (x ∷ xs)) e here)
drop_at (x ∷ xs) (suc i) y ys p = let h = drop_at xs i y ys p in (h.0, h.1, omega (arith, h.2), there h.3)

pub drop_end : (xs : List ℕ) (i : ℕ) → drop i xs ≡ [] → length xs ≤ i
drop_end [] i p = omega arith
drop_end (x ∷ xs) zero p = absurd (nil≢cons (sym p))
drop_end (x ∷ xs) (suc i) p = omega (arith, drop_end xs i p)

module _ (Θ : Setup) (M : Memory) (z : Sizes) (env : ℕ) (ρ : Env) (ie : IsEnv Θ M z env ρ) (fits : env < binding_places) (k : ℕ) (s : CState) (K : Stack) (m : ℕ) (xs : List ℕ)
    (node : Θ.table.node m ≡ many_n pcd_m xs) (few : length xs ≤ 8) {σ : Skel} {c : Dom} (located : Located Θ.linked m σ c) (w : ℕ)
    (children : (i : ℕ) → i < length xs → child_at Θ.program w i ≡ get_or xs i 0) where
  -- The closure machine works out the children: the labels ds are done, latest first.
  pub data Pending : List ℕ → Tms → Control → Stack → Type 0 where
    none_done : {es : Tms} → Pending [] es (eval (pcd es) ρ) K
    some_done : {l : ℕ} {ds : List ℕ} {es : Tms} → Pending (l ∷ ds) es (ret (CVal.label l)) (op_nf pcd_n (map CVal.label ds) es ρ ∷ K)

  pending_end : {ds : List ℕ} {q : Control} {F : Stack} → Pending ds end q F → move q F Θ.given s ≡ redex K (reduce_nc Θ.given (place_at K) s pcd_n ρ (map CVal.label ds))
  pending_end none_done = refl
  pending_end some_done = refl

  pending_next : {ds : List ℕ} {e : Tm} {es : Tms} {q : Control} {F : Stack} → Pending ds (more e es) q F → Reach Θ.sound k s q F → Reach Θ.sound k s (eval e ρ) (op_nf pcd_n (map CVal.label ds) es ρ ∷ K)
  unfolding close work
  pending_next {e = e} {es = es} none_done r = (leads_same Θ.sound s {c = eval (pcd (more e es)) ρ} {c' = eval e ρ} {K = K} {K' = op_nf pcd_n [] es ρ ∷ K} refl (omega arith)).reached k r
  pending_next some_done r = reach_moves Θ.sound k s _ _ r _ _ refl

  -- Where the taking stops.
  pub data Stops (t : Taken) : Type 0 where
    -- after the last child
    all_taken : (ds : List ℕ) (q : Control) (F : Stack) → Labels ds → length ds ≡ length xs → t.count ≡ length xs → t.digits ≡ digits_of ds → Reach Θ.sound k s q F
        → move q F Θ.given s ≡ redex K (reduce_nc Θ.given (place_at K) s pcd_n ρ (map CVal.label ds)) → Stops t
    -- at a child y that is no atom
    stopped_at : (ds : List ℕ) (y : ℕ) (ys : List ℕ) → Labels ds → drop (length ds) xs ≡ y ∷ ys → t.count ≡ length ds → t.digits ≡ digits_of ds → is_atom_at Θ.table y ≡ false
        → Reach Θ.sound k s (eval (Θ.table.term y) ρ) (op_nf pcd_n (map CVal.label ds) (terms_of Θ.table ys) ρ ∷ K) → Stops t

  pub taken : (ys : List ℕ) (ds : List ℕ) (q : Control) (F : Stack) → drop (length ds) xs ≡ ys → Labels ds → length ds ≤ length xs → Pending ds (terms_of Θ.table ys) q F → Reach Θ.sound k s q F
      → Stops (take_labels Θ.program M env w (length ys) (length ds) (digits_of ds))
  unfolding take_labels
  taken [] ds q F d ls h p r = all_taken ds q F ls (omega (arith, drop_end xs (length ds) d)) (omega (arith, drop_end xs (length ds) d)) refl r (pending_end p)
  taken (y ∷ ys) ds q F d ls h p r = try (is_atom_at Θ.table y) refl (taken ys)
    where
      at : (get_or xs (length ds) 0 ≡ y) × (drop (suc (length ds)) xs ≡ ys) × (length ds < length xs) × In y xs
      at = drop_at xs (length ds) y ys d

      child : child_at Θ.program w (length ds) ≡ y
      child = children (length ds) at.2 ∙ at.0

      small : y < term_count
      small = omega (arith, child)

      r' : Reach Θ.sound k s (eval (Θ.table.term y) ρ) (op_nf pcd_n (map CVal.label ds) (terms_of Θ.table ys) ρ ∷ K)
      r' = pending_next p r

      word : ℕ
      word = atom_value Θ.program M env (code_at Θ.program y)

      -- an atom's value is a label
      atom : is_atom_at Θ.table y ≡ true
          → ((us : List ℕ) (q : Control) (F : Stack) → drop (length us) xs ≡ ys → Labels us → length us ≤ length xs → Pending us (terms_of Θ.table ys) q F → Reach Θ.sound k s q F → Stops (take_labels Θ.program M env w (length ys) (length us) (digits_of us)))
          → Stops (take_labels Θ.program M env w (length ys) (suc (length ds)) (with_digit (digits_of ds) (body_of word % label_limit)))
      atom a ih =
          view (as_label Θ M z (atom_is Θ M z env ρ ie fits y small a (l_listed located node at.3) (bound_tm Θ.sound k s (Θ.table.term y) ρ _ r'))) ((atom_leads Θ.sound s (Θ.table.term y) ρ _ a).reached k r')
        where
          view : {u : CVal} → AsLabel Θ M z word u → Reach Θ.sound k s (ret u) (op_nf pcd_n (map CVal.label ds) (terms_of Θ.table ys) ρ ∷ K)
              → Stops (take_labels Θ.program M env w (length ys) (suc (length ds)) (with_digit (digits_of ds) (body_of word % label_limit)))
          view (one_label {l = l} t e) r'' =
              let low : l < label_limit = omega arith in
              rw (e, with_digit_lem ls (omega (arith, at.2)) l) (ih (l ∷ ds) (ret (CVal.label l)) _ at.1 (one_more low ls) at.2 some_done r'')
          view (no_label {v = u} n) r'' = absurd (reach_label Θ.sound k s u (map CVal.label ds) (terms_of Θ.table ys) ρ K r'' n)

      try : (b : Bool) → is_atom_at Θ.table y ≡ b
          → ((us : List ℕ) (q : Control) (F : Stack) → drop (length us) xs ≡ ys → Labels us → length us ≤ length xs → Pending us (terms_of Θ.table ys) q F → Reach Θ.sound k s q F → Stops (take_labels Θ.program M env w (length ys) (length us) (digits_of us)))
          → Stops
          (choose (classes.is_atom (code_at Θ.program (child_at Θ.program w (length ds))))
          (take_labels Θ.program M env w (length ys) (suc (length ds)) (with_digit (digits_of ds) (body_of (atom_value Θ.program M env (code_at Θ.program (child_at Θ.program w (length ds)))) % label_limit))) (record { count = length ds; digits = digits_of ds }))
      try true a ih = rw (child, word_atom Θ y small ∙ a) (atom a ih)
      try false a ih = rw (child, word_atom Θ y small ∙ a) (stopped_at ds y ys ls d refl refl a r')
