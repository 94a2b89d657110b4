-- The values that a matched branch binds (card 6): one binding each, the first outermost.
use Prim.Native.Nat.{ℕ, suc, ◌+◌, ◌≤◌, ◌<◌}
use native.Mathlib.Omega.{arith}
use mathlib.Core.Path.{◌≡◌, refl, sym, ap, subst, ◌∙◌}
use mathlib.Core.Bool.{Bool, true, false, not}
use mathlib.Core.List.{List, [], ◌∷◌}
use mathlib.Core.Option.{Option, none, some, none-ne-some, some-injective}
use lib.ListN.{length, length-set}
use lib.Dec.{eqb}
use borrow.Author.Tests.{eq-eqb, ne_eqb}
use Rattle.calculus.specs.Combinators.{choose, cases}
use Rattle.calculus.specs.Syntax.{Pattern}
use Rattle.calculus.specs.State.{Entry}
use Rattle.calculus.specs.View.{labels_of}
use Rattle.calculus.specs.Reduce.{hits, cons_found}
use Rattle.image.specs.Bytes.{le16}
use Rattle.closure_machine.specs.Closure.{CVal, Env, link, link_all, top_of_c, unload_val}
use Rattle.vm_code.specs.Words.{count_of, entry_place, close_place}
use Rattle.vm_theory.specs.Says.{SaysPattern, says_end, says_rest, says_anything, says_cut}
use Rattle.vm_machine.specs.Memory.{Memory, slot_base, binding, put_binding, top_entry, binding_places, piece_places}
use Rattle.vm_machine.specs.Fetch.{Program}
use Rattle.vm_machine.specs.Stacks.{entry_at, binds_rest, variables, Chained, bind_entries}
use Rattle.base_bytes.specs.Memory.{word_count}
use Rattle.vm_machine_correct.proofs.Setup.{Setup}
use Rattle.vm_machine_correct.proofs.Relations.{Sizes, IsVal, IsEnv, Grows, val_grows, env_grows}
use Rattle.vm_machine_correct.proofs.Tables.{grows_sizes, grows_trans, Above, above_put, above_refl, above_trans}
use Rattle.vm_machine_correct.proofs.Store.{resized}
use Rattle.vm_machine_correct.proofs.Views.{AsKept, a_kept, no_kept, as_kept}
use Rattle.vm_machine_correct.proofs.ReduceBindings.{grows_bound, env_bound_to}
use Rattle.vm_machine_correct.proofs.Looking.{found}

module _ (Θ : Setup) where
  -- c bindings more: the tables of B, whose environment is σ.
  pub record Chains (M : Memory) (z : Sizes) (c : ℕ) (σ : Env) (B : Chained) : Type 0 where
    pub count : B.count ≡ z.nb + c
    pub grows : Grows M z B.memory (resized Θ (z.nb + c) z.np z)
    pub above : Above slot_base M B.memory
    pub beside : B.memory.beside ≡ M.beside
    pub env : IsEnv Θ B.memory (resized Θ (z.nb + c) z.np z) B.env σ
    pub fits : B.env < binding_places

  no_more : (M : Memory) (z : Sizes) (n env : ℕ) (σ : Env) → n ≡ z.nb → IsEnv Θ M z env σ → env < binding_places → Chains M z 0 σ (record { memory = M; count = n; env = env })
  no_more M z n env σ q ie fits =
      let g : Grows M z M (resized Θ (z.nb + 0) z.np z) = grows_sizes M z (resized Θ (z.nb + 0) z.np z) (omega arith) (omega arith) in
      record { count = omega arith; grows = g; above = above_refl slot_base M; beside = refl; env = env_grows Θ M z M (resized Θ (z.nb + 0) z.np z) g ie; fits = fits }

  -- One, and then the others.
  one_more : (M : Memory) (z : Sizes) (v env c : ℕ) (u : CVal) (ρ σ : Env) (B : Chained) → word_count ≤ length M.words → z.nb < binding_places → z.np ≤ piece_places → env < binding_places → IsVal Θ M z v u → IsEnv Θ M z env ρ
      → (IsEnv Θ (put_binding z.nb (binding v 0 env) M) (resized Θ (z.nb + 1) z.np z) z.nb (link u ρ) → Chains (put_binding z.nb (binding v 0 env) M) (resized Θ (z.nb + 1) z.np z) c σ B)
      → Chains M z (suc c) σ B
  one_more M z v env c u ρ σ B long frames fit fits iv ie h =
      let w : ℕ = binding v 0 env in
      let M' : Memory = put_binding z.nb w M in
      let z' : Sizes = resized Θ (z.nb + 1) z.np z in
      let g : Grows M z M' z' = grows_bound Θ M z long frames fit w in
      let t : Chains M' z' c σ B = h (env_bound_to Θ M z long frames fit w v 0 env refl (omega arith) (omega arith) iv ie) in
      let sum : z.nb + 1 + c ≡ z.nb + suc c = omega arith in
      record {
        count = t.count ∙ sum;
        grows = subst (λ (n : ℕ). Grows M z B.memory (resized Θ n z.np z)) sum (grows_trans g t.grows);
        above = above_trans (above_put M slot_base (0 + z.nb) w (omega arith)) t.above;
        beside = t.beside;
        env = subst (λ (n : ℕ). IsEnv Θ B.memory (resized Θ n z.np z) B.env σ) sum t.env;
        fits = t.fits;
      }

  module _ (C : Program) (w : ℕ) where
    closes : (o i : ℕ) → o ≡ entry_place w i → i + 0 ≡ count_of w → le16 C.image o ≡ le16 C.image (close_place w)
    closes o i e c = let q : i ≡ count_of w = omega arith in ap (le16 C.image) (e ∙ ap (entry_place w) q)

    shut : (o i : ℕ) → o ≡ entry_place w i → i + 0 ≡ count_of w → le16 C.image o ≡ 0 → binds_rest C w ≡ false
    shut o i at c e = ap (λ (x : ℕ). not (eqb x 0)) (sym (closes o i at c) ∙ e)

    opens : (o i y : ℕ) → o ≡ entry_place w i → i + 0 ≡ count_of w → le16 C.image o ≡ suc y → binds_rest C w ≡ true
    opens o i y at c e = ap not (ne_eqb (le16 C.image (close_place w)) 0 (λ x. omega (arith, closes o i at c)))

    any_entry : (o i : ℕ) → o ≡ entry_place w i → le16 C.image o ≡ 0 → eqb (entry_at C w i) 0 ≡ true
    any_entry o i at e = eq-eqb (entry_at C w i) 0 (ap (le16 C.image) (sym at) ∙ e)

    cut_entry : (o i y : ℕ) → o ≡ entry_place w i → le16 C.image o ≡ suc y → eqb (entry_at C w i) 0 ≡ false
    cut_entry o i y at e = ne_eqb (entry_at C w i) 0 (λ x. omega (arith, ap (le16 C.image) at))

    -- How many values a pattern binds.
    pub counted : {o n : ℕ} {p : Pattern} {xs : List ℕ} → SaysPattern C.image o n p xs → (i : ℕ) → o ≡ entry_place w i → i + n ≡ count_of w → (k : CVal) (us vs : List CVal) → found p us k ≡ some vs → variables C w n i ≡ length vs
    unfolding variables cases
    counted {o} (says_end e) i at c k us vs q = by (top_of_c k) q
      where
        by : (t : Option (Entry CVal × CVal)) → cases t (λ x. none) (λ n. some []) ≡ some vs → choose (binds_rest C w) 1 0 ≡ length vs
        by none r = rw (← some-injective [] vs r, shut o i at c e)
        by (some x) r = absurd (none-ne-some vs r)
    counted {o} (says_rest {v = y} e) i at c k us vs q = rw (← some-injective (k ∷ []) vs q, opens o i y at c e)
    counted {o} (says_anything {n = n} {p = p} e h) i at c k us vs q = rw (any_entry o i at e) (by (top_of_c k) q (λ k'. counted h (suc i) (omega arith) (omega arith) k' us vs))
      where
        by : (t : Option (Entry CVal × CVal)) → cases t (λ x. found p us x.1) (λ n. none) ≡ some vs → ((k' : CVal) → found p us k' ≡ some vs → variables C w n (suc i) ≡ length vs) → 0 + variables C w n (suc i) ≡ length vs
        by none r ih = absurd (none-ne-some vs r)
        by (some x) r ih = omega (arith, ih x.1 r)
    counted (says_cut e lt h) i at c k [] vs q = absurd (none-ne-some vs q)
    counted {o} (says_cut {n = n} {x = y} {p = p} e lt h) i at c k (u ∷ us) vs q = rw (cut_entry o i y at e) (by (top_of_c k) q (λ k' vs'. counted h (suc i) (omega arith) (omega arith) k' us vs'))
      where
        Later : Type 0
        Later = (k' : CVal) (vs' : List CVal) → found p us k' ≡ some vs' → variables C w n (suc i) ≡ length vs'

        try : (x : Entry CVal × CVal) (b : Bool) (f : Option (List CVal)) → found p us x.1 ≡ f → choose b (cons_found x.0.held f) none ≡ some vs → Later → 1 + variables C w n (suc i) ≡ length vs
        try x false f g r ih = absurd (none-ne-some vs r)
        try x true none g r ih = absurd (none-ne-some vs r)
        try x true (some vs') g r ih = rw (← some-injective (x.0.held ∷ vs') vs r) (omega (arith, ih x.1 vs' g))

        by : (t : Option (Entry CVal × CVal)) → cases t (λ x. choose (hits x.0.label (labels_of (unload_val u))) (cons_found x.0.held (found p us x.1)) none) (λ n. none) ≡ some vs → Later → 1 + variables C w n (suc i) ≡ length vs
        by none r ih = absurd (none-ne-some vs r)
        by (some x) r ih = try x (hits x.0.label (labels_of (unload_val u))) (found p us x.1) refl r ih

    abbrev Binds : Memory → Sizes → ℕ → ℕ → ℕ → ℕ → Env → List CVal → Type 0
    Binds M z n i v env ρ vs = z.nb + length vs ≤ binding_places → Chains M z (length vs) (link_all vs ρ) (bind_entries C w n i v (record { memory = M; count = z.nb; env = env }))

    -- The entries of a pattern that the stack matches.
    pub bound_all : {o n : ℕ} {p : Pattern} {xs : List ℕ} → SaysPattern C.image o n p xs → (i : ℕ) → o ≡ entry_place w i → i + n ≡ count_of w → (M : Memory) (z : Sizes) (v env : ℕ) (k : CVal) (us vs : List CVal) (ρ : Env)
        → word_count ≤ length M.words → z.np ≤ piece_places → IsVal Θ M z v k → IsEnv Θ M z env ρ → env < binding_places → found p us k ≡ some vs → Binds M z n i v env ρ vs
    unfolding bind_entries cases
    bound_all {o} (says_end e) i at c M z v env k us vs ρ long fit iv ie fits q = by (top_of_c k) q
      where
        by : (t : Option (Entry CVal × CVal)) → cases t (λ x. none) (λ n. some []) ≡ some vs → Binds M z 0 i v env ρ vs
        by none r = rw (← some-injective [] vs r, shut o i at c e) (λ h. no_more M z z.nb env ρ refl ie fits)
        by (some x) r = absurd (none-ne-some vs r)
    bound_all {o} (says_rest {v = y} e) i at c M z v env k us vs ρ long fit iv ie fits q =
        rw (← some-injective (k ∷ []) vs q, opens o i y at c e)
        (λ h. one_more M z v env 0 k ρ (link k ρ) _ long (omega arith) fit fits iv ie (λ ie'. no_more _ _ (z.nb + 1) z.nb (link k ρ) refl ie' (omega arith)))
    bound_all {o} (says_anything {n = n} {p = p} e h) i at c M z v env k us vs ρ long fit iv ie fits q =
        by (as_kept Θ M z iv) q (λ v' k' iv'. bound_all h (suc i) (omega arith) (omega arith) M z v' env k' us vs ρ long fit iv' ie fits)
      where
        by : {k : CVal} → AsKept Θ M z v k → cases (top_of_c k) (λ x. found p us x.1) (λ n. none) ≡ some vs
            → ((v' : ℕ) (k' : CVal) → IsVal Θ M z v' k' → found p us k' ≡ some vs → Binds M z n (suc i) v' env ρ vs) → Binds M z (suc n) i v env ρ vs
        by (a_kept {s = k'} t lt l iu is) r ih = rw (any_entry o i at e, t) (ih _ k' is r)
        by (no_kept t m) r ih = absurd (none-ne-some vs (sym (ap (λ y. cases y (λ x. found p us x.1) (λ n. none)) m) ∙ r))
    bound_all (says_cut e lt h) i at c M z v env k [] vs ρ long fit iv ie fits q = absurd (none-ne-some vs q)
    bound_all {o} (says_cut {n = n} {x = y} {p = p} e lt h) i at c M z v env k (u ∷ us) vs ρ long fit iv ie fits q =
        by (as_kept Θ M z iv) q (λ M' z' v' k' vs' ρ'. bound_all h (suc i) (omega arith) (omega arith) M' z' v' z.nb k' us vs' ρ')
      where
        Later : Type 0
        Later = (M' : Memory) (z' : Sizes) (v' : ℕ) (k' : CVal) (vs' : List CVal) (ρ' : Env) → word_count ≤ length M'.words → z'.np ≤ piece_places → IsVal Θ M' z' v' k' → IsEnv Θ M' z' z.nb ρ' → z.nb < binding_places → found p us k' ≡ some vs'
            → Binds M' z' n (suc i) v' z.nb ρ' vs'

        by : {k : CVal} → AsKept Θ M z v k → cases (top_of_c k) (λ x. choose (hits x.0.label (labels_of (unload_val u))) (cons_found x.0.held (found p us x.1)) none) (λ n. none) ≡ some vs → Later → Binds M z (suc n) i v env ρ vs
        by (no_kept t m) r ih = absurd (none-ne-some vs (sym (ap (λ y. cases y (λ x. choose (hits x.0.label (labels_of (unload_val u))) (cons_found x.0.held (found p us x.1)) none) (λ n. none)) m) ∙ r))
        by (a_kept {l = l} {u = a} {s = k'} t b il iu is) r ih = try (hits l (labels_of (unload_val u))) (found p us k') refl r
          where
            try : (h : Bool) (f : Option (List CVal)) → found p us k' ≡ f → choose h (cons_found a f) none ≡ some vs → Binds M z (suc n) i v env ρ vs
            try false f q r = absurd (none-ne-some vs r)
            try true none q r = absurd (none-ne-some vs r)
            try true (some vs') q r =
                let M' : Memory = put_binding z.nb (binding (top_entry M v) 0 env) M in
                let z' : Sizes = resized Θ (z.nb + 1) z.np z in
                let long' : word_count ≤ length M'.words = rw (length-set M.words (0 + z.nb) (binding (top_entry M v) 0 env)) long in
                rw (← some-injective (a ∷ vs') vs r, cut_entry o i y at e, t)
                (λ frames.
                let one : z.nb < binding_places = omega arith in
                one_more M z (top_entry M v) env (length vs') a ρ (link_all vs' (link a ρ)) _ long one fit fits iu ie
                (λ ie'. ih M' z' _ k' vs' (link a ρ) long' fit (val_grows Θ M z M' z' (grows_bound Θ M z long one fit (binding (top_entry M v) 0 env)) is) ie' one q (omega arith)))
