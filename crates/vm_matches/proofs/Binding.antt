-- The bindings that a match makes, one after another.
use Prim.Native.Nat.{ℕ, suc, ◌+◌, ◌-◌, ◌≤◌, ◌<◌}
use native.Mathlib.Omega.{arith}
use mathlib.Core.Path.{◌≡◌, refl, sym, ap, subst, ◌∙◌}
use mathlib.Core.Bool.{Bool, true, false}
use mathlib.Core.List.{List}
use lib.ListN.{drop}
use lib.Dec.{eqb}
use borrow.Author.Tests.{eq-eqb, ne_eqb}
use Rattle.calculus.specs.Combinators.{choose}
use Rattle.base_bytes.specs.Memory.{memory_length}
use Rattle.vm_code.specs.Words.{count_of}
use Rattle.vm_machine.specs.Memory.{Memory, top_entry, rest_of, binding_places}
use Rattle.vm_machine.specs.Fetch.{Program}
use Rattle.vm_machine.specs.Stacks.{Chained, entry_at, binds_rest, variables, bind_inside, bind_entries}
use Rattle.vm_memory.specs.View.{memory_of}
use Rattle.vm_memory.proofs.Chosen.{chosen_yes, chosen_no}
use Rattle.vm_matches.specs.declared.Chain.{Chain}
use Rattle.vm_matches.specs.Matching.{chain_in, Chains, entry_bound, rest_bound}

-- The tables, the count and the innermost binding that a Chains tells of.
chained_is : (B : Chained) (w w' : List ℕ) (q : Chain) → Chains B w w' q → B ≡ chain_in w' q
chained_is B w w' q b =
    ap (λ (M : Memory). record { memory = M; count = B.count; env = B.env }) (sym b.memory.memory)
    ∙ ap (λ (k : ℕ). record { memory = memory_of w'; count = k; env = B.env }) (sym b.count)
    ∙ ap (λ (k : ℕ). record { memory = memory_of w'; count = q.count; env = k }) (sym b.env)

same_chain : (w : List ℕ) (b : Chain) → Chains (chain_in w b) w w b
same_chain w b = record { memory = record { memory = refl; rest = refl }; count = refl; env = refl }

-- The entry x, which is e: v is what is left of the stack.
module _ (x e : ℕ) (at : e ≡ x) where
  pub entry_nothing : (v : ℕ) (a : List ℕ) (b : Chain) → e ≡ 0 → Chains (entry_bound x v (chain_in a b)) a a b
  entry_nothing v a b z = subst (λ (X : Chained). Chains X a a b) (sym (chosen_yes _ _ _ (eq-eqb x 0 (sym at ∙ z)))) (same_chain a b)

  pub entry_value : (v y : ℕ) (a a' : List ℕ) (b q : Chain) → (e ≡ 0 → ⊥) → y ≡ top_entry (memory_of a) v → Chains (bind_inside y (chain_in a b)) a a' q → Chains (entry_bound x v (chain_in a b)) a a' q
  entry_value v y a a' b q n h m =
      subst (λ (X : Chained). Chains X a a' q) (ap (λ (z : ℕ). bind_inside z (chain_in a b)) h ∙ sym (chosen_no _ _ _ (ne_eqb x 0 (λ z. n (at ∙ z))))) m

  pub entry_frames : (c : ℕ) → (e ≡ 0 → ⊥) → c + choose (eqb x 0) 0 1 ≤ binding_places → c < binding_places
  entry_frames c n h =
      let m : c + 1 ≤ binding_places = subst (λ (t : Bool). c + choose t 0 1 ≤ binding_places) (ne_eqb x 0 (λ z. n (at ∙ z))) h in
      omega arith

module _ (C : Program) (w : ℕ) where
  -- The rest: whether the close binds it is t.
  module _ (t : Bool) (is : t ≡ binds_rest C w) where
    pub rest_bound_lem : (v : ℕ) (a a' : List ℕ) (b q : Chain) → t ≡ true → Chains (bind_inside v (chain_in a b)) a a' q → Chains (rest_bound C w v (chain_in a b)) a a' q
    rest_bound_lem v a a' b q e m = subst (λ (X : Chained). Chains X a a' q) (sym (chosen_yes _ _ _ (sym is ∙ e))) m

    pub rest_free : (v : ℕ) (a : List ℕ) (b : Chain) → t ≡ false → Chains (rest_bound C w v (chain_in a b)) a a b
    rest_free v a b e = subst (λ (X : Chained). Chains X a a b) (sym (chosen_no _ _ _ (sym is ∙ e))) (same_chain a b)

    pub rest_frames : (c : ℕ) → t ≡ true → c + choose (binds_rest C w) 1 0 ≤ binding_places → c < binding_places
    rest_frames c e h =
        let m : c + 1 ≤ binding_places = subst (λ (x : Bool). c + choose x 1 0 ≤ binding_places) (sym is ∙ e) h in
        omega arith

  -- Of n entries: none is bound yet.
  module _ (n : ℕ) where
    pub frames_start : (c : ℕ) → n ≡ count_of w → c + variables C w (count_of w) 0 ≤ binding_places → c + variables C w (n - 0) 0 ≤ binding_places
    frames_start c e h =
        let k : count_of w ≡ n - 0 = omega arith in
        subst (λ (x : ℕ). c + variables C w x 0 ≤ binding_places) k h

    pub bound_start : (v : ℕ) (B : Chained) → n ≡ count_of w → bind_entries C w (count_of w) 0 v B ≡ bind_entries C w (n - 0) 0 v B
    bound_start v B e =
        let k : count_of w ≡ n - 0 = omega arith in
        ap (λ (x : ℕ). bind_entries C w x 0 v B) k

    module _ (i : ℕ) where
      -- One more, the entry e; u is the rest behind it.
      entry_is : (e v : ℕ) (a a' : List ℕ) (b q : Chain) → e ≡ entry_at C w i → Chains (entry_bound e v (chain_in a b)) a a' q → Chains (entry_bound (entry_at C w i) v (chain_in a b)) a a' q
      entry_is e v a a' b q at m = subst (λ (x : ℕ). Chains (entry_bound x v (chain_in a b)) a a' q) at m

      pub bound_on : (e v u : ℕ) (a a' : List ℕ) (b q : Chain) → e ≡ entry_at C w i → i < n → u ≡ rest_of (memory_of a) v → Chains (entry_bound e v (chain_in a b)) a a' q
          → bind_entries C w (n - i) i v (chain_in a b) ≡ bind_entries C w (n - (i + 1)) (i + 1) u (chain_in a' q)
      unfolding bind_entries
      bound_on e v u a a' b q at h f m =
          let k : n - i ≡ suc (n - (i + 1)) = omega arith in
          let j : suc i ≡ i + 1 = omega arith in
          let B : Chained = entry_bound (entry_at C w i) v (chain_in a b) in
          ap (λ (x : ℕ). bind_entries C w x i v (chain_in a b)) k
          ∙ ap (λ (x : ℕ). bind_entries C w (n - (i + 1)) x (rest_of (memory_of a) v) B) j
          ∙ ap (λ (x : ℕ). bind_entries C w (n - (i + 1)) (i + 1) x B) (sym f)
          ∙ ap (bind_entries C w (n - (i + 1)) (i + 1) u) (chained_is B a a' q (entry_is e v a a' b q at m))

      -- All are: the rest is left.
      pub bound_done : (B : Chained) (v : ℕ) (a₀ a a' : List ℕ) (b q : Chain) → n ≤ i → B ≡ bind_entries C w (n - i) i v (chain_in a b) → drop memory_length a ≡ drop memory_length a₀ → Chains (rest_bound C w v (chain_in a b)) a a' q → Chains B a₀ a' q
      unfolding bind_entries
      bound_done B v a₀ a a' b q h e r m =
          let k : n - i ≡ 0 = omega arith in
          let z : B ≡ rest_bound C w v (chain_in a b) = e ∙ ap (λ (x : ℕ). bind_entries C w x i v (chain_in a b)) k in
          subst (λ (X : Chained). Chains X a₀ a' q) (sym z) (record { memory = record { memory = m.memory.memory; rest = m.memory.rest ∙ r }; count = m.count; env = m.env })

      -- There is room for them.
      module _ (c : ℕ) (frames : c + variables C w (n - i) i ≤ binding_places) where
        both_frames : i < n → c + (choose (eqb (entry_at C w i) 0) 0 1 + variables C w (n - (i + 1)) (i + 1)) ≤ binding_places
        unfolding variables
        both_frames h =
            let k : n - i ≡ suc (n - (i + 1)) = omega arith in
            let j : suc i ≡ i + 1 = omega arith in
            subst (λ (x : ℕ). c + (choose (eqb (entry_at C w i) 0) 0 1 + variables C w (n - (i + 1)) x) ≤ binding_places) j (subst (λ (x : ℕ). c + variables C w x i ≤ binding_places) k frames)

        pub frames_here : (e : ℕ) → e ≡ entry_at C w i → i < n → c + choose (eqb e 0) 0 1 ≤ binding_places
        frames_here e at h = let k : c + choose (eqb (entry_at C w i) 0) 0 1 ≤ binding_places = omega (arith, both_frames h) in subst (λ (x : ℕ). c + choose (eqb x 0) 0 1 ≤ binding_places) (sym at) k

        pub frames_on : (e v : ℕ) (a a' : List ℕ) (b q : Chain) → e ≡ entry_at C w i → i < n → b.count ≡ c → Chains (entry_bound e v (chain_in a b)) a a' q → q.count + variables C w (n - (i + 1)) (i + 1) ≤ binding_places
        frames_on e v a a' b q at h f m =
            let x : q.count ≡ b.count + choose (eqb (entry_at C w i) 0) 0 1 = (entry_is e v a a' b q at m).count ∙ counted (eqb (entry_at C w i) 0) in
            omega (arith, both_frames h)
          where
            counted : (z : Bool) → (choose z (chain_in a b) (bind_inside (top_entry (memory_of a) v) (chain_in a b))).count ≡ b.count + choose z 0 1
            counted true = omega arith
            counted false = refl

        pub frames_left : n ≤ i → c + choose (binds_rest C w) 1 0 ≤ binding_places
        unfolding variables
        frames_left h =
            let k : n - i ≡ 0 = omega arith in
            subst (λ (x : ℕ). c + variables C w x i ≤ binding_places) k frames
