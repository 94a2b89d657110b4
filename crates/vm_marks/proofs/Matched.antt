-- The bindings that a mark makes, one advice after another.
use Prim.Native.Nat.{ℕ, suc, ◌+◌, ◌≤◌, ◌<◌}
use native.Mathlib.Omega.{arith}
use mathlib.Core.Path.{◌≡◌, refl, sym, ap, subst, ◌∙◌}
use mathlib.Core.Bool.{Bool, true, false}
use mathlib.Core.List.{List}
use lib.ListN.{drop}
use borrow.Author.Tests.{lt-ltb, le-ltb}
use Rattle.base_bytes.specs.Memory.{memory_length}
use Rattle.vm_pools.specs.declared.Pool.{Pool}
use Rattle.vm_pools.specs.Pools.{is_mainline, whole, charge}
use Rattle.vm_machine.specs.Memory.{Memory, binding_places, binding, put_binding, installed_at, has_bit, piece_first, piece_second, advice_target, advice_env, advice_dom}
use Rattle.vm_machine.specs.Reduce.{Bound, bind_one, bind_matching}
use Rattle.vm_memory.specs.View.{memory_of, Holds}
use Rattle.vm_memory.proofs.Chosen.{chosen_yes, chosen_no}
use Rattle.vm_marks.specs.Binds.{bound_in, Binds}
use Rattle.vm_marks.specs.NextAdvice.{advised}

-- What is written is that of a B that is known by its tables.
pub binds_by : {N : Type 0} (A B : Bound N) (w w' : List ℕ) (n : N) → A ≡ B → Binds A w w' n → Binds B w w' n
binds_by {N} A B w w' n e b = subst (λ (C : Bound N). Binds C w w' n) e b

-- The binding at place n of the advice with word a is made, or there is no such place.
module _ (w w' : List ℕ) (n v a : ℕ) where
  pub placed : (t env : ℕ) → n < binding_places → t ≡ advice_target a → env ≡ advice_env a → Holds (put_binding n (binding v t env) (memory_of w)) w w' → Holds (advised n v a (memory_of w)) w w'
  placed t env k d e h =
      let h₁ : Holds (put_binding n (binding v t (advice_env a)) (memory_of w)) w w' = subst (λ (j : ℕ). Holds (put_binding n (binding v t j) (memory_of w)) w w') e h in
      let h₂ : Holds (put_binding n (binding v (advice_target a) (advice_env a)) (memory_of w)) w w' = subst (λ (j : ℕ). Holds (put_binding n (binding v j (advice_env a)) (memory_of w)) w w') d h₁ in
      subst (λ (M : Memory). Holds M w w') (sym (chosen_yes _ _ _ (lt-ltb n binding_places k))) h₂

  pub past : binding_places ≤ n → Holds (advised n v a (memory_of w)) w w
  past k = subst (λ (M : Memory). Holds M w w) (sym (chosen_no _ _ _ (le-ltb n binding_places k))) (record { memory = refl; rest = refl })

-- Installed advice i, of piece p; x is the word of its labels and h whether l is one of them.
module _ (w : List ℕ) (l v i : ℕ) (b : Pool) (p x : ℕ) (h : Bool) (d : p ≡ installed_at (memory_of w) i) (e : x ≡ piece_second (memory_of w) p) (f : h ≡ has_bit x l) where
  matches : {c : Bool} → h ≡ c → has_bit (piece_second (memory_of w) (installed_at (memory_of w) i)) l ≡ c
  matches g = ap (λ (j : ℕ). has_bit (piece_second (memory_of w) j) l) (sym d) ∙ ap (λ (j : ℕ). has_bit j l) (sym e) ∙ sym f ∙ g

  pub other_bound : h ≡ false → Binds (bind_one l v i (bound_in w b)) w w b
  other_bound g =
      binds_by (bound_in w b) (bind_one l v i (bound_in w b)) w w b (sym (chosen_no _ _ _ (matches g))) (record { memory = record { memory = refl; rest = refl }; count = refl })

  -- y is its word, o its domain, and n the place of the binding.
  pub one_bound : (y o n : ℕ) (w' : List ℕ) (q : Pool) → h ≡ true → y ≡ piece_first (memory_of w) p → n ≡ whole b → o ≡ advice_dom y → Holds (advised n v y (memory_of w)) w w' → q ≡ charge (is_mainline o) 1 b → Binds (bind_one l v i (bound_in w b)) w w' q
  one_bound y o n w' q g a k c m r =
      let z : y ≡ piece_first (memory_of w) (installed_at (memory_of w) i) = a ∙ ap (piece_first (memory_of w)) d in
      let A : ℕ → Bound Pool = λ j. record { memory = advised (whole b) v j (memory_of w); count = charge (is_mainline (advice_dom j)) 1 b } in
      binds_by (A (piece_first (memory_of w) (installed_at (memory_of w) i))) (bind_one l v i (bound_in w b)) w w' q (sym (chosen_yes _ _ _ (matches g)))
      (subst (λ (j : ℕ). Binds (A j) w w' q) z (record { memory = subst (λ (j : ℕ). Holds (advised j v y (memory_of w)) w w') k m; count = r ∙ ap (λ (j : ℕ). charge (is_mainline j) 1 b) c }))

-- One more is in use.
pub one_more : (h : Bool) (b q : Pool) → q ≡ charge h 1 b → whole q ≡ whole b + 1
one_more h b q e = ap whole e ∙ more h
  where
    more : (t : Bool) → whole (charge t 1 b) ≡ whole b + 1
    more true = omega arith
    more false = omega arith

-- The tables and the count that a Binds tells of.
pub bound_is : {N : Type 0} (B : Bound N) (w w' : List ℕ) (n : N) → Binds B w w' n → B ≡ bound_in w' n
bound_is {N} B w w' n b = ap (λ (M : Memory). record { memory = M; count = B.count }) (sym b.memory.memory) ∙ ap (λ (k : N). record { memory = memory_of w'; count = k }) (sym b.count)

-- One advice more.
pub matching_on : (i j l v : ℕ) (w w' : List ℕ) (m m' : Pool) → i ≡ suc j → Binds (bind_one l v j (bound_in w m)) w w' m' → bind_matching i l v (bound_in w m) ≡ bind_matching j l v (bound_in w' m')
unfolding bind_matching
matching_on i j l v w w' m m' k b =
    ap (λ (x : ℕ). bind_matching x l v (bound_in w m)) k ∙ ap (bind_matching j l v) (bound_is (bind_one l v j (bound_in w m)) w w' m' b)

-- All are done.
pub matching_done : (B : Bound Pool) (i l v : ℕ) (w w' : List ℕ) (m : Pool) → i ≤ 0 → B ≡ bind_matching i l v (bound_in w' m) → drop memory_length w' ≡ drop memory_length w → Binds B w w' m
unfolding bind_matching
matching_done B i l v w w' m h e r =
    let k : i ≡ 0 = omega arith in
    let z : B ≡ bound_in w' m = e ∙ ap (λ (x : ℕ). bind_matching x l v (bound_in w' m)) k in
    binds_by (bound_in w' m) B w w' m (sym z) (record { memory = record { memory = refl; rest = r }; count = refl })
