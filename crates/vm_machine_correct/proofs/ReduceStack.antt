-- The stack is taken (card 6): one piece an entry, the outermost first.
use Prim.Native.Nat.{ℕ, zero, suc, ◌+◌, ◌*◌, ◌%◌, ◌≤◌, ◌<◌}
use native.Mathlib.Omega.{arith}
use mathlib.Core.Path.{◌≡◌, refl, sym, ap, subst, ◌∙◌}
use mathlib.Core.List.{List, ◌∷◌}
use lib.ListN.{length, length-set}
use Rattle.calculus.specs.Syntax.{Ty, the_stack}
use Rattle.calculus.specs.State.{Entry, some_pieces, add_uses, at_dom, with_uses}
use Rattle.calculus.specs.Answer.{reduct}
use Rattle.closure_machine.specs.Closure.{CVal, CState, stack_val_c}
use Rattle.closure_machine.specs.Machine.{Control, ret, Stack, reduce0_c}
use Rattle.vm_theory.specs.Conf.{Site, Chain, Slots, kept_by, dom_at, place_of}
use Rattle.vm_code.specs.Values.{tag_of, body_of, bottom_value, kept_value}
use Rattle.vm_machine.specs.declared.Regs.{Regs}
use Rattle.vm_machine.specs.Registers.{set_pools, stepped}
use Rattle.vm_pools.specs.Pools.{whole, charge_pieces}
use Rattle.vm_machine.specs.Quotas.{quota_of}
use Rattle.vm_machine.specs.Memory.{Memory, piece_base, cell_base, kept_base, kept_at, entry_label, put_word, put_piece, piece_first, piece_second, binding_places, piece_places}
use Rattle.vm_machine.specs.States.{State, with_memory, if_fuel, completed}
use Rattle.vm_machine.specs.Fetch.{code_at}
use Rattle.vm_machine.specs.Reduce.{given, if_pieces}
use Rattle.vm_machine.specs.Stacks.{Stacked, stack_pieces, reduce_stack}
use Rattle.vm_machine_correct.proofs.Setup.{Setup}
use Rattle.vm_machine_correct.proofs.Pools.{Used, whole_charged}
use Rattle.vm_machine_correct.proofs.Relations.{Sizes, sizes, IsVal, is_bottom, is_kept_lem, val_at, val_grows, Grows}
use Rattle.vm_machine_correct.proofs.Tables.{word_same, word_other, grows_put, grows_sizes, grows_trans, Above, above_put, above_refl, above_trans, SameSlots, slots_put, slots_refl, slots_trans}
use Rattle.vm_machine_correct.proofs.Store.{Store, resized, store_charged}
use Rattle.vm_machine_correct.proofs.Keeping.{AreKept, none_kept, one_kept, kept_count}
use Rattle.vm_machine_correct.proofs.Steps.{measure, After, Stepping, if_pieces_lem}
use Rattle.vm_machine_correct.proofs.Gives.{gives}
use Rattle.base_bytes.specs.Memory.{word_count}

-- The last entry's piece comes last.
abbrev entry_piece : ℕ → ℕ → Stacked → Stacked
entry_piece i p K = record { memory = put_piece (p + i) (kept_at K.memory i) K.value K.memory; value = kept_value (p + i) }

last_piece : (m i p : ℕ) (K : Stacked) → stack_pieces (suc m) i p K ≡ entry_piece (m + i) p (stack_pieces m i p K)
unfolding stack_pieces
last_piece zero i p K = let e : 0 + i ≡ i = omega arith in rw e
last_piece (suc m) i p K = let e : m + suc i ≡ suc m + i = omega arith in last_piece m (suc i) p (entry_piece i p K) ∙ ap (λ (j : ℕ). entry_piece j p (stack_pieces m (suc i) p (entry_piece i p K))) e

kept_value_lem : (p : ℕ) → p < piece_places → (tag_of (kept_value p) ≡ 11) × (body_of (kept_value p) % piece_places ≡ p)
kept_value_lem p h = (omega arith, omega arith)

module _ (Θ : Setup) where
  -- The tables with n pieces more, which have the stack x.
  record Taken (M : Memory) (z : Sizes) (n : ℕ) (x : List (Entry CVal)) (K : Stacked) : Type 0 where
    pub grows : Grows M z K.memory (resized Θ z.nb (z.np + n) z)
    pub above : Above cell_base M K.memory
    pub slots : SameSlots M K.memory
    pub beside : K.memory.beside ≡ M.beside
    pub is : IsVal Θ K.memory (resized Θ z.nb (z.np + n) z) K.value (stack_val_c x)

  taken : (M : Memory) (z : Sizes) → word_count ≤ length M.words → z.nb ≤ binding_places → {n : ℕ} {x : List (Entry CVal)} → AreKept Θ M z n x → z.np + n ≤ piece_places
      → Taken M z n x (stack_pieces n 0 z.np (record { memory = M; value = bottom_value }))
  unfolding stack_pieces
  taken M z long fb none_kept frames =
      record { grows = grows_sizes M z (resized Θ z.nb (z.np + 0) z) (omega arith) (omega arith); above = above_refl cell_base M; slots = slots_refl M; beside = refl; is = is_bottom refl }
  taken M z long fb (one_kept {n = n} {e = e} {x = x} l v k) frames =
      let at : n + 0 ≡ n = omega arith in
      rw (last_piece n 0 z.np (record { memory = M; value = bottom_value }), at) (more (taken M z long fb k (omega arith)))
    where
      K : Stacked
      K = stack_pieces n 0 z.np (record { memory = M; value = bottom_value })

      more : Taken M z n x K → Taken M z (suc n) (e ∷ x) (entry_piece n z.np K)
      more t =
          let z₁ : Sizes = resized Θ z.nb (z.np + n) z in
          let z₂ : Sizes = resized Θ z.nb (z.np + suc n) z in
          let i : ℕ = piece_base + 2 * (z.np + n) in
          let a : ℕ = kept_at K.memory n in
          let M₁ : Memory = K.memory in
          let quota : Memory = put_word i a M₁ in
          let M₂ : Memory = put_piece (z.np + n) a K.value M₁ in
          let words : word_count ≤ length M₁.words = rw t.above.words long in
          let same : a ≡ kept_at M n = t.above.kept (kept_base + n) (omega arith) in
          let g : Grows M₁ z₁ M₂ z₂ =
          grows_trans (grows_put M₁ z₁ i a (omega arith) (λ j h q. omega arith)) (grows_trans (grows_put quota z₁ (i + 1) K.value (omega arith) (λ j h q. omega arith)) (grows_sizes M₂ z₁ z₂ (omega arith) (omega arith))) in
          let w = kept_value_lem (z.np + n) (omega arith) in
          let first : piece_first M₂ (z.np + n) ≡ a = word_other quota (i + 1) K.value i (λ q. omega arith) ∙ word_same M₁ i a (omega (arith, words)) in
          let second : piece_second M₂ (z.np + n) ≡ K.value = word_same quota (i + 1) K.value (rw (length-set M₁.words i a) (omega (arith, words))) in
          let first' : piece_first M₂ (body_of (kept_value (z.np + n)) % piece_places) ≡ a = ap (λ (j : ℕ). piece_first M₂ j) w.1 ∙ first in
          let second' : piece_second M₂ (body_of (kept_value (z.np + n)) % piece_places) ≡ K.value = ap (λ (j : ℕ). piece_second M₂ j) w.1 ∙ second in
          let g' : Grows M z M₂ z₂ = grows_trans t.grows g in
          record {
            grows = g';
            above = above_trans t.above (above_trans (above_put M₁ cell_base i a (omega arith)) (above_put quota cell_base (i + 1) K.value (omega arith)));
            slots = slots_trans t.slots (slots_trans (slots_put M₁ i a (λ h q. omega arith)) (slots_put quota (i + 1) K.value (λ h q. omega arith)));
            beside = t.beside;
            is =
                is_kept_lem w.0 (omega (arith, w.1)) (ap entry_label (first' ∙ same) ∙ l) (val_at Θ M₂ z₂ (first' ∙ same) (val_grows Θ M z M₂ z₂ g' v))
                (val_at Θ M₂ z₂ second' (val_grows Θ M₁ z₁ M₂ z₂ g t.is));
          }

module _ (Θ : Setup) (S : State) (k : ℕ) (s : CState) (m : ℕ) (P : Site) (A : Chain) (D : Slots) (c : Control) (F : Stack) where
  abbrev r : Regs
  r = S.regs

  pub stack_now : (y : Ty) → Stepping Θ S k s m P A D c F (reduce0_c Θ.given (place_of P A) (kept_by A) s the_stack y) → After Θ (measure S) (reduce_stack (code_at Θ.program m) S)
  unfolding reduce_stack
  stack_now y R =
      subst (λ (n : ℕ). After Θ (measure S) (if_pieces w n S (given w K.value (with_memory K.memory (set_pools (charge_pieces (quota_of w) n r.pools) r) S)))) (sym count)
      (if_pieces_lem (measure S) (length (kept_by A)) (λ s₁. reduct s₁ (ret (stack_val_c (kept_by A)))) _ R made)
    where
      w : ℕ
      w = code_at Θ.program m

      st : Store Θ S.memory S.log (sizes r) s
      st = R.place.common.store

      count : r.kept ≡ length (kept_by A)
      count = kept_count Θ R.place.kept

      np : ℕ
      np = whole r.pools.pieces

      K : Stacked
      K = stack_pieces r.kept 0 np (record { memory = S.memory; value = bottom_value })

      after : Regs
      after = stepped (set_pools (charge_pieces (quota_of w) (length (kept_by A)) r.pools) r)

      larger : (sizes after).np ≡ np + r.kept
      larger = whole_charged (quota_of w) (length (kept_by A)) r.pools.pieces ∙ ap (λ (n : ℕ). np + n) (sym count)

      s' : CState
      s' = with_uses (add_uses s.used (at_dom (dom_at P) (some_pieces (length (kept_by A))))) s

      made : np + length (kept_by A) ≤ piece_places → Used after.pools s'.used → Stepping Θ S k s m P A D c F (reduct s' (ret (stack_val_c (kept_by A))))
          → After Θ (measure S) (if_fuel S (completed w K.value (record { memory = K.memory; log = S.log; regs = after })))
      made h u Q =
          let fit : np + r.kept ≤ piece_places = omega (arith, count) in
          let t : Taken Θ S.memory (sizes r) r.kept (kept_by A) K = taken Θ S.memory (sizes r) st.words st.counts.bindings_fit R.place.kept fit in
          let z' : sizes after ≡ resized Θ (sizes r).nb (np + r.kept) (sizes r) = ap (λ (n : ℕ). resized Θ (sizes r).nb n (sizes r)) larger in
          let g : Grows S.memory (sizes r) K.memory (sizes after) = subst (λ (z : Sizes). Grows S.memory (sizes r) K.memory z) (sym z') t.grows in
          gives Q K.memory S.log after s'
          (record {
            regs = record { env = refl; frames = refl; fuel = refl; pc = refl; kept = refl };
            store = store_charged Θ S.memory S.log (sizes r) s st K.memory (sizes r).nb (sizes after).np s'.used g t.above (rw t.beside st.beside) st.counts.bindings_fit (omega (arith, larger));
            used = u;
            grows = g;
            slots = t.slots;
            keeps = λ i. t.above.kept (kept_base + i) (omega arith);
          })
          K.value (stack_val_c (kept_by A)) refl (subst (λ (z : Sizes). IsVal Θ K.memory z K.value (stack_val_c (kept_by A))) (sym z') t.is)
