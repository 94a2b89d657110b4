-- The reductions that change cells.
use Prim.Native.Nat.{ℕ, ◌+◌, ◌≤◌, ◌<◌}
use native.Mathlib.Omega.{arith}
use mathlib.Core.Path.{◌≡◌, refl, sym, ◌∙◌}
use mathlib.Core.Logic.{◌⊎◌, inl, inr}
use mathlib.Core.List.{[], ◌∷◌, ◌++◌}
use mathlib.Core.Option.{Option, none, some}
use lib.ListN.{length, get_elem?, length-append, length-set}
use Rattle.calculus.specs.Syntax.{Ty, new_cell, store}
use Rattle.calculus.specs.Plain.{dom_of, held_plain}
use Rattle.calculus.specs.State.{Cell, stored, with_uses, add_uses, at_dom, one_cell, with_cells}
use Rattle.calculus.specs.Place.{Place}
use Rattle.calculus.specs.Answer.{reduct, with}
use Rattle.laws.proofs.Lookup.{place_below, get_set, get_snoc}
use Rattle.image.specs.Limits.{domain_limit}
use Rattle.closure_machine.specs.Closure.{CVal, CState, unload_val}
use Rattle.closure_machine.specs.Machine.{Control, ret, Stack, CAnswer, reduce1_c, reduce2_c}
use Rattle.vm_theory.specs.Conf.{Site, Chain, Slots, dom_at, place_of}
use Rattle.vm_code.specs.Values.{value, tag_of, body_of}
use Rattle.vm_code.specs.Words.{field_b}
use Rattle.vm_code.specs.PassUp as passes
use Rattle.vm_machine.specs.declared.Regs.{Regs}
use Rattle.vm_machine.specs.Registers.{set_pools, stepped}
use Rattle.vm_pools.specs.Pools.{whole, charge_cells}
use Rattle.vm_machine.specs.Quotas.{quota_of}
use Rattle.vm_machine.specs.Memory.{Memory, kept_base, put_word, above, cell_at, cell_note, cell_places, installed_base, cell_base}
use Rattle.vm_machine.specs.States.{State, if_fuel, completed}
use Rattle.vm_machine.specs.Fetch.{code_at}
use Rattle.vm_machine.specs.Reduce.{reduce_cell, reduce_store}
use Rattle.vm_machine_correct.proofs.Setup.{Setup}
use Rattle.vm_machine_correct.proofs.Pools.{Used, whole_charged}
use Rattle.vm_machine_correct.proofs.Relations.{Sizes, sizes, IsVal, is_unit, is_cell, val_like, Grows, val_grows}
use Rattle.vm_machine_correct.proofs.Tables.{word_same, word_other, grows_put, grows_sizes, grows_trans, slots_put}
use Rattle.vm_machine_correct.proofs.Store.{IsCell, advices_change, Store, cell_change}
use Rattle.vm_machine_correct.proofs.Views.{AsCell, a_cell_lem, no_cell, as_cell}
use Rattle.vm_machine_correct.proofs.Steps.{measure, After, Stepping, no_way, if_cell}
use Rattle.vm_machine_correct.proofs.Gives.{gives}
use Rattle.vm_machine_correct.proofs.Values.{tag_value}

-- The parts of a cell.
cell_word : (v n : ℕ) → n < 65536 → (tag_of (above v n) ≡ tag_of v) × (body_of (above v n) ≡ body_of v) × (cell_note (above v n) ≡ n)
cell_word v n h = (omega arith, omega arith, omega arith)

module _ (Θ : Setup) (S : State) (k : ℕ) (s : CState) (m : ℕ) (P : Site) (A : Chain) (D : Slots) (c : Control) (F : Stack) where
  abbrev At : CAnswer → Type 0
  At a = Stepping Θ S k s m P A D c F a

  abbrev Progresses : State → Type 0
  Progresses S' = After Θ (measure S) S'

  -- The step is made, if one is left of the budget.
  abbrev Made : State → Type 0
  Made S' = Progresses (if_fuel S S')

  abbrev M : Memory
  M = S.memory

  abbrev r : Regs
  r = S.regs

  abbrev z : Sizes
  z = sizes r

  abbrev w : ℕ
  w = code_at Θ.program m

  abbrev Is : ℕ → CVal → Type 0
  Is x v = IsVal Θ M z x v

  -- A cell that is there is written.
  pub store_now : (X : Place) (y : Ty) {x x' : ℕ} {v v' : CVal} → Is x v → Is x' v' → At (reduce2_c Θ.given X s store y v v') → Progresses (reduce_store w x x' S)
  unfolding with unload_val
  store_now X y {x} {x'} {v' = v'} i i' R = try (as_cell Θ M z i) R
    where
      st : Store Θ M S.log z s
      st = R.place.common.store

      made : (j : ℕ) (old : Cell CVal) → get_elem? s.cells j ≡ some old → At (reduct (stored j old v' s) (ret CVal.unit)) → Made (completed w 0 (record { memory = put_word (cell_base + j) (above x' (cell_note (cell_at M j))) M; log = S.log; regs = stepped r }))
      made j old there Q =
          let h : j < whole r.pools.cells = omega (arith, st.counts.cells_count, place_below s.cells j there) in
          let word : ℕ = above x' (cell_note (cell_at M j)) in
          let tables : Memory = put_word (cell_base + j) word M in
          let new : Cell CVal = record { dom = old.dom; plain = old.plain; held = v' } in
          let g : Grows M z tables z = grows_put M z (cell_base + j) word (omega (arith, st.counts.bindings_fit)) (λ j h e. omega (arith, st.counts.pieces_fit)) in
          let here : cell_at tables j ≡ word = word_same M (cell_base + j) word (omega (arith, st.words, st.counts.cells_fit)) in
          let parts = cell_word x' (cell_note (cell_at M j)) (omega arith) in
          let is : IsCell Θ tables z word new =
          record { value = val_like Θ tables z parts.0 parts.1 (val_grows Θ M z tables z g i'); note = parts.2 ∙ (st.are_cells j old there).note; low = (st.are_cells j old there).low } in
          gives Q tables S.log (stepped r) (stored j old v' s)
          (record {
            regs = record { env = refl; frames = refl; fuel = refl; pc = refl; kept = refl };
            store =
                record {
                  words = rw (length-set M.words (cell_base + j) word) st.words;
                  beside = st.beside;
                  counts = omega (arith, st.counts, length-set s.cells j new);
                  are_cells = λ q c e. at_cell_lem j word new g (rw here is) q c (get_set s.cells j q new e);
                  are_advices = advices_change Θ M z tables z g (λ l n q. q) st.are_advices (λ q lt. word_other M (cell_base + j) word (installed_base + q) (λ e. omega (arith, st.counts.cells_fit)));
                  written = st.written;
                };
            used = Q.place.common.used;
            grows = g;
            slots = slots_put M (cell_base + j) word (λ a b. omega arith);
            keeps = λ i. word_other M (cell_base + j) word (kept_base + i) (λ e. omega arith);
          })
          0 CVal.unit refl (is_unit refl)
        where
          at_cell_lem : (j word : ℕ) (new : Cell CVal) → Grows M z (put_word (cell_base + j) word M) z → IsCell Θ (put_word (cell_base + j) word M) z (cell_at (put_word (cell_base + j) word M) j) new
              → (q : ℕ) (c : Cell CVal) → ((q ≡ j) × (new ≡ c)) ⊎ ((q ≡ j → ⊥) × (get_elem? s.cells q ≡ some c)) → IsCell Θ (put_word (cell_base + j) word M) z (cell_at (put_word (cell_base + j) word M) q) c
          at_cell_lem j word new g is q c (inl (e, f)) = rw (e, ← f) is
          at_cell_lem j word new g is q c (inr (n, e)) = cell_change Θ M z (put_word (cell_base + j) word M) z g (word_other M (cell_base + j) word (cell_base + q) (λ x. n (omega arith))) (st.are_cells q c e)

      found : (j : ℕ) (o : Option (Cell CVal)) → get_elem? s.cells j ≡ o → At (with o (λ old. reduct (stored j old v' s) (ret CVal.unit)))
          → Made (completed w 0 (record { memory = put_word (cell_base + j) (above x' (cell_note (cell_at M j))) M; log = S.log; regs = stepped r }))
      found j none e Q = no_way Q refl
      found j (some old) e Q = made j old e Q

      try : {u : CVal} → AsCell Θ M z x u → At (reduce2_c Θ.given X s store y u v') → Progresses (reduce_store w x x' S)
      try (a_cell_lem {r = j} p q) Q = rw q (found j (get_elem? s.cells j) refl Q)
      try (no_cell p) Q = no_way Q (rw p)

  -- A new cell.
  pub cell_now : (y : Ty) {x : ℕ} {v : CVal} → dom_of y < domain_limit → field_b w ≡ passes.cell_note y → Is x v → At (reduce1_c Θ.given (place_of P A) s new_cell y v) → Progresses (reduce_cell w x S)
  cell_now y {x} {v} low note i R =
      if_cell (measure S) (λ s₁. reduct (with_cells (s₁.cells ++ (new ∷ [])) s₁) (ret (CVal.cell (length s₁.cells)))) _ R made
    where
      st : Store Θ M S.log z s
      st = R.place.common.store

      nc : ℕ
      nc = whole r.pools.cells

      new : Cell CVal
      new = record { dom = dom_of y; plain = held_plain y; held = v }

      word : ℕ
      word = above x (field_b w)

      tables : Memory
      tables = put_word (cell_base + nc) word M

      after : Regs
      after = stepped (set_pools (charge_cells (quota_of w) 1 r.pools) r)

      s' : CState
      s' = with_cells (s.cells ++ (new ∷ [])) (with_uses (add_uses s.used (at_dom (dom_at P) one_cell)) s)

      more : (sizes after).nc ≡ nc + 1
      more = whole_charged (quota_of w) 1 r.pools.cells

      g : Grows M z tables (sizes after)
      g =
          grows_trans (grows_put M z (cell_base + nc) word (omega (arith, st.counts.bindings_fit)) (λ j h e. omega (arith, st.counts.pieces_fit)))
          (grows_sizes tables z (sizes after) (omega arith) (omega arith))

      at_cell_lem : nc + 1 ≤ cell_places → (j : ℕ) (c : Cell CVal) → ((j ≡ length s.cells) × (new ≡ c)) ⊎ (get_elem? s.cells j ≡ some c) → IsCell Θ tables (sizes after) (cell_at tables j) c
      at_cell_lem h j c (inl (e, f)) =
          let parts = cell_word x (field_b w) (omega arith) in
          let is : IsCell Θ tables (sizes after) word new =
          record { value = val_like Θ tables (sizes after) parts.0 parts.1 (val_grows Θ M z tables (sizes after) g i); note = parts.2 ∙ note; low = low } in
          let here : cell_at tables nc ≡ word = word_same M (cell_base + nc) word (omega (arith, st.words)) in
          rw (e ∙ sym st.counts.cells_count, here, ← f) is
      at_cell_lem h j c (inr e) =
          cell_change Θ M z tables (sizes after) g (word_other M (cell_base + nc) word (cell_base + j) (λ q. omega (arith, st.counts.cells_count, place_below s.cells j e))) (st.are_cells j c e)

      made : nc + 1 ≤ cell_places → Used after.pools s'.used → At (reduct s' (ret (CVal.cell (length s.cells)))) → Made (completed w (value 5 nc) (record { memory = tables; log = S.log; regs = after }))
      made h u Q =
          gives Q tables S.log after s'
          (record {
            regs = record { env = refl; frames = refl; fuel = refl; pc = refl; kept = refl };
            store =
                record {
                  words = rw (length-set M.words (cell_base + nc) word) st.words;
                  beside = st.beside;
                  counts = omega (arith, st.counts, more, length-append s.cells (new ∷ []));
                  are_cells = λ j c e. at_cell_lem h j c (get_snoc s.cells j new e);
                  are_advices = advices_change Θ M z tables (sizes after) g (λ l n q. q) st.are_advices (λ j lt. word_other M (cell_base + nc) word (installed_base + j) (λ e. omega arith));
                  written = st.written;
                };
            used = u;
            grows = g;
            slots = slots_put M (cell_base + nc) word (λ a b. omega arith);
            keeps = λ i. word_other M (cell_base + nc) word (kept_base + i) (λ e. omega arith);
          })
          (value 5 nc) (CVal.cell (length s.cells)) refl
          (is_cell (tag_value 5 nc (omega arith)) (omega (arith, st.counts.cells_count)))
