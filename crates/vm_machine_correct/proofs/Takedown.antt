-- A takedown (card 7): what is left of the installed advice, moved together in its order.
use Prim.Native.Nat.{ℕ, suc, ◌+◌, ◌%◌, ◌≤◌, ◌<◌}
use native.Mathlib.Omega.{arith}
use mathlib.Core.Path.{◌≡◌, refl, sym, ap, ◌∙◌, subst}
use mathlib.Core.Bool.{Bool, true, false, not, true≢false}
use mathlib.Core.List.{List, [], ◌∷◌, ◌++◌, append_assoc, append-nil}
use lib.ListN.{length, length-append, length-set}
use lib.Dec.{eqb}
use Rattle.calculus.specs.Combinators.{choose}
use Rattle.calculus.specs.Syntax.{Dom, Ty, takedown}
use Rattle.calculus.specs.State.{Advice, Entry, without, drop_advice}
use Rattle.calculus.specs.Compose.{member}
use Rattle.calculus.specs.Place.{Place}
use Rattle.calculus.specs.Limits.{label_limit, advice_limit}
use Rattle.laws.proofs.Lookup.{place_below}
use Rattle.closure_machine.specs.Closure.{CVal, Body, CState}
use Rattle.closure_machine.specs.Machine.{Control, Stack, reduce0_c}
use Rattle.vm_theory.specs.Conf.{Site, Chain, Slots}
use Rattle.vm_code.specs.Words.{field_b}
use Rattle.vm_machine.specs.declared.Regs.{Regs}
use Rattle.vm_machine.specs.Registers.{set_installed, stepped}
use Rattle.vm_machine.specs.Memory.{Memory, word_at, installed_base, installed_at, put_installed, kept_base, piece_first, advice_dom, has_bit, binding_places, piece_places, cell_base}
use Rattle.vm_machine.specs.States.{State}
use Rattle.vm_machine.specs.Fetch.{code_at}
use Rattle.vm_machine.specs.Reduce.{Bound, stay_others, reduce_takedown}
use Rattle.base_bytes.specs.Memory.{word_count}
use Rattle.vm_machine_correct.proofs.Setup.{Setup}
use Rattle.vm_machine_correct.proofs.Relations.{Sizes, sizes, is_unit, IsAdvice, at_piece, Grows, advice_grows}
use Rattle.vm_machine_correct.proofs.Tables.{word_same, word_other, grows_put, grows_refl, grows_sizes, grows_trans, SameSlots, slots_put, slots_refl, slots_trans}
use Rattle.vm_machine_correct.proofs.Store.{AreAdvices, none_installed, one_installed, install_more, advices_change, Store, cell_change}
use Rattle.vm_machine_correct.proofs.Steps.{measure, After, Stepping}
use Rattle.vm_machine_correct.proofs.Gives.{gives}

module _ (Θ : Setup) where
  module _ (M : Memory) (z : Sizes) (long : word_count ≤ length M.words) (nb : z.nb ≤ binding_places) (np : z.np ≤ piece_places) (d : Dom) where
    -- Before place i the loop has left the advice k; from place i on, and outside the table, it has written nothing.
    record Stays (i : ℕ) (k : List (Advice Body)) (B : Bound ℕ) : Type 0 where
      grows : Grows M z B.memory z
      slots : SameSlots M B.memory
      words : length B.memory.words ≡ length M.words
      below : (q : ℕ) → q < installed_base → word_at B.memory q ≡ word_at M q
      above : (q : ℕ) → kept_base ≤ q → word_at B.memory q ≡ word_at M q
      behind : (q : ℕ) → i ≤ q → word_at B.memory (installed_base + q) ≡ word_at M (installed_base + q)
      count : B.count ≡ length k
      few : B.count ≤ i
      are : AreAdvices Θ B.memory z 0 k

    passed : {i : ℕ} {k : List (Advice Body)} {B : Bound ℕ} → Stays i k B → Stays (suc i) k B
    passed h =
        record { grows = h.grows; slots = h.slots; words = h.words; below = h.below; above = h.above; behind = λ q l. h.behind q (omega arith); count = h.count; few = omega (arith, h.few); are = h.are }

    -- One more stays.
    stayed : {i : ℕ} {k : List (Advice Body)} {B : Bound ℕ} (a : Advice Body) (p : ℕ) → i < advice_limit → p < piece_places → IsAdvice Θ M z p a.dom a.labels a.body.term a.body.env
        → ((l : ℕ) → l < label_limit → has_bit z.named l ≡ false → member l a.labels ≡ false) → Stays i k B
        → Stays (suc i) (k ++ (a ∷ [])) (record { memory = put_installed B.count p B.memory; count = B.count + 1 })
    stayed {i} {k} {B} a p low small ia u h =
        let at : ℕ = installed_base + B.count in
        let M' : Memory = put_installed B.count p B.memory in
        let g : Grows B.memory z M' z = grows_put B.memory z at p (omega (arith, h.few)) (λ j l e. omega (arith, h.few)) in
        let same : installed_base + (0 + length k) ≡ at = omega (arith, h.count) in
        let now : installed_at M' (0 + length k) ≡ p =
        ap (λ (j : ℕ). word_at M' j % piece_places) same ∙ ap (λ (y : ℕ). y % piece_places) (word_same B.memory at p (omega (arith, h.words, h.few))) ∙ (let e : p % piece_places ≡ p = omega arith in e) in
        record {
          grows = grows_trans h.grows g;
          slots = slots_trans h.slots (slots_put B.memory at p (λ x y. omega arith));
          words = length-set B.memory.words at p ∙ h.words;
          below = λ q l. word_other B.memory at p q (λ e. omega arith) ∙ h.below q l;
          above = λ q l. word_other B.memory at p q (λ e. omega (arith, h.few)) ∙ h.above q l;
          behind = λ q l. word_other B.memory at p (installed_base + q) (λ e. omega (arith, h.few)) ∙ h.behind q (omega arith);
          count = omega (arith, h.count, length-append k (a ∷ []));
          few = omega (arith, h.few);
          are =
              install_more Θ M' z 0 (advices_change Θ B.memory z M' z g (λ l n q. q) h.are (λ q l. word_other B.memory at p (installed_base + q) (λ e. omega (arith, h.count))))
              (rw now (advice_grows Θ M z M' z (grows_trans h.grows g) ia)) u;
        }

    dom_of_lem : {p : ℕ} {a : Advice Body} → IsAdvice Θ M z p a.dom a.labels a.body.term a.body.env → (M' : Memory) → Grows M z M' z → advice_dom (piece_first M' p) ≡ a.dom
    dom_of_lem {p} (at_piece l b q e hs) M' g = ap advice_dom (g.firsts p l) ∙ q

    -- The loop.
    stays : {i : ℕ} {y : List (Advice Body)} → AreAdvices Θ M z i y → i + length y ≤ advice_limit → (k : List (Advice Body)) (B : Bound ℕ) → Stays i k B
        → Stays (i + length y) (k ++ without d y) (stay_others (length y) i d B)
    unfolding stay_others
    stays {i} none_installed small k B h = let e : i + 0 ≡ i = omega arith in rw (e, append-nil k) h
    stays {i} (one_installed {a = a} {x = y} ia u more) small k B h =
        let e : suc i + length y ≡ i + suc (length y) = omega arith in
        subst (λ (n : ℕ). Stays n (k ++ without d (a ∷ y)) (stay_others (suc (length y)) i d B)) e
        (try (eqb (advice_dom (piece_first B.memory p)) d) (eqb a.dom d) (ap (λ c. eqb c d) (dom_of_lem {a = a} ia' B.memory h.grows)) (λ k' B' h'. stays more (omega arith) k' B' h'))
      where
        p : ℕ
        p = installed_at B.memory i

        ia' : IsAdvice Θ M z p a.dom a.labels a.body.term a.body.env
        ia' = rw (ap (λ (w : ℕ). w % piece_places) (h.behind i (omega arith))) ia

        left : Bound ℕ
        left = record { memory = put_installed B.count p B.memory; count = B.count + 1 }

        try : (t t' : Bool) → t ≡ t' → ((k' : List (Advice Body)) (B' : Bound ℕ) → Stays (suc i) k' B' → Stays (suc i + length y) (k' ++ without d y) (stay_others (length y) (suc i) d B'))
            → Stays (suc i + length y) (k ++ choose (not t') (a ∷ without d y) (without d y)) (stay_others (length y) (suc i) d (choose t B left))
        try true true q ih = ih k B (passed h)
        try true false q ih = absurd (true≢false q)
        try false true q ih = absurd (true≢false (sym q))
        try false false q ih =
            subst (λ (x : List (Advice Body)). Stays (suc i + length y) x (stay_others (length y) (suc i) d left)) (append_assoc k (a ∷ []) (without d y))
            (ih (k ++ (a ∷ [])) left (stayed a p (omega arith) (omega arith) ia' u h))

module _ (Θ : Setup) (S : State) (k : ℕ) (s : CState) (m : ℕ) (P : Site) (A : Chain) (D : Slots) (c : Control) (F : Stack) where
  abbrev r : Regs
  r = S.regs

  abbrev z : Sizes
  z = sizes r

  pub takedown_now : (X : Place) (x : List (Entry CVal)) (y : Ty) → Stepping Θ S k s m P A D c F (reduce0_c Θ.given X x s (takedown (field_b (code_at Θ.program m))) y)
      → After Θ (measure S) (reduce_takedown (code_at Θ.program m) S)
  unfolding reduce_takedown
  takedown_now X x y R =
      gives R K.memory S.log after (drop_advice d s)
      (record {
        regs = record { env = refl; frames = refl; fuel = refl; pc = refl; kept = refl };
        store =
            record {
              words = rw t.words st.words;
              beside = rw t.slots.byte st.beside;
              counts = omega (arith, st.counts, t.count, t.few);
              are_cells = λ j a e. cell_change Θ S.memory z K.memory (sizes after) g (t.below (cell_base + j) (omega (arith, st.counts.cells_count, st.counts.cells_fit, place_below s.cells j e))) (st.are_cells j a e);
              are_advices = advices_change Θ K.memory z K.memory (sizes after) more (λ l j q. q) t.are (λ q l. refl);
              written = st.written;
            };
        used = R.place.common.used;
        grows = g;
        slots = t.slots;
        keeps = λ i. t.above (kept_base + i) (omega arith);
      })
      0 CVal.unit refl (is_unit refl)
    where
      d : Dom
      d = field_b (code_at Θ.program m)

      st : Store Θ S.memory S.log z s
      st = R.place.common.store

      start : Bound ℕ
      start = record { memory = S.memory; count = 0 }

      K : Bound ℕ
      K = stay_others r.installed 0 d start

      after : Regs
      after = stepped (set_installed K.count r.named r)

      t : Stays Θ S.memory z st.words st.counts.bindings_fit st.counts.pieces_fit d (0 + length s.advices) (without d s.advices) K
      t =
          subst (λ (n : ℕ). Stays Θ S.memory z st.words st.counts.bindings_fit st.counts.pieces_fit d (0 + length s.advices) (without d s.advices) (stay_others n 0 d start)) (sym st.counts.advices)
          (stays Θ S.memory z st.words st.counts.bindings_fit st.counts.pieces_fit d st.are_advices (omega (arith, st.counts.advices, st.counts.advices_fit)) [] start
          (record {
            grows = grows_refl S.memory z;
            slots = slots_refl S.memory;
            words = refl;
            below = λ q l. refl;
            above = λ q l. refl;
            behind = λ q l. refl;
            count = refl;
            few = omega arith;
            are = none_installed;
          }))

      more : Grows K.memory z K.memory (sizes after)
      more = grows_sizes K.memory z (sizes after) (omega arith) (omega arith)

      g : Grows S.memory z K.memory (sizes after)
      g = grows_trans t.grows more
