-- The reductions that change labels, installed advice or the log.
use Prim.Native.Nat.{ℕ, ◌+◌, ◌-◌, ◌*◌, ◌%◌, ◌≤◌, ◌<◌}
use native.Mathlib.Omega.{arith}
use mathlib.Core.Path.{◌≡◌, refl, sym, ap, ◌∙◌}
use mathlib.Core.Bool.{Bool, true, false, ◌||◌, true≢false}
use mathlib.Core.List.{List, [], ◌∷◌, ◌++◌}
use lib.ListN.{length, take, drop, length-append, length-set}
use lib.Seq.{take_at, drop-append-add, drop-drop}
use lib.Dec.{ltb, leb}
use lib.Bits.{bit_or}
use borrow.Author.Tests.{leb-true, ltb-true}
use Rattle.calculus.specs.declared.Outcome.{Outcome}
use Rattle.calculus.specs.Limits.{label_limit, advice_limit, log_record_length}
use Rattle.calculus.specs.Syntax.{Dom, Ty, Tm, new_label, print, install}
use Rattle.calculus.specs.Plain.{dom_of}
use Rattle.calculus.specs.State.{Entry, Advice, Event, prints, Print, log_of, add_label, add_advice, add_event}
use Rattle.calculus.specs.Compose.{member}
use Rattle.calculus.specs.Place.{Place}
use Rattle.calculus.specs.Answer.{reduct, with}
use Rattle.calculus.specs.Reduce.{label_capacity, advice_capacity, log_capacity}
use Rattle.laws.proofs.Lookup.{place_below}
use Rattle.closure_machine.specs.Closure.{CVal, Env, Body, CState, unload_val}
use Rattle.closure_machine.specs.Machine.{Control, ret, Stack, CAnswer, reduce0_c, reduce1_c}
use Rattle.vm_theory.specs.Conf.{Site, Chain, Slots}
use Rattle.base_bytes.specs.Bytes.{bytes_of, over}
use Rattle.base_bytes.specs.Records.{log_record}
use Rattle.vm_code.specs.Values.{value}
use Rattle.vm_code.specs.Words.{domain_of}
use Rattle.vm_machine.specs.declared.Regs.{Regs}
use Rattle.vm_machine.specs.Registers.{set_labels, set_installed, set_logged, stepped}
use Rattle.vm_machine.specs.Memory.{Memory, kept_base, word_at, installed_at, put_installed, piece_of, piece_second, has_bit, piece_places, installed_base, cell_base}
use Rattle.vm_machine.specs.States.{State, if_fuel, completed}
use Rattle.vm_machine.specs.Fetch.{code_at}
use Rattle.vm_machine.specs.Reduce.{reduce_print, reduce_label, reduce_install}
use Rattle.vm_machine_correct.proofs.Setup.{Setup}
use Rattle.vm_machine_correct.proofs.Pools.{leb_iff}
use Rattle.vm_machine_correct.proofs.Relations.{Sizes, sizes, IsVal, is_unit, is_label, IsAdvice, at_piece, Grows, advice_grows}
use Rattle.vm_machine_correct.proofs.Tables.{word_same, word_other, grows_put, grows_sizes, grows_trans, slots_put, slots_refl}
use Rattle.vm_machine_correct.proofs.Store.{log_bytes, install_more, advices_change, Store, cell_change, log_one, bytes_one, bytes_length, log_kept}
use Rattle.vm_machine_correct.proofs.Labels.{has_union}
use Rattle.vm_machine_correct.proofs.Views.{AsNumber, a_number, no_number, as_number_lem, AsAdvice, a_advice, no_advice, as_advice}
use Rattle.vm_machine_correct.proofs.Steps.{measure, After, Stepping, no_way, if_capacity_there}
use Rattle.vm_machine_correct.proofs.Gives.{gives}
use Rattle.vm_machine_correct.proofs.Values.{tag_value}

record_length : (d n : ℕ) → length (log_record d n) ≡ 10
unfolding bytes_of
record_length d n = refl

-- A record after those of the log.
log_over : (A D : List ℕ) (at : ℕ) (R X : List ℕ) → length A ≡ at → length R ≡ 10 → drop 10 D ≡ X → over at R (A ++ D) ≡ A ++ R ++ X
unfolding over
log_over A D at R X p q e =
    let t : take at (A ++ D) ≡ A = take_at A D at p in
    let i : at + length R ≡ length A + 10 = omega arith in
    let d : drop (at + length R) (A ++ D) ≡ X = ap (λ (i : ℕ). drop i (A ++ D)) i ∙ drop-append-add A D 10 ∙ e in
    rw (t, d)

-- A label that neither of two sets has.
none_of : (a b : Bool) → (a || b) ≡ false → (a ≡ false) × (b ≡ false)
none_of false false p = (refl, refl)
none_of false true p = (refl, p)
none_of true b p = (p, absurd (true≢false p))

module _ (Θ : Setup) (S : State) (k : ℕ) (s : CState) (m : ℕ) (P : Site) (A : Chain) (D : Slots) (c : Control) (F : Stack) where
  abbrev At : CAnswer → Type 0
  At a = Stepping Θ S k s m P A D c F a

  abbrev Progresses : State → Type 0
  Progresses S' = After Θ (measure S) S'

  -- The step is made, if one is left of the budget.
  abbrev Made : State → Type 0
  Made S' = Progresses (if_fuel S S')

  abbrev M : Memory
  M = S.memory

  abbrev r : Regs
  r = S.regs

  abbrev z : Sizes
  z = sizes r

  abbrev w : ℕ
  w = code_at Θ.program m

  abbrev Is : ℕ → CVal → Type 0
  Is x v = IsVal Θ M z x v

  pub label_now : (X : Place) (x : List (Entry CVal)) (y : Ty) → At (reduce0_c Θ.given X x s new_label y) → Progresses (reduce_label w S)
  label_now X x y R =
      if_capacity_there (measure S) (label_capacity s) Outcome.Labels _ _ (ltb r.labels label_limit) (ap (λ (i : ℕ). ltb i label_limit) st.counts.labels) R refl
      (λ frames Q. made (ltb-true (length s.labels) label_limit frames) Q)
    where
      st : Store Θ M S.log z s
      st = R.place.common.store

      after : Regs
      after = stepped (set_labels (r.labels + 1) r)

      g : Grows M z M (sizes after)
      g = grows_sizes M z (sizes after) (omega arith) (omega arith)

      made : length s.labels < label_limit → At (reduct (add_label (dom_of y) s) (ret (CVal.label (length s.labels)))) → Made (completed w (value 6 r.labels) (record { memory = M; log = S.log; regs = after }))
      made h Q =
          gives Q M S.log after (add_label (dom_of y) s)
          (record {
            regs = record { env = refl; frames = refl; fuel = refl; pc = refl; kept = refl };
            store =
                record {
                  words = st.words;
                  beside = st.beside;
                  counts = omega (arith, st.counts, length-append s.labels (dom_of y ∷ []));
                  are_cells = λ i c e. cell_change Θ M z M (sizes after) g refl (st.are_cells i c e);
                  are_advices = advices_change Θ M z M (sizes after) g (λ l i q. q) st.are_advices (λ i lt. refl);
                  written = st.written;
                };
            used = R.place.common.used;
            grows = g;
            slots = slots_refl M;
            keeps = λ i. refl;
          })
          (value 6 r.labels) (CVal.label (length s.labels)) refl (is_label (tag_value 6 r.labels (omega arith)) (omega (arith, st.counts.labels)))

  pub print_now : (X : Place) → domain_of w ≡ X.dom → (y : Ty) {x : ℕ} {v : CVal} → Is x v → At (reduce1_c Θ.given X s print y v) → Progresses (reduce_print w x S)
  unfolding with unload_val
  print_now X here y {x} i R = try (as_number_lem Θ M z i) R
    where
      st : Store Θ M S.log z s
      st = R.place.common.store

      ps : List Print
      ps = log_of s.trace

      long : length S.log ≡ length Θ.log
      long = log_kept Θ M S.log z s st

      tests : leb log_record_length (length S.log - r.logged) ≡ log_capacity Θ.given s
      tests = leb_iff log_record_length (length S.log - r.logged) log_record_length (Θ.given.log_length - 10 * length ps) (λ h. omega (arith, long, Θ.log_kept, st.written.log_at)) (λ h. omega (arith, long, Θ.log_kept, st.written.log_at))

      after : Regs
      after = stepped (set_logged (r.logged + 10) r)

      said : ℕ → Event
      said n = record { dom = X.dom; said = prints n s.used.mainline }

      g : Grows M z M (sizes after)
      g = grows_sizes M z (sizes after) (omega arith) (omega arith)

      made : (n : ℕ) → 10 ≤ length S.log - r.logged → At (reduct (add_event (said n) s) (ret CVal.unit)) → Made (completed w 0 (record { memory = M; log = over r.logged (log_record (domain_of w) n) S.log; regs = after }))
      made n h Q =
          let new : log_of (s.trace ++ (said n ∷ [])) ≡ ps ++ (record { dom = X.dom; shown = n } ∷ []) = log_one s.trace X.dom n s.used.mainline in
          let count : length (log_of (s.trace ++ (said n ∷ []))) ≡ length ps + 1 = ap length new ∙ length-append ps (record { dom = X.dom; shown = n } ∷ []) in
          gives Q M (over r.logged (log_record (domain_of w) n) S.log) after (add_event (said n) s)
          (record {
            regs = record { env = refl; frames = refl; fuel = refl; pc = refl; kept = refl };
            store =
                record {
                  words = st.words;
                  beside = st.beside;
                  counts = omega (arith, st.counts);
                  are_cells = λ j c e. cell_change Θ M z M (sizes after) g refl (st.are_cells j c e);
                  are_advices = advices_change Θ M z M (sizes after) g (λ l j q. q) st.are_advices (λ j lt. refl);
                  written =
                      record {
                        logged =
                            ap (λ x. over r.logged (log_record (domain_of w) n) x) st.written.logged
                            ∙ log_over (log_bytes ps) (drop r.logged Θ.log) r.logged (log_record (domain_of w) n) (drop (r.logged + 10) Θ.log) (bytes_length ps ∙ sym st.written.log_at) (record_length (domain_of w) n) (drop-drop 10 r.logged Θ.log)
                            ∙ ap (λ d. log_bytes ps ++ log_record d n ++ drop (r.logged + 10) Θ.log) here
                            ∙ ap (λ x. x ++ drop (r.logged + 10) Θ.log) (sym (ap log_bytes new ∙ bytes_one ps (record { dom = X.dom; shown = n })));
                        log_at = omega (arith, st.written.log_at, count);
                        log_fits = omega (arith, long);
                      };
                };
            used = R.place.common.used;
            grows = g;
            slots = slots_refl M;
            keeps = λ i. refl;
          })
          0 CVal.unit refl (is_unit refl)

      try : {u : CVal} → AsNumber Θ M z x u → At (reduce1_c Θ.given X s print y u) → Progresses (reduce_print w x S)
      try (a_number {n = n} p q) Q =
          rw q
          (if_capacity_there (measure S) (log_capacity Θ.given s) Outcome.Log _ _ (leb log_record_length (length S.log - r.logged)) tests Q refl
          (λ frames Q'. made n (leb-true 10 (length S.log - r.logged) (tests ∙ frames)) Q'))
      try (no_number p) Q = no_way Q (rw p)

  pub install_now : (X : Place) (y : Ty) {x : ℕ} {v : CVal} → Is x v → At (reduce1_c Θ.given X s install y v) → Progresses (reduce_install w x S)
  unfolding with
  install_now X y {x} i R = try (as_advice Θ M z i) R
    where
      st : Store Θ M S.log z s
      st = R.place.common.store

      union : ℕ
      union = bit_or r.named (piece_second M (piece_of x))

      after : Regs
      after = stepped (set_installed (r.installed + 1) union r)

      tables : Memory
      tables = put_installed r.installed (piece_of x) M

      g : Grows M z tables (sizes after)
      g =
          grows_trans (grows_put M z (installed_base + r.installed) (piece_of x) (omega (arith, st.counts.bindings_fit)) (λ j h e. omega (arith, st.counts.pieces_fit)))
          (grows_sizes tables z (sizes after) (omega arith) (omega arith))

      -- labels that are not named now were not named before, nor are they the new advice's
      fewer : (l : ℕ) → has_bit union l ≡ false → (has_bit r.named l ≡ false) × (has_bit (piece_second M (piece_of x)) l ≡ false)
      fewer l q = none_of (has_bit r.named l) (has_bit (piece_second M (piece_of x)) l) (sym (has_union r.named (piece_second M (piece_of x)) l) ∙ q)

      unnamed : {d : Dom} {ls : List ℕ} {e : Tm} {ρ : Env} → IsAdvice Θ M z (piece_of x) d ls e ρ → (l : ℕ) → l < label_limit → has_bit union l ≡ false → member l ls ≡ false
      unnamed (at_piece h b d e ls) l n q = sym (ls.has l n) ∙ (fewer l q).1

      made : (d : Dom) (ls : List ℕ) (e : Tm) (ρ : Env) → length s.advices < advice_limit → IsAdvice Θ M z (piece_of x) d ls e ρ
          → At (reduct (add_advice (record { dom = d; labels = ls; body = record { term = e; env = ρ } }) s) (ret CVal.unit)) → Made (completed w 0 (record { memory = tables; log = S.log; regs = after }))
      made d ls e ρ h ia Q =
          let a : Advice Body = record { dom = d; labels = ls; body = record { term = e; env = ρ } } in
          let same : installed_base + (0 + length s.advices) ≡ installed_base + r.installed = omega (arith, st.counts.advices) in
          let twice : piece_of x % piece_places ≡ piece_of x = omega arith in
          let now : installed_at tables (0 + length s.advices) ≡ piece_of x =
          ap (λ (j : ℕ). word_at tables j % piece_places) same ∙ ap (λ (y : ℕ). y % piece_places) (word_same M (installed_base + r.installed) (piece_of x) (omega (arith, st.words, st.counts.advices))) ∙ twice in
          gives Q tables S.log after (add_advice a s)
          (record {
            regs = record { env = refl; frames = refl; fuel = refl; pc = refl; kept = refl };
            store =
                record {
                  words = rw (length-set M.words (installed_base + r.installed) (piece_of x)) st.words;
                  beside = st.beside;
                  counts = omega (arith, st.counts, length-append s.advices (a ∷ []));
                  are_cells = λ j c e. cell_change Θ M z tables (sizes after) g (word_other M (installed_base + r.installed) (piece_of x) (cell_base + j) (λ q. omega (arith, st.counts.cells_count, st.counts.cells_fit, place_below s.cells j e))) (st.are_cells j c e);
                  are_advices =
                      install_more Θ tables (sizes after) 0
                      (advices_change Θ M z tables (sizes after) g (λ l n q. (fewer l q).0) st.are_advices (λ j lt. word_other M (installed_base + r.installed) (piece_of x) (installed_base + j) (λ q. omega (arith, st.counts.advices))))
                      (rw now (advice_grows Θ M z tables (sizes after) g ia)) (unnamed ia);
                  written = st.written;
                };
            used = R.place.common.used;
            grows = g;
            slots = slots_put M (installed_base + r.installed) (piece_of x) (λ a b. omega arith);
            keeps = λ i. word_other M (installed_base + r.installed) (piece_of x) (kept_base + i) (λ e. omega arith);
          })
          0 CVal.unit refl (is_unit refl)

      try : {u : CVal} → AsAdvice Θ M z x u → At (reduce1_c Θ.given X s install y u) → Progresses (reduce_install w x S)
      try (a_advice {d = d} {e = e} {ls = ls} {ρ = ρ} ia) Q =
          if_capacity_there (measure S) (advice_capacity s) Outcome.Advice _ _ (ltb r.installed advice_limit) (ap (λ (j : ℕ). ltb j advice_limit) st.counts.advices) Q refl
          (λ frames Q'. made d ls e ρ (ltb-true (length s.advices) advice_limit frames) ia Q')
      try (no_advice p) Q = no_way Q (rw p)
