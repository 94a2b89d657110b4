-- What it says that the machine ended as a run of the calculus did.
use Prim.Native.Nat.{ℕ, ◌+◌, ◌*◌, ◌≤◌, ◌<◌}
use mathlib.Core.Path.{◌≡◌, refl, sym, ◌∙◌}
use mathlib.Core.Bool.{true, false, true≢false}
use mathlib.Core.List.{◌++◌}
use mathlib.Core.Option.{some}
use lib.ListN.{length, get_elem?, drop, length-map}
use Rattle.calculus.specs.declared.Outcome.{Outcome}
use Rattle.calculus.specs.Combinators.{choose}
use Rattle.calculus.specs.Syntax.{Val}
use Rattle.calculus.specs.State.{Cell, log_of, fresh}
use Rattle.calculus.specs.Run.{EndOf, done, stopped, Ended, ended, run}
use Rattle.calculus.specs.Report.{outcome_number, outcome_of}
use Rattle.calculus.specs.Limits.{label_limit, advice_limit}
use Rattle.laws.proofs.Lookup.{get_map}
use Rattle.image.specs.Limits.{domain_limit}
use Rattle.closure_machine.specs.Closure.{CVal, CState, unload_val, unload_cell, unload_advice, unload_state}
use Rattle.vm_pools.specs.Pools.{whole}
use Rattle.vm_machine.specs.Memory.{cell_at, cell_note, cell_places}
use Rattle.vm_machine.specs.States.{State}
use Rattle.vm_machine_correct.proofs.Setup.{Setup, root_term}
use Rattle.vm_machine_correct.proofs.Pools.{Used}
use Rattle.vm_machine_correct.proofs.Relations.{sizes, IsVal}
use Rattle.vm_machine_correct.proofs.Store.{log_bytes, Store}
use Rattle.vm_machine_correct.proofs.Simulation.{Halted, halted_done, halted_stopped}

module _ (Θ : Setup) (S : State) where
  -- The word w of the machine's tables stands for the value v.
  pub record Stands (w : ℕ) (v : Val) : Type 0 where
    pub value : CVal
    pub is : IsVal Θ S.memory (sizes S.regs) w value
    pub plain : unload_val value ≡ v

  -- Cell i is the cell c.
  pub record StandsCell (i : ℕ) (c : Cell Val) : Type 0 where
    pub held : Stands (cell_at S.memory i) c.held
    pub note : cell_note (cell_at S.memory i) ≡ c.dom + choose c.plain domain_limit 0
    pub low : c.dom < domain_limit

  -- E is the ended run.
  pub record VmEnds (E : Ended) : Type 0 where
    pub outcome : Outcome
    pub ends : outcome_of E.end ≡ some outcome
    pub number : S.regs.outcome ≡ outcome_number outcome
    pub steps : E.steps + S.regs.rest ≡ Θ.budget
    -- if the run is done, its value is at hand
    pub result : (v : Val) → E.end ≡ done v → Stands S.regs.acc v
    pub log : S.log ≡ log_bytes (log_of E.state.trace) ++ drop S.regs.logged Θ.log
    pub log_at : S.regs.logged ≡ 10 * length (log_of E.state.trace)
    pub log_fits : S.regs.logged ≤ length Θ.log
    pub cells : (i : ℕ) (c : Cell Val) → get_elem? E.state.cells i ≡ some c → StandsCell i c
    pub cells_count : whole S.regs.pools.cells ≡ length E.state.cells
    pub cells_fit : whole S.regs.pools.cells ≤ cell_places
    -- card 9
    pub used : Used S.regs.pools E.state.used
    pub labels : S.regs.labels ≡ length E.state.labels
    pub labels_fit : S.regs.labels ≤ label_limit
    pub advices : S.regs.installed ≡ length E.state.advices
    pub advices_fit : S.regs.installed ≤ advice_limit

module _ (Θ : Setup) (S : State) where
  -- From the closure machine's state to the calculus's.
  ends_of : (e : EndOf Val) (o : Outcome) (k : ℕ) (s : CState) → outcome_of e ≡ some o → S.regs.outcome ≡ outcome_number o → k + S.regs.rest ≡ Θ.budget
      → ((v : Val) → e ≡ done v → Stands Θ S S.regs.acc v) → Store Θ S.memory S.log (sizes S.regs) s → Used S.regs.pools s.used → VmEnds Θ S (ended e k (unload_state s))
  unfolding unload_val
  ends_of e o k s p q b r st u =
      record {
        outcome = o;
        ends = p;
        number = q;
        steps = b;
        result = r;
        log = st.written.logged;
        log_at = st.written.log_at;
        log_fits = st.written.log_fits;
        cells = λ i c e.
            let m = get_map unload_cell s.cells i e in
            let h = st.are_cells i m.0 m.1 in
            let cell : StandsCell Θ S i (unload_cell m.0) = record { held = record { value = m.0.held; is = h.value; plain = refl }; note = h.note; low = h.low } in
            rw m.2 at cell;
        cells_count = st.counts.cells_count ∙ sym (length-map s.cells unload_cell);
        cells_fit = st.counts.cells_fit;
        used = u;
        labels = st.counts.labels;
        labels_fit = st.counts.labels_fit;
        advices = st.counts.advices ∙ sym (length-map s.advices unload_advice);
        advices_fit = st.counts.advices_fit;
      }

module _ (Θ : Setup) where
  done_only : {v u : Val} → ◌≡◌ {A = EndOf Val} (done v) (done u) → v ≡ u
  done_only p = cc

  not_done : {A : Type 0} (o : Outcome) (v : Val) → ◌≡◌ {A = EndOf Val} (stopped o) (done v) → A
  not_done o v p = let t : true ≡ false = cc in absurd (true≢false t)

  pub halted_ends : (S : State) → Halted Θ S → VmEnds Θ S (run Θ.budget Θ.given 0 fresh (root_term Θ))
  halted_ends S (halted_done {k = k} {s = s} {v = u} m o e st y iv b f) =
      rw e (ends_of Θ S (done (unload_val u)) Outcome.Done k s refl o b (λ v q. record { value = u; is = iv; plain = done_only q }) st y)
  halted_ends S (halted_stopped {k = k} {s = s} o m n e st y b f) = rw e (ends_of Θ S (stopped o) o k s refl n b (λ v q. not_done o v q) st y)
