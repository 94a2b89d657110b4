-- A step: whether it is made, and what the machine is after it. Beside it a bound: every turn lowers a number.
use Prim.Native.Nat.{ℕ, suc, ◌+◌, ◌-◌, ◌*◌, ◌≤◌, ◌<◌}
use native.Mathlib.Omega.{arith}
use mathlib.Core.Path.{◌≡◌, refl, sym, ap, subst, ◌∙◌}
use mathlib.Core.Bool.{Bool, true, false}
use mathlib.Core.List.{List}
use lib.ListN.{length}
use lib.Dec.{eqb, leb}
use borrow.Author.Tests.{leb-true, leb-false, le-leb, lt-leb}
use Rattle.calculus.specs.declared.Outcome.{Outcome}
use Rattle.calculus.specs.Limits.{frame_limit, binding_limit, cell_limit, piece_limit}
use Rattle.calculus.specs.Combinators.{choose}
use Rattle.calculus.specs.Run.{stopped, ended, run}
use Rattle.calculus.specs.Report.{outcome_number}
use Rattle.calculus.specs.State.{fresh, some_bindings, one_cell, some_pieces, at_dom, add_uses, with_uses}
use Rattle.calculus.specs.Answer.{reduct, at_capacity, halt, wrong, by_capacity, spend}
use Rattle.calculus.specs.Place.{framed}
use Rattle.closure_machine.specs.Closure.{CState, unload_state}
use Rattle.closure_machine.specs.Machine.{Control, Stack, CAnswer, reduces, move}
use Rattle.vm_theory.specs.Conf.{Site, Chain, Slots, Conf, dom_at, depth_at, place_of}
use Rattle.vm_theory.specs.Stands.{stack_at}
use Rattle.vm_theory.proofs.Reach.{WithinCapacity, Reach, not_wrong, ends_spent, ends_full, ends_halt}
use Rattle.vm_theory.proofs.Located.{describes}
use Rattle.vm_code.specs.Words.{depth_of}
use Rattle.vm_code.specs.Words as code
use Rattle.vm_machine.specs.declared.Regs.{Regs}
use Rattle.vm_machine.specs.Registers.{fuel_bias, frame_slots, halt_with, stepped, halt as halting}
use Rattle.vm_pools.specs.Pools.{is_mainline, whole, charge_bindings, charge_cells, charge_pieces, has_capacity, bindings_out, cells_out, pieces_out}
use Rattle.vm_machine.specs.Quotas.{quota_of}
use Rattle.vm_machine.specs.Memory.{Memory, binding_places, piece_places, cell_places}
use Rattle.vm_machine.specs.States.{State, with_regs, with_memory, judged, if_fuel, if_capacity}
use Rattle.vm_machine.specs.Fetch.{code_at}
use Rattle.vm_machine.specs.Reduce.{if_bindings, if_pieces}
use Rattle.vm_machine.specs.Fits.{Fits}
use Rattle.vm_machine_correct.proofs.Setup.{Setup, root_term}
use Rattle.vm_machine_correct.proofs.Pools.{Used, frames_is, more_fits, more_bindings, more_cells, more_pieces, spend_bindings, spend_cell, spend_pieces}
use Rattle.vm_machine_correct.proofs.Relations.{sizes}
use Rattle.vm_machine_correct.proofs.Store.{Store}
use Rattle.vm_machine_correct.proofs.Keeping.{kept_fits}
use Rattle.vm_machine_correct.proofs.Simulation.{InPlace, Simulates, Halted, halted_stopped}
use Rattle.vm_machine.specs.Run.{turns_per_step}

-- A number that each turn lowers: the budget first; between steps a return, or else the room.
abbrev pub level : Regs → ℕ
level r = choose (eqb r.pc code.return_pc) (frame_slots + 2) (r.frames + 1)

abbrev pub measure : State → ℕ
measure S = turns_per_step * S.regs.fuel + level S.regs

pub level_bounds : (r : Regs) → r.frames ≤ frame_slots → (1 ≤ level r) × (level r ≤ frame_slots + 2)
level_bounds r h = try (eqb r.pc code.return_pc)
  where
    try : (b : Bool) → (1 ≤ choose b (frame_slots + 2) (r.frames + 1)) × (choose b (frame_slots + 2) (r.frames + 1) ≤ frame_slots + 2)
    try true = (omega arith, omega arith)
    try false = (omega arith, omega arith)

-- A turn that makes at least a step falls.
pub step_falls : (S S' : State) → S'.regs.fuel < S.regs.fuel → S.regs.frames ≤ frame_slots → S'.regs.frames ≤ frame_slots → measure S' < measure S
step_falls S S' h a b = omega (arith, (level_bounds S.regs a).0, (level_bounds S'.regs b).1)

module _ (Θ : Setup) where
  -- What a turn leaves, below a measure.
  pub data After (b : ℕ) (S : State) : Type 0 where
    after_halted : Halted Θ S → After b S
    after_now : {k : ℕ} {s : CState} {C : Conf} → Simulates Θ S k s C → measure S < b → After b S

  -- Instruction m at a place is about to make a step: control c under the frames F comes to the answer a.
  pub record Redexed (S : State) (k : ℕ) (s : CState) (m : ℕ) (P : Site) (A : Chain) (D : Slots) (c : Control) (F : Stack) (a : CAnswer) : Type 0 where
    pub place : InPlace Θ S k s m P A D
    pub pc : S.regs.pc ≡ m
    pub reach : Reach Θ.sound k s c F
    pub is : move c F Θ.given s ≡ reduces (framed (place_of P A) a) (stack_at P A D)

  -- The same, with frames enough.
  pub record Stepping (S : State) (k : ℕ) (s : CState) (m : ℕ) (P : Site) (A : Chain) (D : Slots) (c : Control) (F : Stack) (a : CAnswer) : Type 0 where
    pub place : InPlace Θ S k s m P A D
    pub pc : S.regs.pc ≡ m
    pub reach : Reach Θ.sound k s c F
    pub shallow : depth_at P A ≤ frame_limit
    pub is : move c F Θ.given s ≡ reduces a (stack_at P A D)

pub fits_in : {Θ : Setup} (M : Memory) (log : List ℕ) (r : Regs) (s : CState) → Store Θ M log (sizes r) s → Used r.pools s.used → r.pc ≤ code.return_pc → r.env < binding_places → r.kept + r.frames ≤ frame_slots → Fits (length Θ.log) r
fits_in M log r s st u p e h =
    record {
      pc = p;
      env = e;
      frames = omega arith;
      bindings = u.bindings.fits;
      cells = u.cells.fits;
      pieces = u.pieces.fits;
      labels = st.counts.labels_fit;
      installed = st.counts.advices_fit;
      kept = h;
      logged = st.written.log_fits;
    }

module _ {Θ : Setup} {S : State} {k : ℕ} {s : CState} {m : ℕ} {P : Site} {A : Chain} {D : Slots} where
  -- The machine halts, with the tables M: n was in the register of what is left.
  halts_with : InPlace Θ S k s m P A D → S.regs.pc ≡ m → (M : Memory) → Store Θ M S.log (sizes S.regs) s → (o : Outcome) (n k' : ℕ) → run Θ.budget Θ.given 0 fresh (root_term Θ) ≡ ended (stopped o) k' (unload_state s)
      → k' + (n - fuel_bias) ≡ Θ.budget → Halted Θ (with_memory M (halt_with (outcome_number o) n S.regs) S)
  halts_with p at M st o n k' e q =
      let small = Θ.says.few m p.no_atom in
      halted_stopped o refl refl e st p.common.used q (fits_in M S.log (halt_with (outcome_number o) n S.regs) s st p.common.used (omega (arith, at)) p.env_fits (omega (arith, p.frames, kept_fits Θ A p.kept)))

  -- Card 9: the half of the current domain is the one that the word names.
  quota_is : InPlace Θ S k s m P A D → quota_of (code_at Θ.program m) ≡ is_mainline (dom_at P)
  quota_is p = ap is_mainline ((Θ.says.around m p.no_atom).domain ∙ (describes Θ.linked p.located p.no_atom).dom)

module _ {Θ : Setup} {S : State} {k : ℕ} {s : CState} {m : ℕ} {P : Site} {A : Chain} {D : Slots} {c : Control} {F : Stack} where
  -- A room is missing, whatever is left of the budget.
  lacks : {a : CAnswer} (b : ℕ) (M : Memory) → Store Θ M S.log (sizes S.regs) s → (o : Outcome) → Redexed Θ S k s m P A D c F a → move c F Θ.given s ≡ reduces (at_capacity o) (stack_at P A D) → After Θ b (with_memory M (halting o S.regs) S)
  lacks b M st o R p =
      after_halted
      (halts_with R.place R.pc M st o S.regs.fuel k
      (ends_full Θ.sound k s c F R.reach Θ.budget (S.regs.fuel - fuel_bias) (omega (arith, R.place.common.budget, R.place.common.running)) o (stack_at P A D) p)
      (omega (arith, R.place.common.budget, R.place.common.running)))

  redexed : {a : CAnswer} → Stepping Θ S k s m P A D c F a → Redexed Θ S k s m P A D c F a
  unfolding by_capacity
  redexed {a} R = record { place = R.place; pc = R.pc; reach = R.reach; is = rw (le-leb (depth_at P A) frame_limit R.shallow) R.is }

  -- The step's own room is missing.
  pub no_capacity : {a : CAnswer} (b : ℕ) (M : Memory) → Store Θ M S.log (sizes S.regs) s → (o : Outcome) → Stepping Θ S k s m P A D c F a → a ≡ at_capacity o → After Θ b (with_memory M (halting o S.regs) S)
  no_capacity b M st o R q = lacks b M st o (redexed R) (R.is ∙ ap (λ (x : CAnswer). reduces x (stack_at P A D)) q)

  -- No room is missing: the step is made, if one is left.
  pub if_left_with : {a : CAnswer} (b : ℕ) (M : Memory) → Store Θ M S.log (sizes S.regs) s → (S' : State) → Stepping Θ S k s m P A D c F a → WithinCapacity a → (fuel_bias < S.regs.fuel → After Θ b S')
      → After Θ b (if_fuel (with_memory M S.regs S) S')
  if_left_with {a} b M st S' R q h = try (leb S.regs.fuel fuel_bias) refl
    where
      p : InPlace Θ S k s m P A D
      p = R.place

      try : (x : Bool) → leb S.regs.fuel fuel_bias ≡ x → After Θ b (choose x (with_memory M (halting Outcome.Spent S.regs) S) S')
      try true x =
          let l : S.regs.fuel ≤ fuel_bias = leb-true S.regs.fuel fuel_bias x in
          after_halted
          (halts_with p R.pc M st Outcome.Spent S.regs.fuel k
          (ends_spent Θ.sound k s c F R.reach Θ.budget 0 (omega (arith, p.common.budget, p.common.running)) refl a (stack_at P A D) R.is q) (omega (arith, p.common.budget, p.common.running)))
      try false x = h (leb-false S.regs.fuel fuel_bias x)

  pub if_left : {a : CAnswer} (b : ℕ) (S' : State) → Stepping Θ S k s m P A D c F a → (s' : CState) (c' : Control) → a ≡ reduct s' c' → (fuel_bias < S.regs.fuel → After Θ b S') → After Θ b (if_fuel S S')
  if_left {a} b S' R s' c' q h = if_left_with b S.memory R.place.common.store S' R (rw q refl) h

  pub if_capacity_there : {a : CAnswer} (b : ℕ) (t : Bool) (o : Outcome) (a' : CAnswer) (S' : State) (u : Bool) → u ≡ t → Stepping Θ S k s m P A D c F a → a ≡ by_capacity t o a'
      → (t ≡ true → Stepping Θ S k s m P A D c F a' → After Θ b (if_fuel S S')) → After Θ b (if_capacity u o S S')
  unfolding by_capacity
  if_capacity_there {a} b true o a' S' u e R q h =
      rw e (h refl (record { place = R.place; pc = R.pc; reach = R.reach; shallow = R.shallow; is = R.is ∙ ap (λ (x : CAnswer). reduces x (stack_at P A D)) q }))
  if_capacity_there b false o a' S' u e R q h = rw e (no_capacity b S.memory R.place.common.store o R q)

  -- Card 9: a step that takes some room at the current domain takes it of the half that the word names.
  pub if_bindings_lem : (b n : ℕ) (f : CState → CAnswer) (S' : State) → Stepping Θ S k s m P A D c F (spend (at_dom (dom_at P) (some_bindings n)) s f)
      → (whole S.regs.pools.bindings + n ≤ binding_places → Used (charge_bindings (quota_of (code_at Θ.program m)) n S.regs.pools) (add_uses s.used (at_dom (dom_at P) (some_bindings n)))
      → Stepping Θ S k s m P A D c F (f (with_uses (add_uses s.used (at_dom (dom_at P) (some_bindings n))) s)) → After Θ b (if_fuel S S'))
      → After Θ b (if_bindings (code_at Θ.program m) n S S')
  if_bindings_lem b n f S' R h =
      subst (λ (x : Bool). After Θ b (if_capacity (has_capacity binding_limit x n S.regs.pools.bindings) (bindings_out x) S S')) (sym (quota_is R.place))
      (if_capacity_there b _ _ _ S' _ (frames_is u.bindings (is_mainline (dom_at P)) n) R (spend_bindings s f (is_mainline (dom_at P)) n)
      (λ frames Q.
      let l = leb-true n _ frames in
      h (more_fits u.bindings (is_mainline (dom_at P)) n l)
      (subst (λ (x : Bool). Used (charge_bindings x n S.regs.pools) (add_uses s.used (at_dom (dom_at P) (some_bindings n)))) (sym (quota_is R.place)) (more_bindings u (is_mainline (dom_at P)) n l)) Q))
    where
      u : Used S.regs.pools s.used
      u = R.place.common.used

  pub if_pieces_lem : (b n : ℕ) (f : CState → CAnswer) (S' : State) → Stepping Θ S k s m P A D c F (spend (at_dom (dom_at P) (some_pieces n)) s f)
      → (whole S.regs.pools.pieces + n ≤ piece_places → Used (charge_pieces (quota_of (code_at Θ.program m)) n S.regs.pools) (add_uses s.used (at_dom (dom_at P) (some_pieces n)))
      → Stepping Θ S k s m P A D c F (f (with_uses (add_uses s.used (at_dom (dom_at P) (some_pieces n))) s)) → After Θ b (if_fuel S S'))
      → After Θ b (if_pieces (code_at Θ.program m) n S S')
  if_pieces_lem b n f S' R h =
      subst (λ (x : Bool). After Θ b (if_capacity (has_capacity piece_limit x n S.regs.pools.pieces) (pieces_out x) S S')) (sym (quota_is R.place))
      (if_capacity_there b _ _ _ S' _ (frames_is u.pieces (is_mainline (dom_at P)) n) R (spend_pieces s f (is_mainline (dom_at P)) n)
      (λ frames Q.
      let l = leb-true n _ frames in
      h (more_fits u.pieces (is_mainline (dom_at P)) n l)
      (subst (λ (x : Bool). Used (charge_pieces x n S.regs.pools) (add_uses s.used (at_dom (dom_at P) (some_pieces n)))) (sym (quota_is R.place)) (more_pieces u (is_mainline (dom_at P)) n l)) Q))
    where
      u : Used S.regs.pools s.used
      u = R.place.common.used

  pub if_cell : (b : ℕ) (f : CState → CAnswer) (S' : State) → Stepping Θ S k s m P A D c F (spend (at_dom (dom_at P) one_cell) s f)
      → (whole S.regs.pools.cells + 1 ≤ cell_places → Used (charge_cells (quota_of (code_at Θ.program m)) 1 S.regs.pools) (add_uses s.used (at_dom (dom_at P) one_cell))
      → Stepping Θ S k s m P A D c F (f (with_uses (add_uses s.used (at_dom (dom_at P) one_cell)) s)) → After Θ b (if_fuel S S'))
      → After Θ b (if_capacity (has_capacity cell_limit (quota_of (code_at Θ.program m)) 1 S.regs.pools.cells) (cells_out (quota_of (code_at Θ.program m))) S S')
  if_cell b f S' R h =
      subst (λ (x : Bool). After Θ b (if_capacity (has_capacity cell_limit x 1 S.regs.pools.cells) (cells_out x) S S')) (sym (quota_is R.place))
      (if_capacity_there b _ _ _ S' _ (frames_is u.cells (is_mainline (dom_at P)) 1) R (spend_cell s f (is_mainline (dom_at P)))
      (λ frames Q.
      let l = leb-true 1 _ frames in
      h (more_fits u.cells (is_mainline (dom_at P)) 1 l)
      (subst (λ (x : Bool). Used (charge_cells x 1 S.regs.pools) (add_uses s.used (at_dom (dom_at P) one_cell))) (sym (quota_is R.place)) (more_cells u (is_mainline (dom_at P)) l)) Q))
    where
      u : Used S.regs.pools s.used
      u = R.place.common.used

  -- Abort ends the run with its step, or is spent.
  pub aborts : (b : ℕ) → Stepping Θ S k s m P A D c F halt → After Θ b (if_fuel S (with_regs (halting Outcome.Aborted (stepped S.regs)) S))
  aborts b R =
      if_left_with b S.memory R.place.common.store (with_regs (halting Outcome.Aborted (stepped S.regs)) S) R refl
      (λ l. after_halted
      (halts_with R.place R.pc S.memory R.place.common.store Outcome.Aborted (S.regs.fuel - 1) (suc k)
      (ends_halt Θ.sound k s c F R.reach Θ.budget (S.regs.fuel - fuel_bias) (omega (arith, R.place.common.budget)) (stack_at P A D) (λ z. omega arith) R.is)
      (omega (arith, R.place.common.budget))))

  -- Frames come first.
  pub judged_now : {a : CAnswer} (b : ℕ) (S' : State) → Redexed Θ S k s m P A D c F a → (Stepping Θ S k s m P A D c F a → After Θ b S') → After Θ b (judged (code_at Θ.program m) S S')
  unfolding by_capacity
  judged_now {a} b S' R h = try (leb S.regs.frames (depth_of (code_at Θ.program m))) refl
    where
      p : InPlace Θ S k s m P A D
      p = R.place

      deep : depth_of (code_at Θ.program m) ≡ length P.skel
      deep = (Θ.says.around m p.no_atom).depth ∙ (describes Θ.linked p.located p.no_atom).depth

      enough_frames : (t : Bool) → leb (depth_at P A) frame_limit ≡ t → move c F Θ.given s ≡ reduces (by_capacity t Outcome.Frames a) (stack_at P A D)
      enough_frames t e = rw (← e) R.is

      try : (y : Bool) → leb S.regs.frames (depth_of (code_at Θ.program m)) ≡ y → After Θ b (choose y (with_regs (halting Outcome.Frames S.regs) S) S')
      try true q =
          let d : S.regs.frames ≤ depth_of (code_at Θ.program m) = leb-true S.regs.frames (depth_of (code_at Θ.program m)) q in
          lacks b S.memory p.common.store Outcome.Frames R (enough_frames false (lt-leb (depth_at P A) frame_limit (omega (arith, deep, p.frames))))
      try false q =
          let d : depth_of (code_at Θ.program m) < S.regs.frames = leb-false S.regs.frames (depth_of (code_at Θ.program m)) q in
          let u : depth_at P A ≤ frame_limit = omega (arith, deep, p.frames) in
          h (record { place = p; pc = R.pc; reach = R.reach; shallow = u; is = enough_frames true (le-leb (depth_at P A) frame_limit u) })

  -- No step goes wrong.
  pub no_way : {a : CAnswer} {X : Type 0} → Stepping Θ S k s m P A D c F a → a ≡ wrong → X
  no_way R q = absurd (not_wrong Θ.sound k s c F R.reach (stack_at P A D) (R.is ∙ ap (λ (x : CAnswer). reduces x (stack_at P A D)) q))
