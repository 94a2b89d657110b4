-- Where the machine stands: its registers, tables and slots are those of a configuration of threaded code that the run has reached.
use Prim.Native.Nat.{ℕ, suc, ◌+◌, ◌≤◌, ◌<◌}
use mathlib.Core.Path.{◌≡◌, refl}
use mathlib.Core.Bool.{Bool, true, false, true≢false}
use mathlib.Core.List.{◌∷◌}
use mathlib.Core.Option.{some}
use lib.ListN.{length}
use Rattle.calculus.specs.declared.Outcome.{Outcome}
use Rattle.calculus.specs.Combinators.{choose}
use Rattle.calculus.specs.Syntax.{Tm, val, var, lam, op0, op1, op2, seq, ite, split, pcd, adv, lower, obj, keep, match}
use Rattle.calculus.specs.State.{fresh}
use Rattle.calculus.specs.Report.{outcome_number}
use Rattle.calculus.specs.Run.{done, stopped, ended, run}
use Rattle.closure_machine.specs.Closure.{CVal, CState, unload_val, unload_state}
use Rattle.vm_theory.specs.Code.{Head, op1_h, seq_h, ite_h, split_h, adv_h, lower_h, Head2, op2_h, keep_h, Operand, acc, slot, in_place_term, Instr, back, nullary, one, two, many, one_b, first_b, second_b, Skel, is_atom, Pc, entry}
use Rattle.vm_theory.specs.Conf.{Site, Chain, Slots, Conf, base, kept_by, depth_at}
use Rattle.vm_theory.specs.Table.{Target, is_atom_at}
use Rattle.vm_theory.proofs.Invariant.{Invariant}
use Rattle.vm_theory.proofs.Places.{SiteInvariant, ChainInvariant}
use Rattle.vm_theory.proofs.Located.{Located, Points}
use Rattle.vm_theory.proofs.Kept.{Waits, IsChain}
use Rattle.vm_theory.specs.Says.{target_number}
use Rattle.vm_machine.specs.Registers.{fuel_bias, frame_slots}
use Rattle.vm_machine.specs.States.{State}
use Rattle.vm_machine.specs.Fits.{Fits}
use Rattle.vm_machine.specs.Memory.{binding_places}
use Rattle.vm_machine_correct.proofs.Setup.{Setup, root_term}
use Rattle.vm_machine_correct.proofs.Pools.{Used}
use Rattle.vm_machine_correct.proofs.Relations.{sizes, IsVal, IsEnv}
use Rattle.vm_machine_correct.proofs.Store.{Store}
use Rattle.vm_machine_correct.proofs.Keeping.{AreKept}
use Rattle.vm_machine_correct.proofs.Slots.{slot_of, Held, Back}

-- The operands that an instruction does not fetch in place: hw is the word at hand, hv its value; sw the word in the instruction's slot, sv its value.
module _ (Is : ℕ → CVal → Type 0) (hw : ℕ) (hv : CVal) (sw : ℕ) (sv : CVal) where
  abbrev pub Ready : Operand → Type 0
  Ready acc = Is hw hv
  Ready slot = Is sw sv
  Ready (in_place_term x) = Unit {0}

  abbrev pub ReadyFor : Instr → Type 0
  ReadyFor back = Is hw hv
  ReadyFor (nullary o t) = Unit {0}
  ReadyFor (one H a) = Ready a
  ReadyFor (two H a b) = Ready a × Ready b
  ReadyFor (many o es) = Unit {0}

  -- The first instruction of a term fetches all its operands in place.
  ready_one : (H : Head) (x : Tm) (σ : Skel) → (is_atom x ≡ false → ReadyFor (entry x (one_b H ∷ σ)).0) → ReadyFor (choose {A = Pc} (is_atom x) (one H (in_place_term x), σ) (entry x (one_b H ∷ σ))).0
  ready_one H x σ ih = try (is_atom x) refl
    where
      try : (b : Bool) → is_atom x ≡ b → ReadyFor (choose {A = Pc} b (one H (in_place_term x), σ) (entry x (one_b H ∷ σ))).0
      try true p = tt
      try false p = ih p

  ready_two : (H : Head2) (x y : Tm) (σ : Skel) → (is_atom x ≡ false → ReadyFor (entry x (first_b H y ∷ σ)).0) → (is_atom y ≡ false → ReadyFor (entry y (second_b H (some x) ∷ σ)).0)
      → ReadyFor (choose {A = Pc} (is_atom x) (choose {A = Pc} (is_atom y) (two H (in_place_term x) (in_place_term y), σ) (entry y (second_b H (some x) ∷ σ))) (entry x (first_b H y ∷ σ))).0
  ready_two H x y σ ihx ihy = try (is_atom x) refl (is_atom y) refl
    where
      try : (b : Bool) → is_atom x ≡ b → (c : Bool) → is_atom y ≡ c
          → ReadyFor (choose {A = Pc} b (choose {A = Pc} c (two H (in_place_term x) (in_place_term y), σ) (entry y (second_b H (some x) ∷ σ))) (entry x (first_b H y ∷ σ))).0
      try true q true r = (tt, tt)
      try true q false r = ihy r
      try false q c r = ihx q

  pub entry_ready : (e : Tm) (σ : Skel) → is_atom e ≡ false → ReadyFor (entry e σ).0
  unfolding entry
  entry_ready (val v) σ p = absurd (true≢false p)
  entry_ready (var i) σ p = absurd (true≢false p)
  entry_ready (lam t b) σ p = absurd (true≢false p)
  entry_ready (op0 o t) σ p = tt
  entry_ready (op1 o t x) σ p = ready_one (op1_h o t) x σ (entry_ready x (one_b (op1_h o t) ∷ σ))
  entry_ready (op2 o t x y) σ p = ready_two (op2_h o t) x y σ (entry_ready x (first_b (op2_h o t) y ∷ σ)) (entry_ready y (second_b (op2_h o t) (some x) ∷ σ))
  entry_ready (seq x f) σ p = ready_one (seq_h f) x σ (entry_ready x (one_b (seq_h f) ∷ σ))
  entry_ready (ite x f g) σ p = ready_one (ite_h f g) x σ (entry_ready x (one_b (ite_h f g) ∷ σ))
  entry_ready (split x f) σ p = ready_one (split_h f) x σ (entry_ready x (one_b (split_h f) ∷ σ))
  entry_ready (pcd es) σ p = tt
  entry_ready (adv q x b) σ p = ready_one (adv_h q b) x σ (entry_ready x (one_b (adv_h q b) ∷ σ))
  entry_ready (lower q x) σ p = ready_one (lower_h q) x σ (entry_ready x (one_b (lower_h q) ∷ σ))
  entry_ready (obj t bs) σ p = absurd (true≢false p)
  entry_ready (keep x y g) σ p = ready_two (keep_h g) x y σ (entry_ready x (first_b (keep_h g) y ∷ σ)) (entry_ready y (second_b (keep_h g) (some x) ∷ σ))
  entry_ready (match q es f g) σ p = tt

module _ (Θ : Setup) where
  -- What holds of tables, log and budget between two instructions, after k steps of the budget N.
  pub record Common (S : State) (k : ℕ) (s : CState) : Type 0 where
    pub budget : k + S.regs.fuel ≡ Θ.budget + fuel_bias
    pub running : fuel_bias ≤ S.regs.fuel
    pub store : Store Θ S.memory S.log (sizes S.regs) s
    pub used : Used S.regs.pools s.used

  -- The machine is at a place of an activation: instruction m is there, its operands aside.
  pub record InPlace (S : State) (k : ℕ) (s : CState) (m : ℕ) (P : Site) (A : Chain) (D : Slots) : Type 0 where
    pub common : Common S k s
    pub no_atom : is_atom_at Θ.table m ≡ false
    pub located : Located Θ.linked m P.skel P.dom
    pub stood : SiteInvariant P A
    pub fine : ChainInvariant A
    pub env : IsEnv Θ S.memory (sizes S.regs) S.regs.env P.env
    pub env_fits : S.regs.env < binding_places
    pub frames : S.regs.frames + base A ≡ frame_slots
    pub waits : Waits Θ.linked (Held Θ S.memory (sizes S.regs)) D P.skel (base A)
    pub chain : IsChain Θ.linked (Held Θ S.memory (sizes S.regs)) (Back Θ S.memory (sizes S.regs)) D A
    pub kept : AreKept Θ S.memory (sizes S.regs) S.regs.kept (kept_by A)

  -- It is about to run an instruction.
  pub record Simulates (S : State) (k : ℕ) (s : CState) (C : Conf) : Type 0 where
    pub common : Common S k s
    pub good : Invariant Θ.sound k s C
    pub target : Target
    pub pc : S.regs.pc ≡ target_number target
    pub points : Points Θ.linked C.site.dom target (C.instr, C.site.skel)
    pub env : IsEnv Θ S.memory (sizes S.regs) S.regs.env C.site.env
    pub env_fits : S.regs.env < binding_places
    pub frames : S.regs.frames + base C.chain ≡ frame_slots
    pub ready : ReadyFor (IsVal Θ S.memory (sizes S.regs)) S.regs.acc C.acc (slot_of S.memory (suc (depth_at C.site C.chain))) (C.slots (suc (depth_at C.site C.chain))) C.instr
    pub waits : Waits Θ.linked (Held Θ S.memory (sizes S.regs)) C.slots C.site.skel (base C.chain)
    pub chain : IsChain Θ.linked (Held Θ S.memory (sizes S.regs)) (Back Θ S.memory (sizes S.regs)) C.slots C.chain
    pub kept : AreKept Θ S.memory (sizes S.regs) S.regs.kept (kept_by C.chain)

  -- The run has ended, and the machine with it.
  pub data Halted (S : State) : Type 0 where
    halted_done : {k : ℕ} {s : CState} {v : CVal} → S.regs.fuel ≡ 0 → S.regs.outcome ≡ 0 → run Θ.budget Θ.given 0 fresh (root_term Θ) ≡ ended (done (unload_val v)) k (unload_state s)
        → Store Θ S.memory S.log (sizes S.regs) s → Used S.regs.pools s.used → IsVal Θ S.memory (sizes S.regs) S.regs.acc v → k + S.regs.rest ≡ Θ.budget → Fits (length Θ.log) S.regs → Halted S
    halted_stopped : {k : ℕ} {s : CState} (o : Outcome) → S.regs.fuel ≡ 0 → S.regs.outcome ≡ outcome_number o → run Θ.budget Θ.given 0 fresh (root_term Θ) ≡ ended (stopped o) k (unload_state s)
        → Store Θ S.memory S.log (sizes S.regs) s → Used S.regs.pools s.used → k + S.regs.rest ≡ Θ.budget → Fits (length Θ.log) S.regs → Halted S
