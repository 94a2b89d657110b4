-- After a step: a value is given, a term goes on, or a body is called.
use Prim.Native.Nat.{ℕ, suc, ◌+◌, ◌-◌, ◌%◌, ◌≤◌, ◌<◌}
use native.Mathlib.Omega.{arith}
use mathlib.Core.Path.{◌≡◌, refl, sym, ap, subst, ◌∙◌}
use mathlib.Core.Bool.{Bool, true, false}
use mathlib.Core.List.{List}
use lib.ListN.{get_or}
use Rattle.calculus.specs.Combinators.{choose}
use Rattle.calculus.specs.Syntax.{Dom, Tm}
use Rattle.calculus.specs.Answer.{reduct}
use Rattle.closure_machine.specs.Closure.{CVal, Env, CState}
use Rattle.closure_machine.specs.Machine.{Control, eval, ret, Stack, CAnswer, reduces}
use Rattle.vm_theory.specs.Conf.{Site, Chain, Slots, Conf, base, kept_by, dom_at}
use Rattle.vm_theory.specs.Stands.{stack_at}
use Rattle.vm_theory.proofs.Reach.{reach_go}
use Rattle.vm_theory.proofs.Located.{Located}
use Rattle.vm_theory.proofs.Kept.{chain_kept, waits_kept}
use Rattle.vm_code.specs.Words.{is_instruction, term_count}
use Rattle.vm_theory.specs.Says.{SaysTarget}
use Rattle.vm_machine.specs.declared.Regs.{Regs}
use Rattle.vm_machine.specs.Registers.{fuel_bias, frame_slots, set_pc}
use Rattle.vm_machine.specs.Memory.{Memory, slot_base, kept_at, binding_places}
use Rattle.vm_machine.specs.States.{State, with_regs, if_fuel, completed, entered}
use Rattle.vm_machine.specs.Fetch.{Program, code_at, atom_value, gone_to, called}
use Rattle.vm_machine_correct.proofs.Setup.{Setup}
use Rattle.vm_machine_correct.proofs.Pools.{Used}
use Rattle.vm_machine_correct.proofs.Relations.{sizes, IsBody, IsVal, IsEnv, env_at, env_grows, Grows}
use Rattle.vm_machine_correct.proofs.Tables.{SameSlots}
use Rattle.vm_machine_correct.proofs.Store.{Store}
use Rattle.vm_machine_correct.proofs.Keeping.{AreKept, kept_grows}
use Rattle.vm_machine_correct.proofs.Slots.{slot_of, slot_same, Held, Back, held_kept, same_to}
use Rattle.vm_machine_correct.proofs.Simulation.{InPlace, Simulates}
use Rattle.vm_machine_correct.proofs.Arrives.{completed_now, gone_now, called_now}
use Rattle.vm_machine_correct.proofs.Steps.{measure, After, after_now, Stepping, step_falls, if_left}

-- What is left of the budget is not touched where an instruction ends.
gone_left : (C : Program) (w g : ℕ) (S : State) → (gone_to C w g S).regs.fuel ≡ S.regs.fuel
gone_left C w g S = try (is_instruction g)
  where
    try : (b : Bool) → (choose b (with_regs (set_pc (g % term_count) S.regs) S) (completed w (atom_value C S.memory S.regs.env (code_at C (g % term_count))) S)).regs.fuel ≡ S.regs.fuel
    try true = refl
    try false = refl

called_left : (C : Program) (w g env : ℕ) (S : State) → (called C w g env S).regs.fuel ≡ S.regs.fuel
called_left C w g env S = try (is_instruction g)
  where
    try : (b : Bool) → (choose b (entered w (g % term_count) env S) (completed w (atom_value C S.memory env (code_at C (g % term_count))) S)).regs.fuel ≡ S.regs.fuel
    try true = refl
    try false = refl

-- The registers that a step leaves as they were, and the budget.
pub record SteppedFrom (r q : Regs) : Type 0 where
  pub env : q.env ≡ r.env
  pub frames : q.frames ≡ r.frames
  pub fuel : q.fuel ≡ r.fuel - 1
  pub pc : q.pc ≡ r.pc
  pub kept : q.kept ≡ r.kept

module _ (Θ : Setup) (S : State) (k : ℕ) (s : CState) (m : ℕ) (P : Site) (A : Chain) (D : Slots) (c : Control) (F : Stack) where
  -- A state with other tables, log and registers that a step left, at the same place.
  pub record Left (M' : Memory) (log' : List ℕ) (q : Regs) (s' : CState) : Type 0 where
    pub regs : SteppedFrom S.regs q
    pub store : Store Θ M' log' (sizes q) s'
    pub used : Used q.pools s'.used
    pub grows : Grows S.memory (sizes S.regs) M' (sizes q)
    pub slots : SameSlots S.memory M'
    pub keeps : (i : ℕ) → kept_at M' i ≡ kept_at S.memory i

-- Of a step, which says itself where it is made, and of what it left.
module _ {Θ : Setup} {S : State} {k : ℕ} {s : CState} {m : ℕ} {P : Site} {A : Chain} {D : Slots} {c : Control} {F : Stack} {a : CAnswer} (R : Stepping Θ S k s m P A D c F a) (M' : Memory)
    (log' : List ℕ) (q : Regs) (s' : CState) (l : Left Θ S k s m P A D c F M' log' q s') where
  abbrev S' : State
  S' = record { memory = M'; log = log'; regs = q }

  p : InPlace Θ S k s m P A D
  p = R.place

  same_slot : (i : ℕ) → i ≤ frame_slots → slot_of M' i ≡ slot_of S.memory i
  same_slot i g = slot_same S.memory M' i (λ h. l.slots.word (slot_base + frame_slots - i) (omega arith) (omega arith))

  pub still : fuel_bias < S.regs.fuel → InPlace Θ S' (suc k) s' m P A D
  still more =
      record {
        common = record { budget = omega (arith, l.regs.fuel, p.common.budget); running = omega (arith, l.regs.fuel); store = l.store; used = l.used };
        no_atom = p.no_atom;
        located = p.located;
        stood = p.stood;
        fine = p.fine;
        env = env_at Θ M' (sizes q) l.regs.env (env_grows Θ S.memory (sizes S.regs) M' (sizes q) l.grows p.env);
        env_fits = omega (arith, l.regs.env, p.env_fits);
        frames = omega (arith, l.regs.frames, p.frames);
        waits =
            waits_kept Θ.linked (Held Θ S.memory (sizes S.regs)) (Back Θ S.memory (sizes S.regs)) D (Held Θ M' (sizes q)) (Back Θ M' (sizes q)) D P.skel (base A)
            (λ i h v x. held_kept Θ S.memory (sizes S.regs) M' (sizes q) l.grows i (same_slot i (omega (arith, R.shallow))) v x) (λ i h. refl) p.waits;
        chain =
            chain_kept Θ.linked (Held Θ S.memory (sizes S.regs)) (Back Θ S.memory (sizes S.regs)) D (Held Θ M' (sizes q)) (Back Θ M' (sizes q)) D A
            (same_to Θ S.memory (sizes S.regs) M' (sizes q) l.grows (base A) D D (λ i h. same_slot i (omega (arith, R.shallow))) (λ i h. ap (λ (x : List ℕ). get_or x (frame_slots - i) 0) l.slots.byte) (λ i h. refl)) p.chain;
        kept = subst (λ (n : ℕ). AreKept Θ M' (sizes q) n (kept_by A)) (sym l.regs.kept) (kept_grows Θ l.grows l.keeps p.kept);
      }

  pub falls : fuel_bias < S.regs.fuel → {S'' : State} {s'' : CState} {E : Conf} → S''.regs.fuel ≡ q.fuel → Simulates Θ S'' (suc k) s'' E → After Θ (measure S) S''
  falls more {S''} e n = after_now n (step_falls S S'' (omega (arith, l.regs.fuel)) (omega (arith, p.frames)) (omega (arith, n.frames)))

  -- A value is given.
  pub gives : (x : ℕ) (v : CVal) → a ≡ reduct s' (ret v) → IsVal Θ M' (sizes q) x v → After Θ (measure S) (if_fuel S (completed (code_at Θ.program m) x S'))
  gives x v e is =
      if_left (measure S) (completed (code_at Θ.program m) x S') R s' (ret v) e
      (λ more. falls more refl
      (completed_now Θ S' (suc k) s' m P A D (still more) (omega (arith, R.shallow)) x v is
      (reach_go Θ.sound k s c F R.reach s' (ret v) (stack_at P A D) (R.is ∙ ap (λ (y : CAnswer). reduces y (stack_at P A D)) e))))

  -- The place goes on with the term f.
  pub goes_on : (g f : ℕ) → SaysTarget Θ.table g f → Located Θ.linked f P.skel P.dom → a ≡ reduct s' (eval (Θ.table.term f) P.env) → After Θ (measure S) (if_fuel S (gone_to Θ.program (code_at Θ.program m) g S'))
  goes_on g f t i e =
      if_left (measure S) (gone_to Θ.program (code_at Θ.program m) g S') R s' (eval (Θ.table.term f) P.env) e
      (λ more. falls more (gone_left Θ.program (code_at Θ.program m) g S')
      (gone_now Θ S' (suc k) s' m P A D (still more) (omega (arith, R.shallow)) g f t i
      (reach_go Θ.sound k s c F R.reach s' (eval (Θ.table.term f) P.env) (stack_at P A D) (R.is ∙ ap (λ (y : CAnswer). reduces y (stack_at P A D)) e))))

  -- A body is called.
  pub calls : (g env : ℕ) (b : Tm) (d : Dom) (ρ : Env) → IsBody Θ g b d → IsEnv Θ M' (sizes q) env ρ → env < binding_places → d ≡ dom_at P → a ≡ reduct s' (eval b ρ)
      → After Θ (measure S) (if_fuel S (called Θ.program (code_at Θ.program m) g env S'))
  calls g env b d ρ i j fits same e =
      if_left (measure S) (called Θ.program (code_at Θ.program m) g env S') R s' (eval b ρ) e
      (λ more. falls more (called_left Θ.program (code_at Θ.program m) g env S')
      (called_now Θ S' (suc k) s' m P A D (still more) (omega (arith, R.shallow)) g env b d ρ i j fits same (l.regs.pc ∙ R.pc)
      (reach_go Θ.sound k s c F R.reach s' (eval b ρ) (stack_at P A D) (R.is ∙ ap (λ (y : CAnswer). reduces y (stack_at P A D)) e))))
