-- The theorem of the machine: from any tables that are long enough its run halts, and it ends as the calculus's run of the root's term does; its registers fit at every turn.
use Prim.Native.Nat.{ℕ, zero, suc, ◌+◌, ◌%◌, ◌≤◌, ◌<◌}
use native.Mathlib.Omega.{arith}
use mathlib.Core.Path.{◌≡◌, refl}
use mathlib.Core.Bool.{Bool, true, false}
use mathlib.Core.List.{List, []}
use mathlib.Core.Option.{none-ne-some}
use lib.ListN.{length}
use borrow.Author.Tests.{eq-eqb, ne_eqb, le-leb, lt-leb}
use Rattle.calculus.specs.Combinators.{choose}
use Rattle.calculus.specs.Syntax.{Dom}
use Rattle.calculus.specs.State.{fresh, picked}
use Rattle.calculus.specs.Run.{run}
use Rattle.closure_machine.specs.Closure.{CVal, Body, empty, CState}
use Rattle.vm_theory.specs.Code.{atom_of, Pc}
use Rattle.vm_theory.specs.Conf.{Slots, Conf, body, complete, begin}
use Rattle.vm_theory.specs.Conf.{start}
use Rattle.vm_theory.specs.Table.{Target, caller, to, is_atom_at}
use Rattle.vm_theory.proofs.Reach.{reach_start}
use Rattle.vm_theory.proofs.Bound.{bound_tm}
use Rattle.vm_theory.proofs.Located.{Points, p_caller, p_to, l_root, entry_points}
use Rattle.vm_theory.proofs.Arrive.{entry_has}
use Rattle.vm_theory.proofs.Invariant.{Invariant, start_good}
use Rattle.vm_code.specs.Words.{is_instruction, term_count}
use Rattle.vm_code.specs.Words as code
use Rattle.vm_theory.specs.Says.{target_number, SaysTarget}
use Rattle.vm_machine.specs.Registers.{fuel_bias}
use Rattle.vm_machine.specs.Memory.{Memory, no_binding}
use Rattle.vm_machine.specs.States.{State}
use Rattle.vm_machine.specs.Fetch.{code_at, atom_value}
use Rattle.vm_machine.specs.Turn.{turn}
use Rattle.vm_pools.specs.Pools.{none_used}
use Rattle.vm_machine.specs.Run.{start_regs, start_state, has_halted, turns, turns_for, run_from, vm_run}
use Rattle.vm_machine.specs.Fits.{Fits, Safe}
use Rattle.base_bytes.specs.Memory.{word_count, beside_count}
use Rattle.vm_machine_correct.proofs.Setup.{Setup, root_term}
use Rattle.vm_machine_correct.proofs.Pools.{IsPool, Used}
use Rattle.vm_machine_correct.proofs.Relations.{sizes, IsVal, is_empty}
use Rattle.vm_machine_correct.proofs.Store.{log_bytes, Store, none_installed}
use Rattle.vm_machine_correct.proofs.Keeping.{none_kept, kept_fits}
use Rattle.vm_machine_correct.proofs.Slots.{Held}
use Rattle.vm_machine_correct.proofs.Simulation.{entry_ready, Common, Simulates, Halted, halted_done, halted_stopped}
use Rattle.vm_machine_correct.proofs.Fetch.{atom_is}
use Rattle.vm_machine_correct.proofs.Arrives.{instruction_of}
use Rattle.vm_machine_correct.proofs.Steps.{measure, level_bounds, After, after_halted, after_now, fits_in}
use Rattle.vm_machine_correct.proofs.Turn.{turn_now}
use Rattle.vm_machine_correct.proofs.Ends.{VmEnds, halted_ends}

module _ (Θ : Setup) where
  abbrev frame : List ℕ
  frame = Θ.given.frame

  abbrev Halting : State → Type 0
  Halting S = Halted Θ S

  abbrev Standing : State → ℕ → CState → Conf → Type 0
  Standing S k s E = Simulates Θ S k s E

  abbrev Comes : ℕ → State → Type 0
  Comes b S = After Θ b S

  -- Whether it has halted.
  has_halted_lem : {S : State} → Halting S → has_halted S ≡ true
  has_halted_lem {S} (halted_done m o e st y iv b f) = eq-eqb S.regs.fuel 0 m
  has_halted_lem {S} (halted_stopped o m n e st y b f) = eq-eqb S.regs.fuel 0 m

  goes_on : {S : State} {k : ℕ} {s : CState} {E : Conf} → Standing S k s E → has_halted S ≡ false
  goes_on {S} now = ne_eqb S.regs.fuel 0 (λ e. omega (arith, now.common.running))

  -- Its registers fit.
  halted_fits : {S : State} → Halting S → Fits (length Θ.log) S.regs
  halted_fits (halted_done m o e st y iv b f) = f
  halted_fits (halted_stopped o m n e st y b f) = f

  number_fits : {c : Dom} {g : Target} {E : Pc} → Points Θ.linked c g E → target_number g ≤ code.return_pc
  number_fits p_caller = omega arith
  number_fits (p_to m i n q l) = omega (arith, Θ.says.few m n)

  now_fits : {S : State} {k : ℕ} {s : CState} {E : Conf} → Standing S k s E → Fits (length Θ.log) S.regs
  now_fits {S} {s = s} {E} now =
      fits_in S.memory S.log S.regs s now.common.store now.common.used (omega (arith, now.pc, number_fits now.points)) now.env_fits (omega (arith, now.frames, kept_fits Θ E.chain now.kept))

  -- As many turns as the measure says are enough, and each leaves registers that fit.
  pub halts : (n b : ℕ) (S : State) → Comes b S → b ≤ n → Halting (turns n Θ.program frame S)
  unfolding turns
  halts zero b S (after_halted h) l = h
  halts zero b S (after_now now m) l = absurd (omega arith)
  halts (suc n) b S (after_halted h) l = rw (has_halted_lem h) h
  halts (suc n) b S (after_now {k = k} {s = s} now m) l = rw (goes_on now) (halts n (measure S) (turn Θ.program frame S) (turn_now Θ S k s now) (omega arith))

  pub all_fit : (n b : ℕ) (S : State) → Comes b S → Fits (length Θ.log) (turns n Θ.program frame S).regs
  unfolding turns
  all_fit zero b S (after_halted h) = halted_fits h
  all_fit zero b S (after_now now m) = now_fits now
  all_fit (suc n) b S (after_halted h) = rw (has_halted_lem h) (halted_fits h)
  all_fit (suc n) b S (after_now {k = k} {s = s} now m) = rw (goes_on now) (all_fit n (measure S) (turn Θ.program frame S) (turn_now Θ S k s now))

  module _ (M : Memory) (words : word_count ≤ length M.words) (beside : beside_count ≤ length M.beside) (g : ℕ) (target : SaysTarget Θ.table g Θ.root) where
    -- The tables at the start stand for the calculus's first state.
    start_store : (pc v : ℕ) → Store Θ M Θ.log (sizes (start_regs pc v Θ.budget)) fresh
    unfolding log_bytes picked
    start_store pc v =
        record {
          words = words;
          beside = beside;
          counts = omega arith;
          are_cells = λ i c e. absurd (none-ne-some _ e);
          are_advices = none_installed;
          written = record { logged = refl; log_at = refl; log_fits = omega arith };
        }

    start_pool : {limit : ℕ} → IsPool limit none_used 0 0
    start_pool = record { mainline = refl; others = refl; fits = record { mainline = omega arith; others = omega arith } }

    start_used : Used (start_regs 0 0 Θ.budget).pools (fresh {H = CVal} {B = Body}).used
    start_used = record { bindings = start_pool; cells = start_pool; pieces = start_pool }

    abbrev S₀ : State
    S₀ = start_state Θ.program g Θ.budget M Θ.log

    abbrev at : ℕ → ℕ → State
    at pc v = record { memory = M; log = Θ.log; regs = start_regs pc v Θ.budget }

    no_slots : Slots
    no_slots i = CVal.unit

    start_common : (pc v : ℕ) → Common Θ (at pc v) 0 fresh
    start_common pc v = record { budget = omega arith; running = omega arith; store = start_store pc v; used = start_used }

    -- The root is begun: its value is at hand at once, or its first instruction is to be run.
    started : Standing S₀ 0 fresh (start (root_term Θ))
    unfolding no_slots
    started = try (is_atom_at Θ.table Θ.root) refl (start_good Θ.sound)
      where
        target_when : (b : Bool) → is_atom_at Θ.table Θ.root ≡ b → g ≡ choose b Θ.root (term_count + Θ.table.entry Θ.root)
        target_when b a = rw (← a) target.0

        try : (b : Bool) → is_atom_at Θ.table Θ.root ≡ b → Invariant Θ.sound 0 fresh (choose b (complete (atom_of (root_term Θ) empty) (body empty 0) [] no_slots) (begin (root_term Θ) (body empty 0) [] no_slots))
            → Standing S₀ 0 fresh (choose b (complete (atom_of (root_term Θ) empty) (body empty 0) [] no_slots) (begin (root_term Θ) (body empty 0) [] no_slots))
        try true a good =
            let t : is_instruction g ≡ false = lt-leb term_count g (omega (arith, target_when true a, target.1)) in
            let i : g % term_count ≡ Θ.root = omega (arith, target_when true a, target.1) in
            let v : ℕ = atom_value Θ.program M no_binding (code_at Θ.program Θ.root) in
            rw (t, i)
            (record {
              common = start_common code.return_pc v;
              good = good;
              target = caller;
              pc = refl;
              points = p_caller;
              env = is_empty;
              env_fits = omega arith;
              frames = omega arith;
              ready = atom_is Θ M (sizes (start_regs code.return_pc v Θ.budget)) no_binding empty is_empty (omega arith) Θ.root target.1 a l_root (bound_tm Θ.sound 0 fresh (root_term Θ) empty [] (reach_start Θ.sound));
              waits = tt;
              chain = tt;
              kept = none_kept;
            })
        try false a good =
            let points = entry_points Θ.linked Θ.root [] 0 a l_root in
            let few : Θ.table.entry Θ.root < term_count = Θ.says.few (Θ.table.entry Θ.root) (instruction_of Θ points) in
            let t : is_instruction g ≡ true = le-leb term_count g (omega (arith, target_when false a)) in
            let i : g % term_count ≡ Θ.table.entry Θ.root = omega (arith, target_when false a) in
            let z = sizes (start_regs (Θ.table.entry Θ.root) 0 Θ.budget) in
            rw (t, i)
            (record {
              common = start_common (Θ.table.entry Θ.root) 0;
              good = good;
              target = to (Θ.table.entry Θ.root);
              pc = refl;
              points = points;
              env = is_empty;
              env_fits = omega arith;
              frames = omega arith;
              ready = entry_ready (IsVal Θ M z) 0 CVal.unit _ _ (root_term Θ) [] a;
              waits = entry_has Θ.linked (Held Θ M z) no_slots 0 (root_term Θ) [] tt;
              chain = tt;
              kept = none_kept;
            })

    start_left : S₀.regs.fuel ≡ Θ.budget + fuel_bias
    start_left = try (is_instruction g)
      where
        try : (b : Bool) → (choose b (start_regs (g % term_count) 0 Θ.budget) (start_regs code.return_pc (atom_value Θ.program M no_binding (code_at Θ.program (g % term_count))) Θ.budget)).fuel ≡ Θ.budget + fuel_bias
        try true = refl
        try false = refl

    comes : Comes (turns_for Θ.budget) S₀
    comes = after_now started (omega (arith, start_left, (level_bounds S₀.regs (omega (arith, started.frames))).1))

    pub vm_runs : VmEnds Θ (vm_run Θ.program frame g Θ.budget M Θ.log) (run Θ.budget Θ.given 0 fresh (root_term Θ))
    unfolding vm_run run_from
    vm_runs = halted_ends Θ (vm_run Θ.program frame g Θ.budget M Θ.log) (halts (turns_for Θ.budget) (turns_for Θ.budget) S₀ comes (omega arith))

    pub vm_safe : Safe Θ.program frame (turns_for Θ.budget) S₀
    vm_safe = record { fits = λ n. all_fit n (turns_for Θ.budget) S₀ comes; halts = has_halted_lem (halts (turns_for Θ.budget) (turns_for Θ.budget) S₀ comes (omega arith)) }
