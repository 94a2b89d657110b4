-- A body's value comes back: to no one, to a call or split, to a mark, to a pointcut.
use Prim.Native.Nat.{ℕ, suc, ◌+◌, ◌-◌, ◌*◌, ◌%◌, ◌≤◌, ◌<◌}
use native.Mathlib.Omega.{arith}
use native.Mathlib.Nat.{mod-eq_of_lt}
use mathlib.Core.Path.{◌≡◌, refl, sym, ap, subst, ◌∙◌}
use mathlib.Core.Bool.{Bool, true, false, ◌&&◌}
use mathlib.Core.List.{List, [], ◌∷◌, ◌++◌, map, reverse, nil≢cons}
use lib.ListN.{length, get_or, drop, length-append}
use lib.Dec.{eqb, ltb, leb}
use borrow.Author.Tests.{eqb-true, eqb-false, eq-eqb, ne_eqb, ltb-true, ltb-false, lt-ltb, le-ltb, le-leb, lt-leb}
use Rattle.calculus.specs.declared.Outcome.{Outcome}
use Rattle.calculus.specs.Limits.{frame_limit, label_limit}
use Rattle.calculus.specs.Combinators.{choose}
use Rattle.calculus.specs.Syntax.{Dom, Tm, Tms, Pattern}
use Rattle.calculus.specs.State.{Advice, fresh}
use Rattle.calculus.specs.Run.{stopped, ended, run}
use Rattle.calculus.specs.Report.{outcome_number}
use Rattle.calculus.specs.Answer.{reduct, with}
use Rattle.image.specs.Limits.{pointcut_limit}
use Rattle.closure_machine.specs.Closure.{CVal, Env, Body, CState, unload_val, unload_state}
use Rattle.closure_machine.specs.Machine.{ret, triggered, pcd_n, match_n, op_nf, triggered_f, Stack, reduces, move, reduce_seq_c}
use Rattle.vm_theory.specs.Code.{back, Pc}
use Rattle.vm_theory.specs.Conf.{Site, call_a, advice_a, rest_a, many_a, keep_a, Chain, Slots, Conf, base, kept_by, depth_at, body, trigger}
use Rattle.vm_theory.specs.Stands.{stack_of, stack_at}
use Rattle.vm_theory.specs.Table.{Node, many_n, pcd_m, match_m, Target, terms_of}
use Rattle.vm_theory.proofs.Debt.{paid_none}
use Rattle.vm_theory.proofs.Reach.{Reach, reach_moves, reach_go, reach_label, reach_cut, redex_due, ends_over, ends_spent}
use Rattle.vm_theory.proofs.Places.{SiteInvariant, ChainInvariant}
use Rattle.vm_theory.proofs.Located.{Points, p_caller, p_to, describes}
use Rattle.vm_theory.proofs.Kept.{Kept, a_call, one_advice, some_operands, Slot, IsChain}
use Rattle.vm_theory.proofs.Inside.{next_inside}
use Rattle.vm_code.specs.Values.{body_of}
use Rattle.vm_code.specs.Words.{class_of, depth_of, next_of, term_count, count_size}
use Rattle.vm_code.specs.Words as code
use Rattle.vm_code.specs.Classes.{pointcut_class, match_class}
use Rattle.vm_theory.specs.Says.{target_number, Says, says_pointcut, says_match}
use Rattle.vm_machine.specs.declared.Regs.{Regs}
use Rattle.vm_machine.specs.Registers.{fuel_bias, frame_slots, set_pc, set_acc, set_env, set_frames, set_fuel, halt_with, halt, stuck}
use Rattle.vm_machine.specs.Memory.{Memory, word_at, slot_base, slot_in, slot_at, slot_pc, slot_env, slot_held, call_frame, advice_frame, pointcut_frame, next_binding, end_binding, put_advice, binding_at, bound_target, digits_at, digit_count, with_digit, held_stack, beside_at_of, rest_of, binding_places, held_size}
use Rattle.vm_machine.specs.States.{State, with_regs, with_memory, completed}
use Rattle.vm_machine.specs.Fetch.{code_at}
use Rattle.vm_machine.specs.Reduce.{body_at, next_advice}
use Rattle.vm_machine.specs.Stacks.{unlooked, past_cut, looked_with, stack_to_come, rest_after}
use Rattle.vm_machine.specs.Turn.{entries_from, labels_from, resume_labels, resume_match, resumed, returned, turn}
use Rattle.vm_machine_correct.proofs.Setup.{Setup, root_term}
use Rattle.vm_machine_correct.proofs.Caller.{caller_done, caller_call, caller_advice, caller_pointcut, caller_keep}
use Rattle.vm_machine_correct.proofs.Relations.{Sizes, sizes, is_unit, IsEnv, env_used, env_grows, IsTriggered, no_more, one_left, triggered_at}
use Rattle.vm_machine_correct.proofs.Views.{AsLabel, one_label, no_label, as_label, AsPointcut, a_pointcut, no_pointcut, as_pointcut}
use Rattle.vm_machine_correct.proofs.Labels.{digits_of, one_more, with_digit_lem, digit_count_lem}
use Rattle.vm_machine_correct.proofs.Keeping.{AreKept, kept_left, kept_fits}
use Rattle.vm_machine_correct.proofs.Keeps.{leave_now}
use Rattle.vm_machine_correct.proofs.Slots.{slot_of, byte_of, slot_word_lem, FrameIs, LabelsAre, MatchIs, stack_to_come_lem, entries_looked, Held, Back}
use Rattle.vm_machine_correct.proofs.Simulation.{InPlace, Simulates, Halted, halted_done, halted_stopped}
use Rattle.vm_machine_correct.proofs.Arrives.{completed_now}
use Rattle.vm_machine_correct.proofs.Steps.{level, measure, After, after_halted, after_now, fits_in, step_falls}
use Rattle.vm_machine_correct.proofs.Advice.{stack_depth, body_unit, advised}
use Rattle.vm_machine_correct.proofs.Mark.{frame_grows, frame_store, frame_kept, frame_chain}
use Rattle.vm_machine_correct.proofs.Labelling.{some_done}
use Rattle.vm_machine_correct.proofs.Pointcuts.{labels_now}
use Rattle.vm_machine_correct.proofs.Looking.{has_top, hits_top, rest_c, Looked, nothing_yet, past_pointcut, one_operand_more}
use Rattle.vm_machine_correct.proofs.Looks.{rest_is, rest_after_lem, cut_hits, looked_says}
use Rattle.vm_machine_correct.proofs.Matches.{entries_now}
use Rattle.vm_machine.specs.Run.{turns_per_step}

module _ (Θ : Setup) where
  -- The instruction after a value inside a body has a number.
  number_below : {c : Dom} {g : Target} {E : Pc} → Points Θ.linked c g E → (E ≡ (back, []) → ⊥) → target_number g < term_count
  number_below p_caller h = absurd (h refl)
  number_below (p_to m i n q l) h = Θ.says.few m n

  module _ (S : State) (k : ℕ) (s : CState) (v : CVal) (ρ : Env) (c : Dom) (A₀ : Chain) (D : Slots) (pc : S.regs.pc ≡ code.return_pc)
      (now : Simulates Θ S k s (record { instr = back; acc = v; site = body ρ c; chain = A₀; slots = D })) where
    abbrev Progresses : State → Type 0
    Progresses S' = After Θ (measure S) S'

    abbrev M : Memory
    M = S.memory

    abbrev r : Regs
    r = S.regs

    abbrev z : Sizes
    z = sizes r

    -- The slot that the body runs over.
    over_slot : 0 < base A₀ → slot_at M r.frames 0 ≡ slot_of M (base A₀)
    over_slot h = ap (λ (i : ℕ). word_at M i) (omega (arith, now.frames)) ∙ sym (slot_word_lem M (base A₀) h)

    at_caller : level r ≡ frame_slots + 2
    at_caller = ap (λ (b : Bool). choose b (frame_slots + 2) (r.frames + 1)) (eq-eqb r.pc code.return_pc pc)

    -- The body of the program is done.
    done_now : A₀ ≡ [] → Progresses (turn Θ.program Θ.given.frame S)
    done_now q =
        let top : r.frames ≡ frame_slots = omega (arith, now.frames, ap base q) in
        let reach : Reach Θ.sound k s (ret v) [] = subst (λ (X : Chain). Reach Θ.sound k s (ret v) (stack_of X D)) q now.good.runs in
        rw (caller_done Θ.program Θ.given.frame S pc Θ.says.return top)
        (after_halted
        (halted_done refl refl (ends_over Θ.sound k s (ret v) [] reach Θ.budget (r.fuel - fuel_bias) (omega (arith, now.common.budget, now.common.running)) v refl) now.common.store now.common.used now.ready
        (omega (arith, now.common.budget, now.common.running))
        (fits_in M S.log (halt Outcome.Done r) s now.common.store now.common.used (omega (arith, pc)) now.env_fits (omega (arith, top, kept_fits Θ A₀ now.kept, ap base q)))))

    -- The place of an activation that waits.
    module _ (P : Site) (A : Chain) (κ : Kept) (i : ℕ) (slot : Slot Θ.linked (Held Θ M z) (Back Θ M z) D i (base A) κ P) (chain : IsChain Θ.linked (Held Θ M z) (Back Θ M z) D A)
        (stood : SiteInvariant P A) (fine : ChainInvariant A) (kept : AreKept Θ M z r.kept (kept_by A)) where
      abbrev m : ℕ
      m = slot.number

      abbrev w : ℕ
      w = code_at Θ.program m

      deep : depth_of w ≡ length P.skel
      deep = (Θ.says.around m slot.no_atom).depth ∙ (describes Θ.linked slot.located slot.no_atom).depth

      -- The machine stands there, at t, with n left of the budget after k' steps; the body ran x unfinished terms inside of it.
      abbrev there : ℕ → ℕ → ℕ → ℕ → State
      there t env x n = with_regs (set_pc t (set_env env (set_frames (r.frames + x) (set_fuel n r)))) S

      stands : (t env x n k' : ℕ) → IsEnv Θ M z env P.env → env < binding_places → base A₀ ≡ base A + x → k' + n ≡ Θ.budget + fuel_bias → fuel_bias ≤ n → InPlace Θ (there t env x n) k' s m P A D
      stands t env x n k' ie fits b e h =
          record {
            common = record { budget = e; running = h; store = now.common.store; used = now.common.used };
            no_atom = slot.no_atom;
            located = slot.located;
            stood = stood;
            fine = fine;
            env = ie;
            env_fits = fits;
            frames = omega (arith, now.frames);
            waits = slot.waiting;
            chain = chain;
            kept = kept;
          }

      -- A call or split.
      call_now : (f : ℕ) → FrameIs Θ M z f call_frame m P.env → base A₀ ≡ depth_at P A → 0 < length P.skel → Reach Θ.sound k s (ret v) (stack_at P A D) → Progresses (returned Θ.program f S)
      call_now f F b inside reach =
          let S' : State = with_regs (set_env (slot_env f) (set_frames (r.frames + depth_of w) r)) S in
          let p : InPlace Θ S' k s m P A D = stands r.pc (slot_env f) (depth_of w) r.fuel k F.env F.fits (omega (arith, deep)) now.common.budget now.common.running in
          let on = completed_now Θ S' k s m P A D p (omega (arith, now.frames)) r.acc v now.ready reach in
          let q : next_of w < term_count = rw (Θ.says.around m slot.no_atom).next (number_below (describes Θ.linked slot.located slot.no_atom).next (λ e. next_inside P.skel inside (sym (paid_none P.skel).1 ∙ e))) in
          let low : level (completed w r.acc S').regs ≡ r.frames + depth_of w + 1 = ap (λ (x : Bool). choose x (frame_slots + 2) (r.frames + depth_of w + 1)) (ne_eqb (next_of w) code.return_pc (λ e. omega arith)) in
          rw F.pc (after_now on (omega (arith, at_caller, low, deep, now.frames)))

      -- The body of an advice is left in two steps.
      module _ (d : Dom) (x : List (Advice Body)) (u : CVal) (f : ℕ) (F : FrameIs Θ M z f advice_frame m P.env) (b : base A₀ ≡ depth_at P A + 2)
          (left : IsTriggered Θ M z (next_binding f) (end_binding f) u x) (reach : Reach Θ.sound k s (ret v) (stack_of (advice_a d u x P ∷ A) D)) where
        abbrev K : Stack
        K = stack_at P A D

        -- the next advice of the mark begins; the mark, whose number is i, is done
        abbrev begun : State
        begun = with_memory (put_advice r.frames 0 (slot_pc f) (slot_env f) (next_binding f + 1) (end_binding f) M) (set_pc (body_at M (next_binding f % binding_places)) (set_acc 0 (set_env (next_binding f % binding_places) (set_fuel (r.fuel - 2) r)))) S

        abbrev finished : ℕ → State
        finished i = completed (code_at Θ.program i) 0 (with_regs (set_env (slot_env f) (set_frames (r.frames + (depth_of (code_at Θ.program i) + 2)) (set_fuel (r.fuel - 2) r))) S)

        few : length (triggered_f u x ∷ K) ≤ frame_limit
        few = omega (arith, stack_depth P A D stood fine, now.frames)

        unit_value_lem : v ≡ CVal.unit
        unit_value_lem = body_unit Θ k s P A D u d x v reach few

        -- the two steps, which need no room
        lowers : move (ret v) (stack_of (advice_a d u x P ∷ A) D) Θ.given s ≡ reduces (reduct s (ret CVal.unit)) (triggered_f u x ∷ K)
        unfolding with unload_val
        lowers = redex_due (triggered_f u x ∷ K) (reduce_seq_c s (ret CVal.unit) v) few ∙ rw unit_value_lem

        sequences : move (ret CVal.unit) (triggered_f u x ∷ K) Θ.given s ≡ reduces (reduct s (triggered u x)) K
        unfolding with unload_val
        sequences = redex_due K (reduce_seq_c s (triggered u x) CVal.unit) (omega (arith, few))

        lowered : Reach Θ.sound (suc k) s (ret CVal.unit) (triggered_f u x ∷ K)
        lowered = reach_go Θ.sound k s (ret v) (stack_of (advice_a d u x P ∷ A) D) reach s (ret CVal.unit) (triggered_f u x ∷ K) lowers

        sequenced : Reach Θ.sound (suc (suc k)) s (triggered u x) K
        sequenced = reach_go Θ.sound (suc k) s (ret CVal.unit) (triggered_f u x ∷ K) lowered s (triggered u x) K sequences

        -- the budget ends with the first step, or before it
        spent : r.fuel < fuel_bias + 2 → Halted Θ (with_regs (halt_with (outcome_number Outcome.Spent) fuel_bias r) S)
        spent h = try (eqb r.fuel fuel_bias) refl
          where
            ends : {k' : ℕ} → run Θ.budget Θ.given 0 fresh (root_term Θ) ≡ ended (stopped Outcome.Spent) k' (unload_state s) → k' ≡ Θ.budget → Halted Θ (with_regs (halt_with (outcome_number Outcome.Spent) fuel_bias r) S)
            ends ran e =
                halted_stopped Outcome.Spent refl refl ran now.common.store now.common.used (omega arith)
                (fits_in M S.log (halt_with (outcome_number Outcome.Spent) fuel_bias r) s now.common.store now.common.used (omega (arith, pc)) now.env_fits (omega (arith, now.frames, kept_fits Θ A₀ now.kept)))

            try : (t : Bool) → eqb r.fuel fuel_bias ≡ t → Halted Θ (with_regs (halt_with (outcome_number Outcome.Spent) fuel_bias r) S)
            try true t =
                let n : k ≡ Θ.budget = omega (arith, eqb-true r.fuel fuel_bias t, now.common.budget) in
                ends (ends_spent Θ.sound k s (ret v) (stack_of (advice_a d u x P ∷ A) D) reach Θ.budget 0 (omega arith) refl (reduct s (ret CVal.unit)) (triggered_f u x ∷ K) lowers refl) n
            try false t =
                let n : suc k ≡ Θ.budget = omega (arith, eqb-false r.fuel fuel_bias t, now.common.budget, now.common.running) in
                ends (ends_spent Θ.sound (suc k) s (ret CVal.unit) (triggered_f u x ∷ K) lowered Θ.budget 0 (omega arith) refl (reduct s (triggered u x)) K sequences refl) n

        module _ (enough : fuel_bias + 2 ≤ r.fuel) where
          -- the mark's place, after the two steps
          place : (t y : ℕ) → y ≡ depth_of w + 2 → InPlace Θ (there t (slot_env f) y (r.fuel - 2)) (suc (suc k)) s m P A D
          place t y e = stands t (slot_env f) y (r.fuel - 2) (suc (suc k)) F.env F.fits (omega (arith, deep)) (omega (arith, now.common.budget)) (omega arith)

          falls : {S' : State} {s' : CState} {E : Conf} → S'.regs.fuel ≡ r.fuel - 2 → Simulates Θ S' (suc (suc k)) s' E → Progresses S'
          falls {S'} e n = after_now n (step_falls S S' (omega arith) (omega (arith, now.frames)) (omega (arith, n.frames)))

          -- no advice is left
          mark_done : x ≡ [] → Progresses (finished m)
          mark_done q =
              let over : Reach Θ.sound (suc (suc k)) s (triggered u []) K = subst (λ (y : List (Advice Body)). Reach Θ.sound (suc (suc k)) s (triggered u y) K) q sequenced in
              falls refl
              (completed_now Θ (there r.pc (slot_env f) (depth_of w + 2) (r.fuel - 2)) (suc (suc k)) s m P A D (place r.pc (depth_of w + 2) refl) (omega (arith, now.frames)) 0 CVal.unit (is_unit refl)
              (reach_moves Θ.sound (suc (suc k)) s (triggered u []) K over (ret CVal.unit) K refl))

          -- the next one begins
          next_now : (d' : Dom) (ls : List ℕ) (e : Tm) (σ : Env) (y : List (Advice Body)) → x ≡ record { dom = d'; labels = ls; body = record { term = e; env = σ } } ∷ y
              → IsTriggered Θ M z (next_binding f) (end_binding f) u (record { dom = d'; labels = ls; body = record { term = e; env = σ } } ∷ y)
              → Progresses begun
          next_now d' ls e σ y q (one_left lt ie g rest) =
              let n : ℕ = next_binding f in
              let small : n < binding_places = omega (arith, env_used Θ M z ie, now.common.store.counts.bindings_fit) in
              let same : n % binding_places ≡ n = omega arith in
              let next : suc n ≡ n + 1 = omega arith in
              let within : depth_at P A + 2 ≤ frame_slots = omega (arith, now.frames) in
              let index : slot_in r.frames 0 ≡ slot_base + frame_slots - (depth_at P A + 2) = omega (arith, now.frames) in
              let S₁ : State = there r.pc (slot_env f) (depth_of w + 2) (r.fuel - 2) in
              let p : InPlace Θ S₁ (suc (suc k)) s m P A D = place r.pc (depth_of w + 2) refl in
              let M' : Memory = put_advice r.frames 0 (slot_pc f) (slot_env f) (n + 1) (end_binding f) M in
              let S' : State = with_memory M' (set_pc (body_at M n) (set_acc 0 (set_env n (set_fuel (r.fuel - 2) r)))) S in
              let first : Advice Body = record { dom = d'; labels = ls; body = record { term = e; env = σ } } in
              let grown = frame_grows Θ S₁ (suc (suc k)) s m P A D p (n + 1) (end_binding f) within (slot_pc f) (slot_env f) F.pc F.fits F.env 0 r.frames index in
              let on : Simulates Θ S' (suc (suc k)) s (trigger u (first ∷ y) P A D) =
              advised Θ S' (suc (suc k)) s P A D u d' ls e σ y (bound_target (binding_at M n))
              (record {
                budget = p.common.budget;
                running = p.common.running;
                store = frame_store Θ S₁ (suc (suc k)) s m P A D p (n + 1) (end_binding f) within (slot_pc f) (slot_env f) F.pc F.fits F.env 0 r.frames index;
                used = p.common.used;
              })
              stood fine g refl refl (env_grows Θ M z M' z grown ie) small (omega (arith, now.frames))
              (frame_chain Θ S₁ (suc (suc k)) s m P A D p (n + 1) (end_binding f) within (slot_pc f) (slot_env f) F.pc F.fits F.env 0 r.frames index d' u y (omega arith) (omega arith)
              (triggered_at Θ M z (sym next) refl rest))
              (frame_kept Θ S₁ (suc (suc k)) s m P A D p (n + 1) (end_binding f) within (slot_pc f) (slot_env f) F.pc (omega arith) F.env 0 r.frames index)
              (subst (λ (a : List (Advice Body)). Reach Θ.sound (suc (suc k)) s (triggered u a) K) q sequenced) in
              rw same (falls {S' = S'} refl on)

        advice_now : Progresses (next_advice Θ.program f S)
        advice_now = try (ltb r.fuel (fuel_bias + 2)) refl
          where
            -- the next advice of the mark, if one is left
            on : fuel_bias + 2 ≤ r.fuel → {y : List (Advice Body)} → x ≡ y → IsTriggered Θ M z (next_binding f) (end_binding f) u y
                → Progresses (choose (ltb (next_binding f) (end_binding f)) begun (finished m))
            on h q (no_more e) = rw (le-ltb (next_binding f) (end_binding f) (omega arith)) (mark_done h q)
            on h q (one_left {d = d'} {f = e} {ls = ls} {ρ = σ} {x = y} lt ie g rest) = rw (lt-ltb (next_binding f) (end_binding f) lt) (next_now h d' ls e σ y q (one_left lt ie g rest))

            try : (t : Bool) → ltb r.fuel (fuel_bias + 2) ≡ t
                → Progresses (choose t (with_regs (halt_with (outcome_number Outcome.Spent) fuel_bias r) S) (choose (ltb (next_binding f) (end_binding f)) begun (finished (slot_pc f))))
            try true t = after_halted (spent (ltb-true r.fuel (fuel_bias + 2) t))
            try false t = subst (λ (i : ℕ). Progresses (choose (ltb (next_binding f) (end_binding f)) begun (finished i))) (sym F.pc) (on (ltb-false r.fuel (fuel_bias + 2) t) refl left)

      -- A child of a pointcut is a label.
      pointcut_now : (vs : List CVal) (es : Tms) (f : ℕ) → FrameIs Θ M z f pointcut_frame m P.env → (R : LabelsAre Θ f (byte_of M (base A₀)) m vs es) → base A₀ ≡ suc (depth_at P A)
          → Reach Θ.sound k s (ret v) (op_nf pcd_n vs es P.env ∷ stack_at P A D) → Progresses (resumed Θ.program f S)
      unfolding resume_labels
      pointcut_now vs es f F R b reach = rw (F.pc, mod-eq_of_lt F.fits) (by (subst (λ (n : Node). Says Θ.table Θ.program.image w n) R.node (Θ.says.node m (Θ.says.few m slot.no_atom))))
        where
          digits : digits_at M r.frames f ≡ digits_of R.done
          digits = ap (λ (i : ℕ). slot_held f + held_size * get_or M.beside i 0) (omega (arith, now.frames)) ∙ R.digits

          S' : State
          S' = with_regs (set_pc m (set_env (slot_env f) (set_frames (r.frames + (depth_of w + 1)) r))) S

          p : InPlace Θ S' k s m P A D
          p = stands m (slot_env f) (depth_of w + 1) r.fuel k F.env F.fits (omega (arith, deep)) now.common.budget now.common.running

          by : Says Θ.table Θ.program.image w (many_n pcd_m R.children)
              → Progresses (choose (eqb (class_of w) match_class) (resume_match Θ.program f S) (choose (eqb (class_of w) pointcut_class) (labels_from Θ.program m (digit_count pointcut_limit (digits_at M r.frames f) + 1) (with_digit (digits_at M r.frames f) (body_of r.acc % label_limit)) S') (with_regs (stuck r) S)))
          by (says_pointcut a count few in_image children) = rw (ap (λ (c : ℕ). eqb c match_class) a, eq-eqb (class_of w) pointcut_class a) (view (as_label Θ M z now.ready) reach)
            where
              view : {u : CVal} → AsLabel Θ M z r.acc u → Reach Θ.sound k s (ret u) (op_nf pcd_n vs es P.env ∷ stack_at P A D)
                  → Progresses (labels_from Θ.program m (digit_count pointcut_limit (digits_at M r.frames f) + 1) (with_digit (digits_at M r.frames f) (body_of r.acc % label_limit)) S')
              view (one_label {l = l} t e) reach' =
                  let low : l < label_limit = omega arith in
                  let counted : digit_count pointcut_limit (digits_of R.done) + 1 ≡ suc (length R.done) = omega (arith, digit_count_lem 8 R.labels (omega (arith, R.fewer))) in
                  rw (digits, e, with_digit_lem R.labels (omega (arith, R.fewer)) l, counted)
                  (labels_now Θ S' k s m P A D p refl R.children R.node count few children (measure S) (omega (arith, at_caller, deep, now.frames)) (l ∷ R.done) (ret (CVal.label l)) (op_nf pcd_n (map CVal.label R.done) (terms_of Θ.table (drop (suc (length R.done)) R.children)) P.env ∷ stack_at P A D)
                  (one_more low R.labels) R.fewer some_done (rw (← R.are, ← R.remaining) reach'))
              view (no_label {v = u} n) reach' = absurd (reach_label Θ.sound k s u vs es P.env (stack_at P A D) reach' n)

      -- An operand of a match is its stack, or a pointcut (card 6).
      match_now : (t : Pattern) (e₁ e₂ : Tm) (vs : List CVal) (es : Tms) (f : ℕ) → FrameIs Θ M z f pointcut_frame m P.env → MatchIs Θ M z f (byte_of M (base A₀)) m t e₁ e₂ vs es → base A₀ ≡ suc (depth_at P A)
          → Reach Θ.sound k s (ret v) (op_nf (match_n t e₁ e₂) vs es P.env ∷ stack_at P A D) → Progresses (resumed Θ.program f S)
      unfolding resume_match
      match_now t e₁ e₂ vs es f F R b reach = rw (F.pc, mod-eq_of_lt F.fits) (by R)
        where
          S' : State
          S' = with_regs (set_pc m (set_env (slot_env f) (set_frames (r.frames + (depth_of w + 1)) r))) S

          p : InPlace Θ S' k s m P A D
          p = stands m (slot_env f) (depth_of w + 1) r.fuel k F.env F.fits (omega (arith, deep)) now.common.budget now.common.running

          byte : beside_at_of M r.frames ≡ byte_of M (base A₀)
          byte = ap (λ (i : ℕ). get_or M.beside i 0) (omega (arith, now.frames))

          Goal : Type 0
          Goal =
              Progresses
              (choose (eqb (class_of w) match_class)
              (choose (leb stack_to_come (beside_at_of M r.frames)) (entries_from Θ.program m r.acc (unlooked r.acc) S')
              (entries_from Θ.program m (held_stack f) (past_cut M r.acc (looked_with M (held_stack f) (beside_at_of M r.frames))) S'))
              (resume_labels Θ.program f S))

          low : measure S ≡ turns_per_step * r.fuel + (frame_slots + 2)
          low = omega (arith, at_caller)

          said : {x i j : ℕ} {cuts : List ℕ} → Θ.table.node m ≡ many_n (match_m t i j) (x ∷ cuts) → Says Θ.table Θ.program.image w (many_n (match_m t i j) (x ∷ cuts))
          said q = subst (λ (n : Node). Says Θ.table Θ.program.image w n) q (Θ.says.node m (Θ.says.few m slot.no_atom))

          by : MatchIs Θ M z f (byte_of M (base A₀)) m t e₁ e₂ vs es → Goal
          by (stack_to_come_lem {b = i} {o = j} {x = x} {cuts = cuts} n q₁ q₂ is vs₀ es₀) = with_word (said n)
            where
              with_word : Says Θ.table Θ.program.image w (many_n (match_m t i j) (x ∷ cuts)) → Goal
              with_word (says_match c few inside a d e h) =
                  let none_yet : Looked t v 0 [] t v true = nothing_yet in
                  rw (c, byte ∙ is)
                  (entries_now Θ S' k s m P A D p refl t i j x cuts n few d e h (measure S) (omega (arith, low, deep, now.frames)) r.acc v now.ready 0 [] t v v [] true r.acc cuts nothing_yet
                  (looked_says Θ.program w h none_yet).1 (omega arith) refl refl now.ready (rw (q₁, q₂, ← vs₀, ← es₀) reach))
          by (entries_looked {b = i} {o = j} {x = x} {n = n} {cuts = cuts} {k₀ = k₀} {k = kk} {us = us} {q = q} {t = y} nd q₁ q₂ iv l lt is turned es₀) = with_word (said nd)
            where
              place : (t : Bool) → beside_at_of M r.frames ≡ n + choose t count_size 0 → (beside_at_of M r.frames % count_size ≡ n) × (leb count_size (beside_at_of M r.frames) ≡ t) × (leb stack_to_come (beside_at_of M r.frames) ≡ false)
              place true e = (omega arith, le-leb count_size (beside_at_of M r.frames) (omega arith), lt-leb stack_to_come (beside_at_of M r.frames) (omega arith))
              place false e = (omega arith, lt-leb count_size (beside_at_of M r.frames) (omega arith), lt-leb stack_to_come (beside_at_of M r.frames) (omega arith))

              with_word : Says Θ.table Θ.program.image w (many_n (match_m t i j) (x ∷ cuts)) → Goal
              with_word (says_match c few inside a d e h) =
                  let at = place y (byte ∙ is) in
                  rw (c, at.2, at.0, at.1) (view vs (as_pointcut Θ M z now.ready) turned reach)
                where
                  view : (vs : List CVal) {u : CVal} → AsPointcut Θ M z r.acc u → reverse vs ≡ k₀ ∷ us → Reach Θ.sound k s (ret u) (op_nf (match_n t e₁ e₂) vs es P.env ∷ stack_at P A D)
                      → Progresses (entries_from Θ.program m (held_stack f) (past_cut M r.acc (record { next = n; rest = rest_after M n (held_stack f); fits = y })) S')
                  view [] u back' reach' = absurd (nil≢cons back')
                  view (u' ∷ vs') (a_pointcut {ls = ls} tag small has) back' reach' =
                      let rest = rest_after_lem Θ M z l (held_stack f) iv in
                      let more = past_pointcut (CVal.pointcut ls) l in
                      let s₁ = looked_says Θ.program w h more in
                      let count : length (us ++ (CVal.pointcut ls ∷ [])) ≡ suc (length us) = length-append us (CVal.pointcut ls ∷ []) ∙ omega arith in
                      let left : es ≡ terms_of Θ.table (drop (length (us ++ (CVal.pointcut ls ∷ []))) cuts) = es₀ ∙ ap (λ (i : ℕ). terms_of Θ.table (drop i cuts)) (sym count) in
                      subst (λ (g : Bool). Progresses (entries_from Θ.program m (held_stack f) (record { next = suc n; rest = rest_of M (rest_after M n (held_stack f)); fits = y && g }) S')) (sym (cut_hits Θ M z r.acc ls rest has))
                      (entries_now Θ S' k s m P A D p refl t i j x cuts nd few d e h (measure S) (omega (arith, low, deep, now.frames)) (held_stack f) k₀ iv (suc n) (us ++ (CVal.pointcut ls ∷ [])) q (rest_c kk) (CVal.pointcut ls)
                      (u' ∷ vs') (y && (has_top kk && hits_top kk (CVal.pointcut ls))) (rest_of M (rest_after M n (held_stack f))) _ more s₁.1 s₁.0 refl (one_operand_more (CVal.pointcut ls) k₀ (u' ∷ vs') us back')
                      (rest_is Θ M z rest) (rw (q₁, q₂, ← left) reach'))
                  view (u' ∷ vs') (no_pointcut {v = u} bad) back' reach' = absurd (reach_cut Θ.sound k s u u' vs' t e₁ e₂ es P.env (stack_at P A D) reach' bad)

    -- To whom the value goes.
    chain_now : (A : Chain) → A₀ ≡ A → IsChain Θ.linked (Held Θ M z) (Back Θ M z) D A → ChainInvariant A → AreKept Θ M z r.kept (kept_by A) → Reach Θ.sound k s (ret v) (stack_of A D) → Progresses (turn Θ.program Θ.given.frame S)
    chain_now [] q c f h reach = done_now q
    chain_now (call_a P ∷ A) q c f h reach =
        let b : base A₀ ≡ depth_at P A = ap base q in
        let e : slot_at M r.frames 0 ≡ slot_of M (depth_at P A) = over_slot (omega (arith, f.2)) ∙ ap (λ (i : ℕ). slot_of M i) b in
        rw (caller_call Θ.program Θ.given.frame S pc Θ.says.return (slot_of M (depth_at P A)) e (omega (arith, now.frames, f.2)) c.0.says.kind) (call_now P A a_call _ c.0 c.1 f.0 f.1 h (slot_of M (depth_at P A)) c.0.says b f.2 reach)
    chain_now (advice_a d u x P ∷ A) q c f h reach =
        let b : base A₀ ≡ depth_at P A + 2 = omega (arith, ap base q) in
        let i : ℕ = suc (suc (depth_at P A)) in
        let e : slot_at M r.frames 0 ≡ slot_of M i = over_slot (omega arith) ∙ ap (λ (j : ℕ). slot_of M j) (ap base q) in
        rw (caller_advice Θ.program Θ.given.frame S pc Θ.says.return (slot_of M i) e (omega (arith, now.frames)) c.0.says.0.kind) (advice_now P A (one_advice u x) _ c.0 c.1 f.0 f.1 h d x u (slot_of M i) c.0.says.0 b c.0.says.1 reach)
    chain_now (rest_a u x P ∷ A) q c f h reach = absurd c.0.says
    chain_now (many_a pcd_n vs es P ∷ A) q c f h reach =
        let b : base A₀ ≡ suc (depth_at P A) = ap base q in
        let i : ℕ = suc (depth_at P A) in
        let e : slot_at M r.frames 0 ≡ slot_of M i = over_slot (omega arith) ∙ ap (λ (j : ℕ). slot_of M j) b in
        rw (caller_pointcut Θ.program Θ.given.frame S pc Θ.says.return (slot_of M i) e (omega (arith, now.frames)) c.0.says.0.kind)
        (pointcut_now P A (some_operands pcd_n vs es) _ c.0 c.1 f.0 f.1 h vs es (slot_of M i) c.0.says.0 (rw b c.0.says.1) b reach)
    chain_now (many_a (match_n t e₁ e₂) vs es P ∷ A) q c f h reach =
        let b : base A₀ ≡ suc (depth_at P A) = ap base q in
        let i : ℕ = suc (depth_at P A) in
        let e : slot_at M r.frames 0 ≡ slot_of M i = over_slot (omega arith) ∙ ap (λ (j : ℕ). slot_of M j) b in
        rw (caller_pointcut Θ.program Θ.given.frame S pc Θ.says.return (slot_of M i) e (omega (arith, now.frames)) c.0.says.0.kind)
        (match_now P A (some_operands (match_n t e₁ e₂) vs es) _ c.0 c.1 f.0 f.1 h t e₁ e₂ vs es (slot_of M i) c.0.says.0 (rw b c.0.says.1) b reach)
    chain_now (keep_a u y P ∷ A) q c f h reach =
        let b : base A₀ ≡ suc (depth_at P A) = ap base q in
        let i : ℕ = suc (depth_at P A) in
        let e : slot_at M r.frames 0 ≡ slot_of M i = over_slot (omega arith) ∙ ap (λ (j : ℕ). slot_of M j) b in
        rw (caller_keep Θ.program Θ.given.frame S pc Θ.says.return (slot_of M i) e (omega (arith, now.frames)) c.0.says.0.kind)
        (leave_now Θ S k s v P A D u y (slot_of M i) _ c.0 c.1 f.0 f.1 (kept_left Θ y (kept_by A) c.0.says.1 h) now.common now.ready now.env_fits pc
        (omega (arith, now.frames, b)) (omega (arith, now.frames, kept_fits Θ A₀ now.kept)) c.0.says.0 reach)

    pub return_now : Progresses (turn Θ.program Θ.given.frame S)
    return_now = chain_now A₀ refl now.chain now.good.fine now.kept now.good.runs
