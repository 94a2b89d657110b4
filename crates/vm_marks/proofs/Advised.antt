-- What the advice of a mark makes of the state, by the tests that lead there.
use Prim.Native.Nat.{ℕ, ◌+◌, ◌-◌, ◌%◌, ◌≤◌, ◌<◌}
use mathlib.Core.Path.{◌≡◌, refl, sym, ap, subst, ◌∙◌}
use mathlib.Core.List.{List}
use lib.Dec.{leb, ltb}
use borrow.Author.Tests.{le-leb, lt-leb, lt-ltb, le-ltb}
use Rattle.calculus.specs.declared.Outcome.{Outcome}
use Rattle.calculus.specs.Combinators.{choose}
use Rattle.vm_code.specs.Values.{unit_value}
use Rattle.vm_code.specs.Words.{depth_of, is_instruction, term_count, return_pc}
use Rattle.vm_machine.specs.declared.Regs.{Regs}
use Rattle.vm_machine.specs.Registers.{fuel_bias, frame_slots, set_pc, set_acc, set_env, set_frames, set_fuel, halt_with, halt}
use Rattle.vm_machine.specs.Memory.{Memory, binding_at, bound_target, slot_env, slot_pc, next_binding, end_binding, put_advice, binding_places}
use Rattle.vm_machine.specs.States.{State, with_regs, with_memory, completed}
use Rattle.vm_machine.specs.Fetch.{Program, code_at}
use Rattle.vm_machine.specs.Reduce.{body_at, start_advice, next_advice}
use Rattle.vm_memory.specs.View.{memory_of, Holds}
use Rattle.vm_memory.proofs.Chosen.{chosen_yes, chosen_no}
use Rattle.vm_registers.specs.Phases.{state_of, Represents, Phase}
use Rattle.vm_registers.proofs.Made.{as_phase, stored_made, regs_made}
use Rattle.vm_marks.specs.NextAdvice.{next_body, mark_left}

-- Where a body begins: u is the binding's word, and g its target.
module _ (M : Memory) (b u g : ℕ) (d : u ≡ binding_at M b) (e : g ≡ bound_target u) where
  pub body_instruction : term_count ≤ g → g % term_count ≡ body_at M b
  body_instruction h =
      subst (λ (i : ℕ). g % term_count ≡ choose (is_instruction i) (i % term_count) return_pc) (e ∙ ap bound_target d) (sym (chosen_yes _ _ _ (le-leb term_count g h)))

  pub body_atom : g < term_count → return_pc ≡ body_at M b
  body_atom h =
      subst (λ (i : ℕ). return_pc ≡ choose (is_instruction i) (i % term_count) return_pc) (e ∙ ap bound_target d) (sym (chosen_no _ _ _ (lt-leb term_count g h)))

-- The advice of the bindings from n to m run; d is the static depth of the mark.
abbrev start_at : ℕ → ℕ → ℕ → State → State
start_at d n m S =
    let r : Regs = S.regs in
    choose (leb r.frames (d + 1)) (with_regs (halt Outcome.Frames r) S)
    (with_memory (put_advice r.frames (d + 2) r.pc r.env (n + 1) m S.memory) (set_pc (body_at S.memory n) (set_acc unit_value (set_env n (set_frames (r.frames - (d + 2)) r)))) S)

start_as : (a b : List ℕ) (r q : Regs) (w d n m : ℕ) → d ≡ depth_of w → Phase (start_at d n m) a b r q → Phase (start_advice w n m) a b r q
start_as a b r q w d n m e p = subst (λ (i : ℕ). Phase (start_at i n m) a b r q) e p

module _ (a b : List ℕ) (r s : Regs) (w d n m : ℕ) (e : d ≡ depth_of w) where
  pub start_lacking : r.frames ≤ d + 1 → s ≡ halt Outcome.Frames r → Phase (start_advice w n m) a a r s
  start_lacking h f =
      start_as a a r s w d n m e (regs_made (start_at d n m) a r s (halt Outcome.Frames r) (λ log. sym (chosen_yes _ _ _ (le-leb r.frames (d + 1) h))) f)

  pub start_made : (t : ℕ) → d + 1 < r.frames → t ≡ body_at (memory_of a) n → s ≡ r → Holds (put_advice r.frames (d + 2) r.pc r.env (n + 1) m (memory_of a)) a b → Phase (start_advice w n m) a b r (set_pc t (set_acc unit_value (set_env n (set_frames (r.frames - (d + 2)) s))))
  start_made t h f g k =
      let p : ℕ → Regs → Regs = λ i v. set_pc i (set_acc unit_value (set_env n (set_frames (r.frames - (d + 2)) v))) in
      start_as a b r (p t s) w d n m e (stored_made (start_at d n m) (put_advice r.frames (d + 2) r.pc r.env (n + 1) m (memory_of a)) a b r (p t s) (p (body_at (memory_of a) n) r) (λ log. sym (chosen_no _ _ _ (lt-leb r.frames (d + 1) h))) (ap (λ (i : ℕ). p i s) f ∙ ap (p (body_at (memory_of a) n)) g) k)

-- The next body: the slot's word f is read as n, e, pc and env.
abbrev body_by : ℕ → ℕ → ℕ → ℕ → State → State
body_by n e pc env S =
    let r : Regs = S.regs in
    let b : ℕ = n % binding_places in
    with_memory (put_advice r.frames 0 pc env (n + 1) e S.memory) (set_pc (body_at S.memory b) (set_acc unit_value (set_env b (set_fuel (r.fuel - 2) r)))) S

pub next_body_made : (a b : List ℕ) (r s : Regs) (f n e pc env t : ℕ) → n ≡ next_binding f → e ≡ end_binding f → pc ≡ slot_pc f → env ≡ slot_env f → t ≡ body_at (memory_of a) (n % binding_places) → s ≡ r → Holds (put_advice r.frames 0 pc env (n + 1) e (memory_of a)) a b → Phase (next_body f) a b r (set_pc t (set_acc unit_value (set_env (n % binding_places) (set_fuel (r.fuel - 2) s))))
next_body_made a b r s f n e pc env t en ee ep ev et es h =
    let p : ℕ → Regs → Regs = λ i v. set_pc i (set_acc unit_value (set_env (n % binding_places) (set_fuel (r.fuel - 2) v))) in
    let k : Phase (body_by n e pc env) a b r (p t s) = stored_made (body_by n e pc env) (put_advice r.frames 0 pc env (n + 1) e (memory_of a)) a b r (p t s) (p (body_at (memory_of a) (n % binding_places)) r) (λ log. refl) (ap (λ (i : ℕ). p i s) et ∙ ap (p (body_at (memory_of a) (n % binding_places))) es) h in
    let k₁ : Phase (body_by (next_binding f) e pc env) a b r (p t s) = subst (λ (i : ℕ). Phase (body_by i e pc env) a b r (p t s)) en k in
    let k₂ : Phase (body_by (next_binding f) (end_binding f) pc env) a b r (p t s) = subst (λ (i : ℕ). Phase (body_by (next_binding f) i pc env) a b r (p t s)) ee k₁ in
    let k₃ : Phase (body_by (next_binding f) (end_binding f) (slot_pc f) env) a b r (p t s) = subst (λ (i : ℕ). Phase (body_by (next_binding f) (end_binding f) i env) a b r (p t s)) ep k₂ in
    subst (λ (i : ℕ). Phase (body_by (next_binding f) (end_binding f) (slot_pc f) i) a b r (p t s)) ev k₃

-- All advice is done: d is the static depth of the mark, and env its environment.
pub mark_left_made : (a b : List ℕ) (r s q : Regs) (w f d env : ℕ) → s ≡ r → d ≡ depth_of w → env ≡ slot_env f → Phase (completed w unit_value) a b (set_env env (set_frames (r.frames + (d + 2)) (set_fuel (r.fuel - 2) s))) q → Phase (mark_left w f) a b r q
mark_left_made a b r s q w f d env es ed ev h =
    let p : ℕ → ℕ → Regs → Regs = λ i j v. set_env i (set_frames (r.frames + (j + 2)) (set_fuel (r.fuel - 2) v)) in
    let z : p env d s ≡ p (slot_env f) (depth_of w) r = ap (λ (i : ℕ). p i d s) ev ∙ ap (λ (j : ℕ). p (slot_env f) j s) ed ∙ ap (p (slot_env f) (depth_of w)) es in
    record { represents = λ log. subst (λ (v : Regs). Represents (completed w unit_value (state_of a log v)) a b log q) z (h.represents log) }

-- The body of an advice is done; the slot's word f is read as n and e.
module _ (C : Program) (a b : List ℕ) (r q : Regs) (f : ℕ) where
  pub advice_spent : r.fuel < fuel_bias + 2 → q ≡ halt_with 1 fuel_bias r → Phase (next_advice C f) a a r q
  advice_spent h e = regs_made (next_advice C f) a r q (halt_with 1 fuel_bias r) (λ log. sym (chosen_yes _ _ _ (lt-ltb r.fuel (fuel_bias + 2) h))) e

  module _ (h : fuel_bias + 2 ≤ r.fuel) (n e : ℕ) (en : n ≡ next_binding f) (ee : e ≡ end_binding f) where
    pub advice_next : n < e → Phase (next_body f) a b r q → Phase (next_advice C f) a b r q
    advice_next l p =
        as_phase (next_body f) (next_advice C f) a b r q (λ log. sym (chosen_no _ _ _ (le-ltb r.fuel (fuel_bias + 2) h) ∙ chosen_yes _ _ _ (lt-ltb (next_binding f) (end_binding f) (subst (λ (i : ℕ). next_binding f < i) ee (subst (λ (i : ℕ). i < e) en l))))) p

    none_left : e ≤ n → (S : State) → S.regs.fuel ≡ r.fuel → next_advice C f S ≡ mark_left (code_at C (slot_pc f)) f S
    none_left l S z =
        chosen_no _ _ _ (ap (λ (i : ℕ). ltb i (fuel_bias + 2)) z ∙ le-ltb r.fuel (fuel_bias + 2) h) ∙ chosen_no _ _ _ (le-ltb (next_binding f) (end_binding f) (subst (λ (i : ℕ). end_binding f ≤ i) en (subst (λ (i : ℕ). i ≤ n) ee l)))

    -- The mark pc has word w.
    pub advice_done : (pc w : ℕ) → e ≤ n → pc ≡ slot_pc f → w ≡ code_at C pc → Phase (mark_left w f) a b r q → Phase (next_advice C f) a b r q
    advice_done pc w l ep ew p =
        as_phase (mark_left (code_at C (slot_pc f)) f) (next_advice C f) a b r q (λ log. sym (none_left l (state_of a log r) refl)) (subst (λ (u : ℕ). Phase (mark_left u f) a b r q) (ew ∙ ap (code_at C) ep) p)

    -- The room of the mark's body, if what is made has no more than there is.
    pub frames_of_mark : (pc w : ℕ) (log : List ℕ) → e ≤ n → pc ≡ slot_pc f → w ≡ code_at C pc → (next_advice C f (state_of a log r)).regs.frames ≤ frame_slots → r.frames + (depth_of w + 2) ≤ frame_slots
    frames_of_mark pc w log l ep ew k =
        subst (λ (u : ℕ). r.frames + (depth_of u + 2) ≤ frame_slots) (sym (ew ∙ ap (code_at C) ep)) (subst (λ (S : State). S.regs.frames ≤ frame_slots) (none_left l (state_of a log r) refl) k)
