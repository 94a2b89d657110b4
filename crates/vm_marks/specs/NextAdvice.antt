-- Parts of the definitions of bind_one and next_advice (crate vm_machine, specs/Reduce.antt).
use Rattle.std.specs.Prelude.{ℕ, ◌+◌, ◌-◌, ◌%◌, ltb}
use Rattle.calculus.specs.Combinators.{choose}
use Rattle.vm_code.specs.Values.{unit_value}
use Rattle.vm_code.specs.Words.{depth_of}
use Rattle.vm_machine.specs.declared.Regs.{Regs}
use Rattle.vm_machine.specs.Registers.{set_pc, set_acc, set_env, set_frames, set_fuel}
use Rattle.vm_machine.specs.Memory.{Memory, binding_places, binding, put_binding, advice_target, advice_env, slot_env, slot_pc, next_binding, end_binding, put_advice}
use Rattle.vm_machine.specs.States.{State, with_regs, with_memory, completed}
use Rattle.vm_machine.specs.Reduce.{body_at}

-- The binding at place n, with the value v, of the advice with word a. A binding past the table is not made.
abbrev pub advised : ℕ → ℕ → ℕ → Memory → Memory
advised n v a M = choose (ltb n binding_places) (put_binding n (binding v (advice_target a) (advice_env a)) M) M

-- The next advice of the mark whose slot has the word f.
abbrev pub next_body : ℕ → State → State
next_body f S =
    let r : Regs = S.regs in
    let b : ℕ = next_binding f % binding_places in
    with_memory (put_advice r.frames 0 (slot_pc f) (slot_env f) (next_binding f + 1) (end_binding f) S.memory) (set_pc (body_at S.memory b) (set_acc unit_value (set_env b (set_fuel (r.fuel - 2) r)))) S

-- None is left of the mark with word w.
abbrev pub mark_left : ℕ → ℕ → State → State
mark_left w f S =
    let r : Regs = S.regs in
    completed w unit_value (with_regs (set_env (slot_env f) (set_frames (r.frames + (depth_of w + 2)) (set_fuel (r.fuel - 2) r))) S)
