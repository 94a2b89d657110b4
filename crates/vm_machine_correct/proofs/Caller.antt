-- What the turn of a body that is done does, by the slot that the body runs over.
use Prim.Native.Nat.{ℕ, ◌<◌}
use native.Mathlib.Omega.{arith}
use mathlib.Core.Path.{◌≡◌, ap, ◌∙◌}
use mathlib.Core.Bool.{false}
use mathlib.Core.List.{List}
use lib.Dec.{eqb}
use borrow.Author.Tests.{eq-eqb, ne_eqb}
use Rattle.calculus.specs.declared.Outcome.{Outcome}
use Rattle.vm_code.specs.Words.{class_of, return_pc}
use Rattle.vm_code.specs.Classes.{return, return_class, class_with}
use Rattle.vm_machine.specs.declared.Move.{Move}
use Rattle.vm_machine.specs.Registers.{frame_slots, halt}
use Rattle.vm_machine.specs.Memory.{slot_at, slot_kind, call_frame, advice_frame, pointcut_frame, keep_frame}
use Rattle.vm_machine.specs.States.{State, with_regs}
use Rattle.vm_machine.specs.Fetch.{Program, code_at}
use Rattle.vm_machine.specs.declared.Act.{Act}
use Rattle.vm_machine.specs.Moves.{move_to, return_move, move_of}
use Rattle.vm_machine.specs.Reduce.{next_advice}
use Rattle.vm_machine.specs.Stacks.{leave_keep}
use Rattle.vm_machine.specs.Turn.{resumed, returned, performed, turn}

module _ (C : Program) (frame : List ℕ) (S : State) (pc : S.regs.pc ≡ return_pc) (class : class_of (code_at C return_pc) ≡ return_class) where
  abbrev word : ℕ
  word = code_at C return_pc

  turn_caller : turn C frame S ≡ performed C word (return_move S.memory S.regs) S
  unfolding turn move_of class_with
  turn_caller = let q : class_with (class_of word) ≡ return = ap class_with class in rw (pc, q)

  by_move : (m : Move) → return_move S.memory S.regs ≡ m → turn C frame S ≡ performed C word m S
  by_move m e = turn_caller ∙ ap (λ (n : Move). performed C word n S) e

  pub caller_done : S.regs.frames ≡ frame_slots → turn C frame S ≡ with_regs (halt Outcome.Done S.regs) S
  unfolding performed
  caller_done q = by_move (move_to Act.Done 0 0) (rw (eq-eqb S.regs.frames frame_slots q))

  module _ (f : ℕ) (is : slot_at S.memory S.regs.frames 0 ≡ f) (inside : S.regs.frames < frame_slots) where
    no_top : eqb S.regs.frames frame_slots ≡ false
    no_top = ne_eqb S.regs.frames frame_slots (λ x. omega arith)

    pub caller_call : slot_kind f ≡ call_frame → turn C frame S ≡ returned C f S
    unfolding performed
    caller_call q = by_move (move_to Act.Return f 0) (rw (no_top, is, q))

    pub caller_advice : slot_kind f ≡ advice_frame → turn C frame S ≡ next_advice C f S
    unfolding performed
    caller_advice q = by_move (move_to Act.Next f 0) (rw (no_top, is, q))

    pub caller_pointcut : slot_kind f ≡ pointcut_frame → turn C frame S ≡ resumed C f S
    unfolding performed
    caller_pointcut q = by_move (move_to Act.Resume f 0) (rw (no_top, is, q))

    pub caller_keep : slot_kind f ≡ keep_frame → turn C frame S ≡ leave_keep C f S
    unfolding performed
    caller_keep q = by_move (move_to Act.Leave f 0) (rw (no_top, is, q))
