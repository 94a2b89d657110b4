-- The call of a method (card 3): its body, begun where the object's word or the image says.
use Prim.Native.Nat.{ℕ, ◌%◌}
use mathlib.Core.Path.{◌≡◌, ap, ◌∙◌}
use mathlib.Core.List.{List}
use Rattle.vm_code.specs.Values.{body_of}
use Rattle.vm_code.specs.Words.{field_b, term_count}
use Rattle.vm_machine.specs.declared.Regs.{Regs}
use Rattle.vm_machine.specs.States.{State}
use Rattle.vm_machine.specs.Fetch.{Program, code_at}
use Rattle.vm_machine.specs.Turn.{method_at, call_body, reduce_call}
use Rattle.vm_registers.specs.Phases.{state_of, Phase}
use Rattle.vm_registers.proofs.Made.{as_phase}

-- The object x has term t; the method is b, begun at g.
module _ (C : Program) (w x t b g : ℕ) (e : t ≡ body_of x % term_count) (d : b ≡ field_b w) (q : g ≡ method_at C (code_at C t) b) where
  begun : (S : State) → call_body C w x g S ≡ reduce_call C w x S
  unfolding reduce_call
  begun S = ap (λ k. call_body C w x k S) (q ∙ (ap (method_at C (code_at C t)) d ∙ ap (λ n. method_at C (code_at C n) (field_b w)) e))

  pub method_made : (a c : List ℕ) (r s : Regs) → Phase (call_body C w x g) a c r s → Phase (reduce_call C w x) a c r s
  method_made a c r s p = as_phase (call_body C w x g) (reduce_call C w x) a c r s (λ log. begun (state_of a log r)) p
