-- What a print makes of the state and of the log.
use Prim.Native.Nat.{ℕ, ◌+◌, ◌-◌, ◌≤◌, ◌<◌}
use mathlib.Core.Path.{◌≡◌, refl, sym, ap, subst, ◌∙◌}
use mathlib.Core.List.{List}
use lib.ListN.{length}
use borrow.Author.Tests.{le-leb, lt-leb}
use Rattle.calculus.specs.declared.Outcome.{Outcome}
use Rattle.calculus.specs.Limits.{log_record_length}
use Rattle.base_bytes.specs.Bytes.{over}
use Rattle.base_bytes.specs.Records.{log_record}
use Rattle.vm_code.specs.Values.{body_of, unit_value}
use Rattle.vm_code.specs.Words.{domain_of}
use Rattle.vm_machine.specs.declared.Regs.{Regs}
use Rattle.vm_machine.specs.Registers.{fuel_bias, set_logged, halt}
use Rattle.vm_machine.specs.States.{State}
use Rattle.vm_machine.specs.Reduce.{given, reduce_print}
use Rattle.vm_memory.proofs.Chosen.{chosen_yes, chosen_no}
use Rattle.vm_registers.specs.Phases.{state_of, Represents, Phase}

-- A print of the number x, whose body is n, at the domain d.
module _ (a b log log' : List ℕ) (r q : Regs) (w x : ℕ) where
  pub no_capacity : length log - r.logged < log_record_length → q ≡ halt Outcome.Log r → Represents (reduce_print w x (state_of a log r)) a a log q
  no_capacity h e =
      subst (λ (T : State). Represents T a a log q) (sym (chosen_no _ _ _ (lt-leb log_record_length (length log - r.logged) h))) (record { regs = e; memory = record { memory = refl; rest = refl }; logged = refl })

  pub printed : fuel_bias < r.fuel → (d n : ℕ) → log_record_length ≤ length log - r.logged → d ≡ domain_of w → n ≡ body_of x → log' ≡ over r.logged (log_record d n) log → Phase (given w unit_value) a b r q → Represents (reduce_print w x (state_of a log r)) a b log' (set_logged (r.logged + log_record_length) q)
  printed left d n h e f o p =
      let written : log' ≡ over r.logged (log_record (domain_of w) (body_of x)) log = o ∙ ap (λ (i : ℕ). over r.logged (log_record i n) log) e ∙ ap (λ (i : ℕ). over r.logged (log_record (domain_of w) i) log) f in
      let m : Represents (given w unit_value (state_of a log r)) a b log q = p.represents log in
      subst (λ (T : State). Represents T a b log' (set_logged (r.logged + log_record_length) q)) (sym (chosen_yes _ _ _ (le-leb log_record_length (length log - r.logged) h) ∙ chosen_no _ _ _ (lt-leb r.fuel fuel_bias left))) (record { regs = ap (set_logged (r.logged + log_record_length)) m.regs; memory = m.memory; logged = written })
