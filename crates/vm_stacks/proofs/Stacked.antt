-- The stack is taken: its pieces, one after another.
use Prim.Native.Nat.{ℕ, suc, ◌+◌, ◌-◌, ◌≤◌, ◌<◌}
use native.Mathlib.Omega.{arith}
use mathlib.Core.Path.{◌≡◌, refl, sym, ap, subst, ◌∙◌}
use mathlib.Core.Bool.{Bool, true, false, not}
use mathlib.Core.List.{List}
use lib.ListN.{drop}
use borrow.Author.Tests.{not-true, not-false}
use Rattle.calculus.specs.declared.Outcome.{Outcome}
use Rattle.calculus.specs.Limits.{piece_limit}
use Rattle.calculus.specs.Report.{outcome_number}
use Rattle.base_bytes.specs.Memory.{memory_length}
use Rattle.vm_code.specs.Values.{bottom_value, kept_value}
use Rattle.vm_pools.specs.declared.Pools.{Pools}
use Rattle.vm_machine.specs.declared.Regs.{Regs}
use Rattle.vm_machine.specs.Registers.{fuel_bias, set_pools, halt_with, halt}
use Rattle.vm_pools.specs.Pools.{whole, charge_pieces, has_capacity, pieces_out}
use Rattle.vm_machine.specs.Quotas.{quota_of}
use Rattle.vm_machine.specs.Memory.{Memory, kept_at, put_piece}
use Rattle.vm_machine.specs.States.{State, with_memory}
use Rattle.vm_machine.specs.Reduce.{given, if_pieces}
use Rattle.vm_machine.specs.Stacks.{Stacked, stack_pieces, reduce_stack}
use Rattle.vm_memory.specs.View.{memory_of, Holds}
use Rattle.vm_registers.specs.Phases.{Phase}
use Rattle.vm_registers.proofs.Made.{as_phase, stored_set}
use Rattle.vm_registers.proofs.Ended.{given_as}
use Rattle.vm_registers.proofs.Quotas.{quota_made, quota_full, quota_spent}
use Rattle.vm_stacks.specs.StacksAndKeeps.{stacked_in, Stacks}

-- No piece is made yet: v is the empty stack.
pub pieces_start : (n p v : ℕ) (w : List ℕ) → v ≡ bottom_value → stack_pieces n 0 p (stacked_in w bottom_value) ≡ stack_pieces (n - 0) 0 p (stacked_in w v)
pieces_start n p v w e =
    let k : n ≡ n - 0 = omega arith in
    ap (λ (x : ℕ). stack_pieces x 0 p (stacked_in w bottom_value)) k ∙ ap (λ (x : ℕ). stack_pieces (n - 0) 0 p (stacked_in w x)) (sym e)

-- One piece more: x is the word of kept value i, and u the stack then.
pub pieces_on : (n i p : ℕ) (w w' : List ℕ) (v x u : ℕ) → i < n → x ≡ kept_at (memory_of w) i → Holds (put_piece (p + i) x v (memory_of w)) w w' → u ≡ kept_value (p + i)
    → stack_pieces (n - i) i p (stacked_in w v) ≡ stack_pieces (n - (i + 1)) (i + 1) p (stacked_in w' u)
unfolding stack_pieces
pieces_on n i p w w' v x u h e m d =
    let k : n - i ≡ suc (n - (i + 1)) = omega arith in
    let j : suc i ≡ i + 1 = omega arith in
    let M : ℕ → Memory = λ y. put_piece (p + i) y v (memory_of w) in
    ap (λ (y : ℕ). stack_pieces y i p (stacked_in w v)) k
    ∙ ap (λ (y : ℕ). stack_pieces (n - (i + 1)) y p (record { memory = M (kept_at (memory_of w) i); value = kept_value (p + i) })) j
    ∙ ap (λ (y : Memory). stack_pieces (n - (i + 1)) (i + 1) p (record { memory = y; value = kept_value (p + i) })) (ap M (sym e) ∙ sym m.memory)
    ∙ ap (λ (y : ℕ). stack_pieces (n - (i + 1)) (i + 1) p (stacked_in w' y)) (sym d)

-- All are made.
pub pieces_done : (K : Stacked) (n i p : ℕ) (w w' : List ℕ) (v : ℕ) → n ≤ i → K ≡ stack_pieces (n - i) i p (stacked_in w' v) → drop memory_length w' ≡ drop memory_length w → Stacks K w w' v
unfolding stack_pieces
pieces_done K n i p w w' v h e r =
    let k : n - i ≡ 0 = omega arith in
    let z : K ≡ stacked_in w' v = e ∙ ap (λ (x : ℕ). stack_pieces x i p (stacked_in w' v)) k in
    subst (λ (X : Stacked). Stacks X w w' v) (sym z) (record { memory = record { memory = refl; rest = r }; value = refl })

-- A step with all pieces; or their room, or the budget, does not do: the half h has room or not (card 9).
module _ (a b c : List ℕ) (r q : Regs) (w : ℕ) (h t : Bool) (is : h ≡ quota_of w) (test : t ≡ has_capacity piece_limit h r.kept r.pools.pieces) where
  -- The pieces, from place n on.
  abbrev taken : ℕ → Stacked
  taken n = stack_pieces r.kept 0 n (stacked_in a bottom_value)

  -- All of them, and the step: of a state with r's values that are kept.
  abbrev all : State → State
  all S =
      let K : Stacked = stack_pieces r.kept 0 (whole S.regs.pools.pieces) (record { memory = S.memory; value = bottom_value }) in
      given w K.value (with_memory K.memory (set_pools (charge_pieces (quota_of w) r.kept S.regs.pools) S.regs) S)

  as_stack : (z : List ℕ) (p : Regs) → Phase (λ S. if_pieces w r.kept S (all S)) a z r p → Phase (reduce_stack w) a z r p
  unfolding reduce_stack
  as_stack z p = as_phase (λ S. if_pieces w r.kept S (all S)) (reduce_stack w) a z r p (λ log. refl)

  pub stack_made : fuel_bias < r.fuel → (n v : ℕ) (s : Pools) → not t ≡ false → n ≡ whole r.pools.pieces → s ≡ charge_pieces h r.kept r.pools → Stacks (taken n) a b v → Phase (given w v) b c r q → Phase (reduce_stack w) a c r (set_pools s q)
  stack_made l n v s k d i m p =
      let M : Stacks (taken (whole r.pools.pieces)) a b v = subst (λ (z : ℕ). Stacks (taken z) a b v) d m in
      let z : s ≡ charge_pieces (quota_of w) r.kept r.pools = i ∙ ap (λ (g : Bool). charge_pieces g r.kept r.pools) is in
      subst (λ (x : Pools). Phase (reduce_stack w) a c r (set_pools x q)) (sym z)
      (as_stack c _
      (quota_made piece_limit r.kept (λ p. p.pieces) pieces_out w r h t is test all a _ c l (not-false t k)
      (stored_set (given w (taken (whole r.pools.pieces)).value) all (set_pools (charge_pieces (quota_of w) r.kept r.pools)) (taken (whole r.pools.pieces)).memory a b c r q (λ log. refl) M.memory (given_as b c r q w v _ M.value p))))

  pub stack_full : (o : ℕ) → not t ≡ true → o ≡ outcome_number (pieces_out h) → q ≡ halt_with o r.fuel r → Phase (reduce_stack w) a a r q
  stack_full o k e d = as_stack a q (quota_full piece_limit r.kept (λ p. p.pieces) pieces_out w r h t is test all a q o (not-true t k) e d)

  pub stack_spent : r.fuel ≤ fuel_bias → not t ≡ false → q ≡ halt Outcome.Spent r → Phase (reduce_stack w) a a r q
  stack_spent l k e = as_stack a q (quota_spent piece_limit r.kept (λ p. p.pieces) pieces_out w r h t is test all a q l (not-false t k) e)
