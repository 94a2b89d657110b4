-- What a mark makes of the state, by the tests that lead there.
use Prim.Native.Nat.{ℕ, ◌-◌, ◌%◌, ◌≤◌, ◌<◌}
use native.Mathlib.Omega.{arith}
use mathlib.Core.Path.{◌≡◌, sym, ap, subst, ◌∙◌}
use mathlib.Core.Bool.{Bool, true, false, not}
use mathlib.Core.List.{List}
use lib.Dec.{eqb, leb}
use borrow.Author.Tests.{eq-eqb, ne_eqb, lt-leb, leb-true, not-true, not-false}
use Rattle.laws.proofs.Booleans.{and_l, and_r}
use Rattle.calculus.specs.declared.Outcome.{Outcome}
use Rattle.calculus.specs.Limits.{binding_limit, label_limit}
use Rattle.calculus.specs.Combinators.{choose}
use Rattle.calculus.specs.Report.{outcome_number}
use Rattle.vm_code.specs.Values.{body_of, unit_value}
use Rattle.vm_pools.specs.declared.Pool.{Pool}
use Rattle.vm_machine.specs.declared.Regs.{Regs}
use Rattle.vm_machine.specs.Registers.{fuel_bias, set_fuel, set_pools, halt_with, halt, stepped}
use Rattle.vm_pools.specs.Pools.{whole, set_bindings, within_quotas, mark_out}
use Rattle.vm_machine.specs.Memory.{binding_places, has_bit}
use Rattle.vm_machine.specs.States.{State, with_memory, if_fuel, if_capacity}
use Rattle.vm_machine.specs.Fits.{PoolFits, Fits}
use Rattle.vm_machine.specs.Reduce.{Bound, bind_matching, given, start_advice, reduce_mark}
use Rattle.vm_memory.proofs.Chosen.{chosen_yes, chosen_no}
use Rattle.vm_registers.specs.Phases.{state_of, Represents, Phase}
use Rattle.vm_registers.proofs.Made.{as_phase, stored_made, regs_made, stored_then}
use Rattle.vm_registers.proofs.Ended.{unpaid_left}
use Rattle.vm_marks.specs.Binds.{bound_in, Binds}

-- The bindings of a mark of label l with the value y, and what follows from them.
abbrev matched : ℕ → ℕ → State → Bound Pool
matched y l S = bind_matching S.regs.installed l y (record { memory = S.memory; count = S.regs.pools.bindings })

abbrev counted : Pool → Regs → Regs
counted b r = set_pools (set_bindings b r.pools) (stepped r)

abbrev following : ℕ → Bound Pool → State → State
following w B S =
    let n : ℕ = whole S.regs.pools.bindings in
    if_capacity (within_quotas B.count) (mark_out B.count) (with_memory B.memory S.regs S)
    (choose (eqb (whole B.count) n) (given w unit_value (with_memory B.memory S.regs S)) (start_advice w n (whole B.count) (with_memory B.memory (counted B.count S.regs) S)))

abbrev heard : ℕ → ℕ → ℕ → State → State
heard w y l S = following w (matched y l S) S

abbrev marked : ℕ → ℕ → ℕ → State → State
marked w y l S = choose (not (has_bit S.regs.named l)) (if_fuel S (given w unit_value S)) (heard w y l S)

-- Nothing is left of the budget.
pub unpaid_made : (f : State → State) (a : List ℕ) (r q : Regs) → r.fuel ≤ fuel_bias → q ≡ halt Outcome.Spent r → Phase (λ S. if_fuel S (f S)) a a r q
unpaid_made f a r q l e = regs_made (λ S. if_fuel S (f S)) a r q (halt Outcome.Spent r) (λ log. unpaid_left (state_of a log r) _ l) e

-- l is the label's number, and h whether some installed advice names it.
module _ (a : List ℕ) (r q : Regs) (w x y l : ℕ) (h : Bool) (d : l ≡ body_of x % label_limit) (e : h ≡ has_bit r.named l) where
  mark_as : (c : List ℕ) → Phase (marked w y l) a c r q → Phase (reduce_mark w x y) a c r q
  unfolding reduce_mark
  mark_as c p = as_phase (marked w y l) (reduce_mark w x y) a c r q (λ log. ap (λ (i : ℕ). marked w y i (state_of a log r)) d) p

  -- None names it.
  pub without_advice_made : (c : List ℕ) → not h ≡ true → Phase (λ S. if_fuel S (given w unit_value S)) a c r q → Phase (reduce_mark w x y) a c r q
  without_advice_made c t p =
      mark_as c (as_phase (λ S. if_fuel S (given w unit_value S)) (marked w y l) a c r q (λ log. sym (chosen_yes _ _ _ (ap not (sym e) ∙ t))) p)

  heard_made : (c : List ℕ) → not h ≡ false → Phase (heard w y l) a c r q → Phase (reduce_mark w x y) a c r q
  heard_made c t p = mark_as c (as_phase (heard w y l) (marked w y l) a c r q (λ log. sym (chosen_no _ _ _ (ap not (sym e) ∙ t))) p)

  -- Some names it; m bindings are in use then, and v says whether both halves have room for them.
  module _ (t : not h ≡ false) (b : List ℕ) (m : Pool) (k : Binds (bind_matching r.installed l y (bound_in a r.pools.bindings)) a b m) (v : Bool) (is : v ≡ within_quotas m) where
    abbrev B : Bound Pool
    B = bind_matching r.installed l y (bound_in a r.pools.bindings)

    within : {u : Bool} → v ≡ u → within_quotas B.count ≡ u
    within g = ap within_quotas (sym k.count) ∙ sym is ∙ g

    -- No room for all bindings.
    pub over_made : (o : ℕ) → not v ≡ true → o ≡ outcome_number (mark_out m) → q ≡ halt_with o r.fuel r → Phase (reduce_mark w x y) a b r q
    over_made o g f z =
        heard_made b t (stored_made (heard w y l) B.memory a b r q (halt (mark_out B.count) r) (λ log. sym (chosen_no _ _ _ (within (not-true v g)))) (z ∙ ap (λ (i : ℕ). halt_with i r.fuel r) (f ∙ ap (λ (i : Pool). outcome_number (mark_out i)) k.count)) k.memory)

    -- There is, and nothing is left of the budget.
    pub spent_made : not v ≡ false → r.fuel ≤ fuel_bias → q ≡ halt Outcome.Spent r → Phase (reduce_mark w x y) a b r q
    spent_made g left z =
        heard_made b t (stored_made (heard w y l) B.memory a b r q (halt Outcome.Spent r) (λ log. unpaid_left (with_memory B.memory r (state_of a log r)) _ left ∙ sym (chosen_yes _ _ _ (within (not-false v g)))) z k.memory)

    module _ (g : not v ≡ false) (left : fuel_bias < r.fuel) (i j : ℕ) (ei : i ≡ whole m) (ej : j ≡ whole r.pools.bindings) where
      goes : (log : List ℕ) → heard w y l (state_of a log r) ≡ choose (eqb (whole B.count) (whole r.pools.bindings)) (given w unit_value (with_memory B.memory r (state_of a log r))) (start_advice w (whole r.pools.bindings) (whole B.count) (with_memory B.memory (counted B.count r) (state_of a log r)))
      goes log = chosen_yes _ _ _ (within (not-false v g)) ∙ chosen_no _ _ _ (lt-leb r.fuel fuel_bias left)

      whole_is : whole B.count ≡ i
      whole_is = ap whole (sym k.count) ∙ sym ei

      -- No advice matches.
      pub none_made : (c : List ℕ) → i ≡ j → Phase (given w unit_value) b c r q → Phase (reduce_mark w x y) a c r q
      none_made c f p =
          heard_made c t (as_phase _ (heard w y l) a c r q (λ log. sym (goes log ∙ chosen_yes _ _ _ (eq-eqb (whole B.count) (whole r.pools.bindings) (whole_is ∙ f ∙ ej)))) (stored_then (given w unit_value) B.memory a b c r q k.memory p))

      -- The matching advice runs, from the registers s with a step less and these bindings.
      pub some_made : (c : List ℕ) (s : Regs) → (i ≡ j → ⊥) → s ≡ r → Phase (start_advice w j i) b c (set_pools (set_bindings m r.pools) (set_fuel (r.fuel - 1) s)) q → Phase (reduce_mark w x y) a c r q
      some_made c s f z p =
          let p₁ : Phase (start_advice w j i) b c (counted m r) q = subst (λ (u : Regs). Phase (start_advice w j i) b c (set_pools (set_bindings m r.pools) (set_fuel (r.fuel - 1) u)) q) z p in
          let p₂ : Phase (start_advice w (whole r.pools.bindings) i) b c (counted m r) q = subst (λ (n : ℕ). Phase (start_advice w n i) b c (counted m r) q) ej p₁ in
          let p₃ : Phase (start_advice w (whole r.pools.bindings) (whole m)) b c (counted m r) q = subst (λ (n : ℕ). Phase (start_advice w (whole r.pools.bindings) n) b c (counted m r) q) ei p₂ in
          let p₄ : Phase (start_advice w (whole r.pools.bindings) (whole B.count)) b c (counted B.count r) q = subst (λ (n : Pool). Phase (start_advice w (whole r.pools.bindings) (whole n)) b c (counted n r) q) k.count p₃ in
          let step : (log : List ℕ) → start_advice w (whole r.pools.bindings) (whole B.count) (with_memory B.memory (counted B.count r) (state_of a log r)) ≡ heard w y l (state_of a log r) =
          λ log. sym (goes log ∙ chosen_no _ _ _ (ne_eqb (whole B.count) (whole r.pools.bindings) (λ n. f (sym whole_is ∙ n ∙ sym ej)))) in
          heard_made c t (record {
            represents =
                λ log. subst (λ (T : State). Represents T a c log q) (step log) ((stored_then (start_advice w (whole r.pools.bindings) (whole B.count)) B.memory a b c (counted B.count r) q k.memory p₄).represents log);
          })

-- What is asked of the registers for the advice.
pub fits_same : (size : ℕ) (r s : Regs) → s ≡ r → Fits size r → Fits size s
fits_same size r s e f = subst (λ (v : Regs). Fits size v) (sym e) f

-- Both halves within their limit have places for all.
pub places_for : (m : Pool) (v : Bool) → v ≡ within_quotas m → not v ≡ false → whole m ≤ binding_places
places_for m v e g =
    let t : within_quotas m ≡ true = sym e ∙ not-false v g in
    let f : m.mainline ≤ binding_limit = leb-true m.mainline binding_limit (and_l (leb m.mainline binding_limit) _ t) in
    let o : m.others ≤ binding_limit = leb-true m.others binding_limit (and_r (leb m.mainline binding_limit) _ t) in
    omega arith

pub bound_places : (m : Pool) → PoolFits binding_limit m → whole m ≤ binding_places
bound_places m f = let g : m.mainline ≤ binding_limit = f.mainline in let o : m.others ≤ binding_limit = f.others in omega arith
