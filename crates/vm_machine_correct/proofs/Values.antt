-- The reductions that change no table: arithmetic, a read, a frame byte; a lower; a sequence and an if.
use Prim.Native.Nat.{ℕ, ◌<◌}
use native.Mathlib.Omega.{arith}
use mathlib.Core.Path.{◌≡◌, refl}
use mathlib.Core.Bool.{Bool, true, false}
use mathlib.Core.Option.{Option, none, some}
use lib.ListN.{get_elem?}
use Rattle.calculus.specs.Combinators.{choose}
use Rattle.calculus.specs.Numbers.{sum, difference, is_less, is_equal, frame_byte}
use Rattle.calculus.specs.Syntax.{Ty, Op2, read, byte, plus, minus, less, equal}
use Rattle.calculus.specs.State.{Cell, Given}
use Rattle.calculus.specs.Place.{Place}
use Rattle.calculus.specs.View.{number_of}
use Rattle.calculus.specs.Answer.{reduct, wrong, with}
use Rattle.closure_machine.specs.Closure.{CVal, CState, unload_val}
use Rattle.closure_machine.specs.Machine.{Control, eval, ret, Stack, CAnswer, reduce1_c, reduce2_c, reduce_seq_c, reduce_ite_c}
use Rattle.vm_theory.specs.Conf.{Site, Chain, Slots}
use Rattle.vm_theory.proofs.Located.{Located}
use Rattle.vm_code.specs.Values.{tag_of, body_of, value, unit_value, truth_value, number_value, tag_count}
use Rattle.vm_code.specs.Words.{field_b, field_c}
use Rattle.vm_theory.specs.Says.{SaysTarget}
use Rattle.vm_machine.specs.Registers.{stepped}
use Rattle.vm_machine.specs.Memory.{Memory, cell_at}
use Rattle.vm_machine.specs.Memory as words
use Rattle.vm_machine.specs.States.{State, with_regs, if_fuel}
use Rattle.vm_machine.specs.Fetch.{code_at, gone_to}
use Rattle.vm_machine.proofs.Branch.{picked}
use Rattle.vm_machine.specs.Reduce.{given}
use Rattle.vm_machine_correct.proofs.Setup.{Setup}
use Rattle.vm_machine_correct.proofs.Relations.{Sizes, sizes, IsVal, is_unit, is_truth, is_num}
use Rattle.vm_machine_correct.proofs.Tables.{grows_refl, slots_refl}
use Rattle.vm_machine_correct.proofs.Views.{AsUnit, a_unit, no_unit, as_unit_lem, AsTruth, a_truth, no_truth, as_truth, AsNumber, a_number, no_number, as_number_lem, AsCell, a_cell_lem, no_cell, as_cell}
use Rattle.vm_machine_correct.proofs.Steps.{measure, After, Stepping, no_way}
use Rattle.vm_machine_correct.proofs.Gives.{Left, gives, goes_on}

-- The tag and the body of a value.
pub tag_value : (t n : ℕ) → t < tag_count → tag_of (value t n) ≡ t
tag_value t n h = omega arith

pub body_value : (t n : ℕ) → t < tag_count → body_of (value t n) ≡ n
body_value t n h = omega arith

-- Arithmetic: its operators, and what they give.
pub data Arithmetic : Op2 → (ℕ → ℕ → ℕ) → (ℕ → ℕ → CVal) → Type 0 where
  a_plus : Arithmetic plus (λ x y. number_value (sum x y)) (λ x y. CVal.number (sum x y))
  a_minus : Arithmetic minus (λ x y. number_value (difference x y)) (λ x y. CVal.number (difference x y))
  a_less : Arithmetic less (λ x y. truth_value (is_less x y)) (λ x y. CVal.truth (is_less x y))
  an_equal : Arithmetic equal (λ x y. truth_value (is_equal x y)) (λ x y. CVal.truth (is_equal x y))

arithmetic_answer : {o : Op2} {f : ℕ → ℕ → ℕ} {g : ℕ → ℕ → CVal} → Arithmetic o f g → (G : Given) (X : Place) (s : CState) (t : Ty) (n n' : ℕ) → reduce2_c G X s o t (CVal.number n) (CVal.number n') ≡ reduct s (ret (g n n'))
unfolding with unload_val
arithmetic_answer a_plus G X s t n n' = refl
arithmetic_answer a_minus G X s t n n' = refl
arithmetic_answer a_less G X s t n n' = refl
arithmetic_answer an_equal G X s t n n' = refl

first_wrong : {o : Op2} {f : ℕ → ℕ → ℕ} {g : ℕ → ℕ → CVal} → Arithmetic o f g → (G : Given) (X : Place) (s : CState) (t : Ty) (v u : CVal) → number_of (unload_val v) ≡ none → reduce2_c G X s o t v u ≡ wrong
unfolding with
first_wrong a_plus G X s t v u p = rw p
first_wrong a_minus G X s t v u p = rw p
first_wrong a_less G X s t v u p = rw p
first_wrong an_equal G X s t v u p = rw p

second_wrong : {o : Op2} {f : ℕ → ℕ → ℕ} {g : ℕ → ℕ → CVal} → Arithmetic o f g → (G : Given) (X : Place) (s : CState) (t : Ty) (n : ℕ) (u : CVal) → number_of (unload_val u) ≡ none
    → reduce2_c G X s o t (CVal.number n) u ≡ wrong
unfolding with unload_val
second_wrong a_plus G X s t n u p = rw p
second_wrong a_minus G X s t n u p = rw p
second_wrong a_less G X s t n u p = rw p
second_wrong an_equal G X s t n u p = rw p

module _ (Θ : Setup) (M : Memory) (z : Sizes) where
  number_is : (n : ℕ) → IsVal Θ M z (number_value n) (CVal.number n)
  number_is n = is_num (tag_value 2 n (omega arith)) (body_value 2 n (omega arith))

  truth_is : (b : Bool) → IsVal Θ M z (truth_value b) (CVal.truth b)
  truth_is true = is_truth refl refl
  truth_is false = is_truth refl refl

  arithmetic_is : {o : Op2} {f : ℕ → ℕ → ℕ} {g : ℕ → ℕ → CVal} → Arithmetic o f g → (n n' : ℕ) → IsVal Θ M z (f n n') (g n n')
  arithmetic_is a_plus n n' = number_is (sum n n')
  arithmetic_is a_minus n n' = number_is (difference n n')
  arithmetic_is a_less n n' = truth_is (is_less n n')
  arithmetic_is an_equal n n' = truth_is (is_equal n n')

module _ (Θ : Setup) (S : State) (k : ℕ) (s : CState) (m : ℕ) (P : Site) (A : Chain) (D : Slots) (c : Control) (F : Stack) where
  abbrev At : CAnswer → Type 0
  At a = Stepping Θ S k s m P A D c F a

  abbrev Progresses : State → Type 0
  Progresses S' = After Θ (measure S) S'

  -- The step is made, if one is left of the budget.
  abbrev Made : State → Type 0
  Made S' = Progresses (if_fuel S S')

  abbrev Is : ℕ → CVal → Type 0
  Is w v = IsVal Θ S.memory (sizes S.regs) w v

  -- Nothing changes but the budget.
  unchanged : {a : CAnswer} → At a → Left Θ S k s m P A D c F S.memory S.log (stepped S.regs) s
  unchanged R =
      record { regs = record { env = refl; frames = refl; fuel = refl; pc = refl; kept = refl }; store = R.place.common.store; used = R.place.common.used; grows = grows_refl S.memory (sizes S.regs); slots = slots_refl S.memory; keeps = λ i. refl }

  pub value_now : {a : CAnswer} → At a → (x : ℕ) (v : CVal) → a ≡ reduct s (ret v) → Is x v → Made (given (code_at Θ.program m) x S)
  value_now R x v e i = gives R S.memory S.log (stepped S.regs) s (unchanged R) x v e i

  term_now : {a : CAnswer} → At a → (g f : ℕ) → SaysTarget Θ.table g f → Located Θ.linked f P.skel P.dom → a ≡ reduct s (eval (Θ.table.term f) P.env) → Made (gone_to Θ.program (code_at Θ.program m) g (with_regs (stepped S.regs) S))
  term_now R g f t l e = goes_on R S.memory S.log (stepped S.regs) s (unchanged R) g f t l e

  pub lower_now : {x : ℕ} {v : CVal} → Is x v → At (reduce_seq_c s (ret CVal.unit) v) → Made (given (code_at Θ.program m) unit_value S)
  unfolding with unload_val
  lower_now {x} {v} i R = try (as_unit_lem Θ S.memory (sizes S.regs) i) R
    where
      try : {u : CVal} → AsUnit Θ S.memory (sizes S.regs) x u → At (reduce_seq_c s (ret CVal.unit) u) → Made (given (code_at Θ.program m) unit_value S)
      try (a_unit p) Q = value_now Q unit_value CVal.unit refl (is_unit refl)
      try (no_unit p) Q = no_way Q (rw p)

  pub seq_now : {x : ℕ} {v : CVal} (f : ℕ) → Is x v → SaysTarget Θ.table (field_b (code_at Θ.program m)) f → Located Θ.linked f P.skel P.dom → At (reduce_seq_c s (eval (Θ.table.term f) P.env) v)
      → Made (gone_to Θ.program (code_at Θ.program m) (field_b (code_at Θ.program m)) (with_regs (stepped S.regs) S))
  unfolding with unload_val
  seq_now {x} {v} f i t l R = try (as_unit_lem Θ S.memory (sizes S.regs) i) R
    where
      try : {u : CVal} → AsUnit Θ S.memory (sizes S.regs) x u → At (reduce_seq_c s (eval (Θ.table.term f) P.env) u)
          → Made (gone_to Θ.program (code_at Θ.program m) (field_b (code_at Θ.program m)) (with_regs (stepped S.regs) S))
      try (a_unit p) Q = term_now Q (field_b (code_at Θ.program m)) f t l refl
      try (no_unit p) Q = no_way Q (rw p)

  pub ite_now : {x : ℕ} {v : CVal} (f g : ℕ) → Is x v → SaysTarget Θ.table (field_b (code_at Θ.program m)) f → SaysTarget Θ.table (field_c (code_at Θ.program m)) g → Located Θ.linked f P.skel P.dom → Located Θ.linked g P.skel P.dom
      → At (reduce_ite_c s (Θ.table.term f) (Θ.table.term g) P.env v) → Made (gone_to Θ.program (code_at Θ.program m) (picked (code_at Θ.program m) x) (with_regs (stepped S.regs) S))
  unfolding with unload_val
  ite_now {x} {v} f g i tf tg lf lg R = try (as_truth Θ S.memory (sizes S.regs) i) R
    where
      branch : (b : Bool) → body_of x ≡ choose b 1 0 → At (reduct s (eval (choose b (Θ.table.term f) (Θ.table.term g)) P.env)) → Made (gone_to Θ.program (code_at Θ.program m) (picked (code_at Θ.program m) x) (with_regs (stepped S.regs) S))
      branch true q Q = rw q (term_now Q (field_b (code_at Θ.program m)) f tf lf refl)
      branch false q Q = rw q (term_now Q (field_c (code_at Θ.program m)) g tg lg refl)

      try : {u : CVal} → AsTruth Θ S.memory (sizes S.regs) x u → At (reduce_ite_c s (Θ.table.term f) (Θ.table.term g) P.env u)
          → Made (gone_to Θ.program (code_at Θ.program m) (picked (code_at Θ.program m) x) (with_regs (stepped S.regs) S))
      try (a_truth {b = b} p q) Q = branch b q Q
      try (no_truth p) Q = no_way Q (rw p)

  pub byte_now : (X : Place) (t : Ty) {x : ℕ} {v : CVal} → Is x v → At (reduce1_c Θ.given X s byte t v) → Made (given (code_at Θ.program m) (number_value (frame_byte Θ.given.frame (body_of x))) S)
  unfolding with unload_val
  byte_now X t {x} i R = try (as_number_lem Θ S.memory (sizes S.regs) i) R
    where
      try : {u : CVal} → AsNumber Θ S.memory (sizes S.regs) x u → At (reduce1_c Θ.given X s byte t u) → Made (given (code_at Θ.program m) (number_value (frame_byte Θ.given.frame (body_of x))) S)
      try (a_number {n = n} p q) Q =
          rw q
          (value_now Q (number_value (frame_byte Θ.given.frame n)) (CVal.number (frame_byte Θ.given.frame n)) refl (number_is Θ S.memory (sizes S.regs) (frame_byte Θ.given.frame n)))
      try (no_number p) Q = no_way Q (rw p)

  pub read_now : (X : Place) (t : Ty) {x : ℕ} {v : CVal} → Is x v → At (reduce1_c Θ.given X s read t v) → Made (given (code_at Θ.program m) (cell_at S.memory (words.cell_of x)) S)
  unfolding with unload_val
  read_now X t {x} i R = try (as_cell Θ S.memory (sizes S.regs) i) R
    where
      try : {u : CVal} → AsCell Θ S.memory (sizes S.regs) x u → At (reduce1_c Θ.given X s read t u) → Made (given (code_at Θ.program m) (cell_at S.memory (words.cell_of x)) S)
      try (a_cell_lem {r = j} p q) Q = rw q (found (get_elem? s.cells j) refl Q)
        where
          found : (o : Option (Cell CVal)) → get_elem? s.cells j ≡ o → At (with o (λ h. reduct s (ret h.held))) → Made (given (code_at Θ.program m) (cell_at S.memory j) S)
          found none e Q = no_way Q refl
          found (some h) e Q = value_now Q (cell_at S.memory j) h.held refl (Q.place.common.store.are_cells j h e).value
      try (no_cell p) Q = no_way Q (rw p)

  pub arithmetic_now : {o : Op2} {f : ℕ → ℕ → ℕ} {g : ℕ → ℕ → CVal} → Arithmetic o f g → (X : Place) (t : Ty) {x y : ℕ} {v u : CVal} → Is x v → Is y u → At (reduce2_c Θ.given X s o t v u)
      → Made (given (code_at Θ.program m) (f (body_of x) (body_of y)) S)
  arithmetic_now {o} {f} {g} a X t {x} {y} i j R = try (as_number_lem Θ S.memory (sizes S.regs) i) (as_number_lem Θ S.memory (sizes S.regs) j) R
    where
      try : {v u : CVal} → AsNumber Θ S.memory (sizes S.regs) x v → AsNumber Θ S.memory (sizes S.regs) y u → At (reduce2_c Θ.given X s o t v u)
          → Made (given (code_at Θ.program m) (f (body_of x) (body_of y)) S)
      try (a_number {n = n} p q) (a_number {n = n'} p' q') Q = rw (q, q') (value_now Q (f n n') (g n n') (arithmetic_answer a Θ.given X s t n n') (arithmetic_is Θ S.memory (sizes S.regs) a n n'))
      try (a_number {n = n} p q) (no_number {v = u} e) Q = no_way Q (second_wrong a Θ.given X s t n u e)
      try {u = u} (no_number {v = v} e) h Q = no_way Q (first_wrong a Θ.given X s t v u e)
