-- One instruction, but for pointcuts and returns: the machine makes the step that the run makes.
use Prim.Native.Nat.{ℕ, suc, ◌+◌, ◌<◌}
use native.Mathlib.Omega.{arith}
use mathlib.Core.Path.{◌≡◌, refl, sym, ap, ◌∙◌}
use mathlib.Core.Bool.{false, Bool, true, true≢false}
use mathlib.Core.List.{◌∷◌}
use lib.ListN.{length}
use lib.Dec.{ltb}
use Rattle.calculus.specs.Combinators.{choose}
use Rattle.calculus.specs.Plain.{dom_of, methods_of, method_dom}
use Rattle.calculus.specs.Syntax.{Ty, Tm, Tms, Op0, Op1, Op2, op0, new_label, abort, takedown, the_stack, print, install, read, byte, new_cell, call, app, mark, store, plus, minus, less, equal, Dom, val, var, lam, op1, op2, seq, ite, split, pcd, adv, lower, obj, keep, match}
use Rattle.calculus.specs.Place.{Place, framed}
use Rattle.closure_machine.specs.Closure.{CVal, Env, CState, close, closes, unload_val, unload_env, unload_state}
use Rattle.closure_machine.specs.Machine.{Control, eval, ret, op2_r, Stack, CAnswer, reduces, place_at, reduce0_c, reduce2_c, move}
use Rattle.vm_theory.specs.Code.{Head, op1_h, seq_h, ite_h, split_h, adv_h, lower_h, acc, slot, in_place_term, Instr, one, two, fetch, Operand, Skel, is_atom}
use Rattle.vm_theory.specs.Conf.{Site, Chain, Slots, Conf, kept_by, depth_at, dom_at, place_of}
use Rattle.vm_theory.specs.Stands.{head_frame, second_frame, stack_at}
use Rattle.vm_theory.specs.Heads.{reduce_head}
use Rattle.vm_theory.specs.Table.{HeadN, op1_n, seq_n, ite_n, split_n, adv_n, lower_n, HeadN2, op2_n, keep_n, one_n, two_n, head_of, head_of2, operand_at, is_atom_at}
use Rattle.vm_theory.proofs.Reach.{Reach}
use Rattle.vm_theory.proofs.Places.{site_place, site_kept}
use Rattle.vm_theory.proofs.Located.{Located, l_operand, l_rest, l_then, l_else, l_split, l_advice, l_first, l_second, l_keep, describes}
use Rattle.vm_code.specs.Words.{class_of, field_a, field_b, operand_b, depth_of, domain_of, term_count, a_f}
use Rattle.image.specs.Kinds.{named}
use Rattle.vm_code.specs.Classes.{Mode, Unary, Binary, Class, nullary, unary, binary, unary_class, binary_class, class_with, nullary_class, nullary_of, variable, atom}
use Rattle.vm_theory.specs.Says.{term_mode, term_field, unary_op, unary_of, binary_of, binary_of2, SaysOp, SaysHead, SaysHead2}
use Rattle.vm_code.proofs.Numbers.{unary_class_lem, binary_class_lem, single}
use Rattle.vm_machine.specs.declared.Regs.{Regs}
use Rattle.vm_machine.specs.Memory.{Memory, word_at, slot_at, binding_places}
use Rattle.vm_machine.specs.States.{State, judged}
use Rattle.vm_machine.specs.Fetch.{code_at, only_operand, first_operand, second_operand, operand_value, first_worked}
use Rattle.vm_machine.specs.Moves.{unary_move, binary_move, move_by, move_of, nullary_move}
use Rattle.vm_machine.specs.Turn.{performed, turn}
use Rattle.vm_machine.proofs.Branch.{branch_performed}
use Rattle.vm_theory.proofs.Bound.{BoundOperand}
use Rattle.vm_machine_correct.proofs.Setup.{Setup}
use Rattle.vm_machine_correct.proofs.Relations.{sizes, IsVal, Sizes, val_at, IsEnv}
use Rattle.vm_machine_correct.proofs.Slots.{slot_of, slot_word_lem}
use Rattle.vm_machine_correct.proofs.Simulation.{InPlace, Simulates, Ready}
use Rattle.vm_machine_correct.proofs.Steps.{measure, After, Redexed, Stepping, judged_now, aborts}
use Rattle.vm_machine_correct.proofs.Values.{a_plus, a_minus, a_less, an_equal, lower_now, seq_now, ite_now, byte_now, read_now, arithmetic_now}
use Rattle.vm_machine_correct.proofs.ReduceTables.{label_now, print_now, install_now}
use Rattle.vm_machine_correct.proofs.ReduceCells.{store_now, cell_now}
use Rattle.vm_machine_correct.proofs.ReducePieces.{pair_now, advice_now}
use Rattle.vm_machine_correct.proofs.ReduceBindings.{apply_now, call_now, split_now}
use Rattle.vm_machine_correct.proofs.Mark.{mark_now}
use Rattle.vm_machine_correct.proofs.ReduceStack.{stack_now}
use Rattle.vm_machine_correct.proofs.Takedown.{takedown_now}
use Rattle.vm_machine_correct.proofs.Keeps.{keep_now}
use Rattle.vm_machine_correct.proofs.Fetch.{in_place, worked_mode}

-- The operands of an instruction: what the machine fetches stands for what threaded code fetches.
module _ (Θ : Setup) (M : Memory) (z : Sizes) (r : Regs) (ρ : Env) (e : IsEnv Θ M z r.env ρ) (fits : r.env < binding_places) where
  abbrev Is : ℕ → CVal → Type 0
  Is w v = IsVal Θ M z w v

  module _ (hv : CVal) (sw : ℕ) (sv : CVal) where
    -- The operand x, whose value is u, in the word hw, if it was worked out.
    operand_is : (x f hw : ℕ) (o : Operand) (b : Bool) → is_atom_at Θ.table x ≡ b → f ≡ term_field (Θ.table.term x) x → f < term_count → {σ : Skel} {c : Dom} → Located Θ.linked x σ c
        → BoundOperand (choose b (in_place_term (Θ.table.term x)) o) ρ → (b ≡ false → Is hw (fetch o hv ρ sv)) → Is (operand_value Θ.program M (term_mode (Θ.table.term x)) r.env f hw) (fetch (choose b (in_place_term (Θ.table.term x)) o) hv ρ sv)
    operand_is x f hw o true a q h l b i = in_place Θ M z r.env ρ e fits x f hw (Θ.table.term x) refl a q h l b
    operand_is x f hw o false a q h l b i = rw (worked_mode Θ (Θ.table.term x) a) (i refl)

    pub only_is : (w x : ℕ) → field_a w ≡ term_field (Θ.table.term x) x → {σ : Skel} {c : Dom} → Located Θ.linked x σ c → BoundOperand (choose (is_atom_at Θ.table x) (in_place_term (Θ.table.term x)) acc) ρ
        → Ready Is r.acc hv sw sv (choose (is_atom_at Θ.table x) (in_place_term (Θ.table.term x)) acc) → Is (only_operand Θ.program M (term_mode (Θ.table.term x)) r w) (fetch (choose (is_atom_at Θ.table x) (in_place_term (Θ.table.term x)) acc) hv ρ sv)
    only_is w x q l b i = operand_is x (field_a w) r.acc acc (is_atom_at Θ.table x) refl q (omega arith) l b (λ n. at (is_atom_at Θ.table x) n i)
      where
        at : (t : Bool) → t ≡ false → Ready Is r.acc hv sw sv (choose t (in_place_term (Θ.table.term x)) acc) → Is r.acc hv
        at true n i = absurd (true≢false n)
        at false n i = i

    pub second_is : (w x : ℕ) → operand_b w ≡ term_field (Θ.table.term x) x → {σ : Skel} {c : Dom} → Located Θ.linked x σ c → BoundOperand (choose (is_atom_at Θ.table x) (in_place_term (Θ.table.term x)) acc) ρ
        → Ready Is r.acc hv sw sv (choose (is_atom_at Θ.table x) (in_place_term (Θ.table.term x)) acc) → Is (second_operand Θ.program M (term_mode (Θ.table.term x)) r w) (fetch (choose (is_atom_at Θ.table x) (in_place_term (Θ.table.term x)) acc) hv ρ sv)
    second_is w x q l b i = operand_is x (operand_b w) r.acc acc (is_atom_at Θ.table x) refl q (omega arith) l b (λ n. at (is_atom_at Θ.table x) n i)
      where
        at : (t : Bool) → t ≡ false → Ready Is r.acc hv sw sv (choose t (in_place_term (Θ.table.term x)) acc) → Is r.acc hv
        at true n i = absurd (true≢false n)
        at false n i = i

    -- The first of two that were worked out waits in the slot.
    worked_first : (y : Tm) (w : ℕ) → is_atom y ≡ true → first_worked Θ.program M (term_mode y) r w ≡ r.acc
    worked_first (val v) w a = refl
    worked_first (var k) w a = try (ltb k a_f.size)
      where
        try : (b : Bool) → first_worked Θ.program M (choose b variable atom) r w ≡ r.acc
        try true = refl
        try false = refl
    worked_first (lam t b) w a = refl
    worked_first (op0 o t) w a = absurd (true≢false (sym a))
    worked_first (op1 o t i) w a = absurd (true≢false (sym a))
    worked_first (op2 o t i g) w a = absurd (true≢false (sym a))
    worked_first (seq i g) w a = absurd (true≢false (sym a))
    worked_first (ite i g j) w a = absurd (true≢false (sym a))
    worked_first (split i g) w a = absurd (true≢false (sym a))
    worked_first (pcd es) w a = absurd (true≢false (sym a))
    worked_first (adv d i g) w a = absurd (true≢false (sym a))
    worked_first (lower d i) w a = absurd (true≢false (sym a))
    worked_first (obj t bs) w a = refl
    worked_first (keep i g j) w a = absurd (true≢false (sym a))
    worked_first (match p es g j) w a = absurd (true≢false (sym a))

    pub first_is : (w x y : ℕ) → slot_at M r.frames (depth_of w + 1) ≡ sw → field_a w ≡ term_field (Θ.table.term x) x → {σ : Skel} {c : Dom} → Located Θ.linked x σ c
        → BoundOperand (choose (is_atom_at Θ.table x) (in_place_term (Θ.table.term x)) (choose (is_atom_at Θ.table y) acc slot)) ρ → Ready Is r.acc hv sw sv (choose (is_atom_at Θ.table x) (in_place_term (Θ.table.term x)) (choose (is_atom_at Θ.table y) acc slot))
        → Is (first_operand Θ.program M (term_mode (Θ.table.term x)) (term_mode (Θ.table.term y)) r w) (fetch (choose (is_atom_at Θ.table x) (in_place_term (Θ.table.term x)) (choose (is_atom_at Θ.table y) acc slot)) hv ρ sv)
    first_is w x y s q l b i = operand_is x (field_a w) (first_worked Θ.program M (term_mode (Θ.table.term y)) r w) (choose (is_atom_at Θ.table y) acc slot) (is_atom_at Θ.table x) refl q (omega arith) l b (λ n. at (is_atom_at Θ.table x) n i)
      where
        waits : (u : Bool) → is_atom_at Θ.table y ≡ u → Ready Is r.acc hv sw sv (choose u acc slot) → Is (first_worked Θ.program M (term_mode (Θ.table.term y)) r w) (fetch (choose u acc slot) hv ρ sv)
        waits true a i = val_at Θ M z (worked_first (Θ.table.term y) w a) i
        waits false a i = rw (worked_mode Θ (Θ.table.term y) a) (val_at Θ M z s i)

        at : (t : Bool) → t ≡ false → Ready Is r.acc hv sw sv (choose t (in_place_term (Θ.table.term x)) (choose (is_atom_at Θ.table y) acc slot)) → Is (first_worked Θ.program M (term_mode (Θ.table.term y)) r w) (fetch (choose (is_atom_at Θ.table y) acc slot) hv ρ sv)
        at true n i = absurd (true≢false n)
        at false n i = waits (is_atom_at Θ.table y) refl i

module _ (Θ : Setup) (S : State) (k : ℕ) (s : CState) (m : ℕ) (hv : CVal) (P : Site) (A : Chain) (D : Slots) (no_atom : is_atom_at Θ.table m ≡ false)
    (located : Located Θ.linked m P.skel P.dom) (pc : S.regs.pc ≡ m) where
  abbrev conf : Instr → Conf
  conf i = record { instr = i; acc = hv; site = P; chain = A; slots = D }

  abbrev Progresses : State → Type 0
  Progresses S' = After Θ (measure S) S'

  abbrev M : Memory
  M = S.memory

  abbrev r : Regs
  r = S.regs

  abbrev w : ℕ
  w = code_at Θ.program m

  abbrev K : Stack
  K = stack_at P A D

  -- What the turn does, by the class of its word.
  pub turn_by : (d : Class) → class_with (class_of w) ≡ d → turn Θ.program Θ.given.frame S ≡ performed Θ.program w (move_by Θ.program Θ.given.frame M r w d) S
  unfolding turn move_of
  turn_by d q = rw (pc, q)

  turn_unary : (o : Unary) (d : Mode) → class_of w ≡ unary_class o d → turn Θ.program Θ.given.frame S ≡ performed Θ.program w (unary_move Θ.given.frame M o (only_operand Θ.program M d r w)) S
  turn_unary o d q = turn_by (unary o d) (ap class_with q ∙ unary_class_lem o d)

  turn_binary : (o : Binary) (d f : Mode) → class_of w ≡ binary_class o d f → turn Θ.program Θ.given.frame S ≡ performed Θ.program w (binary_move o (first_operand Θ.program M d f r w) (second_operand Θ.program M f r w)) S
  turn_binary o d f q = turn_by (binary o d f) (ap class_with q ∙ binary_class_lem o d f)

  module _ (i : Instr) (now : Simulates Θ S k s (conf i)) where
    pub in_place_of : InPlace Θ S k s m P A D
    in_place_of =
        record {
          common = now.common;
          no_atom = no_atom;
          located = located;
          stood = (now.good.dom, now.good.bound.1);
          fine = now.good.fine;
          env = now.env;
          env_fits = now.env_fits;
          frames = now.frames;
          waits = now.waits;
          chain = now.chain;
          kept = now.kept;
        }

  -- The closure machine has come to the same redex.
  module _ (p : InPlace Θ S k s m P A D) where
    at : place_at K ≡ place_of P A
    at = site_place P A D p.stood.0 p.fine

    abbrev Red : Control → Stack → CAnswer → Type 0
    Red c F a = Redexed Θ S k s m P A D c F a

    nullary_red : (o : Op0) (y : Ty) → Reach Θ.sound k s (eval (op0 o y) P.env) K → Red (eval (op0 o y) P.env) K (reduce0_c Θ.given (place_of P A) (kept_by A) s o y)
    nullary_red o y reach = record { place = p; pc = pc; reach = reach; is = rw (at, site_kept P A D) }

    head_red : (H : Head) (v : CVal) → Reach Θ.sound k s (ret v) (head_frame H P.env ∷ K) → Red (ret v) (head_frame H P.env ∷ K) (reduce_head Θ.given (place_of P A) s H P.env v)
    head_red H v reach = record { place = p; pc = pc; reach = reach; is = by H }
      where
        by : (H : Head) → move (ret v) (head_frame H P.env ∷ K) Θ.given s ≡ reduces (framed (place_of P A) (reduce_head Θ.given (place_of P A) s H P.env v)) K
        by (op1_h o y) = rw at
        by (seq_h f) = rw at
        by (ite_h f g) = rw at
        by (split_h f) = rw at
        by (adv_h d b) = rw at
        by (lower_h d) = rw at

    two_red : (o : Op2) (y : Ty) (v u : CVal) → Reach Θ.sound k s (ret u) (op2_r o y v ∷ K) → Red (ret u) (op2_r o y v ∷ K) (reduce2_c Θ.given (place_of P A) s o y v u)
    two_red o y v u reach = record { place = p; pc = pc; reach = reach; is = rw at }

    deep : depth_of w ≡ length P.skel
    deep = (Θ.says.around m no_atom).depth ∙ (describes Θ.linked located no_atom).depth

    domain : domain_of w ≡ dom_at P
    domain = (Θ.says.around m no_atom).domain ∙ (describes Θ.linked located no_atom).dom

    -- A term without operands.
    judge0 : (o : Op0) (y : Ty) (S' : State) → Reach Θ.sound k s (eval (op0 o y) P.env) K
        → (Stepping Θ S k s m P A D (eval (op0 o y) P.env) K (reduce0_c Θ.given (place_of P A) (kept_by A) s o y) → Progresses S') → Progresses (judged w S S')
    judge0 o y S' reach h = judged_now (measure S) S' (nullary_red o y reach) h

    nullary_now : (o : Op0) (y : Ty) → Reach Θ.sound k s (eval (op0 o y) P.env) K → field_b w ≡ named o → Progresses (performed Θ.program w (nullary_move (nullary_of o)) S)
    unfolding performed
    nullary_now new_label y reach e = judge0 new_label y _ reach (λ R. label_now Θ S k s m P A D _ K (place_of P A) (kept_by A) y R)
    nullary_now abort y reach e = judge0 abort y _ reach (λ R. aborts (measure S) R)
    nullary_now the_stack y reach e = judge0 the_stack y _ reach (λ R. stack_now Θ S k s m P A D _ K y R)
    nullary_now (takedown d) y reach e =
        let here : Reach Θ.sound k s (eval (op0 (takedown (field_b w)) y) P.env) K = rw e reach in
        judge0 (takedown (field_b w)) y _ here (λ R. takedown_now Θ S k s m P A D _ K (place_of P A) (kept_by A) y R)

    pub nullary_turn : (o : Op0) (y : Ty) → Reach Θ.sound k s (eval (op0 o y) P.env) K → class_of w ≡ nullary_class (nullary_of o) → field_b w ≡ named o → Progresses (turn Θ.program Θ.given.frame S)
    nullary_turn o y reach q e = rw (turn_by (nullary (nullary_of o)) (ap class_with q ∙ (single (nullary_of o)).class)) (nullary_now o y reach e)

    -- One operand: its word x stands for its value v.
    module _ (x : ℕ) (v : CVal) (is : IsVal Θ M (sizes r) x v) where
      abbrev Heading : Head → Type 0
      Heading H = Reach Θ.sound k s (ret v) (head_frame H P.env ∷ K)

      judge : (H : Head) (S' : State) → Heading H
          → (Stepping Θ S k s m P A D (ret v) (head_frame H P.env ∷ K) (reduce_head Θ.given (place_of P A) s H P.env v) → Progresses S') → Progresses (judged w S S')
      judge H S' reach h = judged_now (measure S) S' (head_red H v reach) h

      -- A call of a method is made at the domain that the object's type names for it (card 3).
      method_at_lem : (y t : Ty) (j : ℕ) (es : Tms) (ρ : Env) → Heading (op1_h (call j) y) → v ≡ CVal.object t es ρ → method_dom (methods_of t) j ≡ dom_at P
      unfolding unload_val
      method_at_lem y t j es ρ reach q = Θ.sound.methods (unload_state s) K y t j (closes 1 (unload_env ρ) es) (rw q at reach.sound) ∙ ap (λ (X : Place). X.dom) at

      operator_now : (o : Op1) (y : Ty) → Heading (op1_h o y) → SaysOp Θ.table w o y → Progresses (performed Θ.program w (unary_move Θ.given.frame M (unary_op o) x) S)
      unfolding performed
      operator_now print y reach q = judge (op1_h print y) _ reach (λ R. print_now Θ S k s m P A D (ret v) _ (place_of P A) domain y is R)
      operator_now install y reach q = judge (op1_h install y) _ reach (λ R. install_now Θ S k s m P A D (ret v) _ (place_of P A) y is R)
      operator_now read y reach q = judge (op1_h read y) _ reach (λ R. read_now Θ S k s m P A D (ret v) _ (place_of P A) y is R)
      operator_now byte y reach q = judge (op1_h byte y) _ reach (λ R. byte_now Θ S k s m P A D (ret v) _ (place_of P A) y is R)
      operator_now new_cell y reach q = judge (op1_h new_cell y) _ reach (λ R. cell_now Θ S k s m P A D (ret v) _ y q.1 q.0 is R)
      operator_now (call j) y reach q = judge (op1_h (call j) y) _ reach (λ R. call_now Θ S k s m P A D (ret v) _ y j q (λ t es ρ e. method_at_lem y t j es ρ reach e) is R)

      head_now : (H : HeadN) (y : ℕ) → Θ.table.node m ≡ one_n H y → Heading (head_of Θ.table H) → SaysHead Θ.table w H → Progresses (performed Θ.program w (unary_move Θ.given.frame M (unary_of H) x) S)
      unfolding performed
      head_now (op1_n o t) y n reach q = operator_now o t reach q
      head_now (seq_n f) y n reach q = judge (seq_h (Θ.table.term f)) _ reach (λ R. seq_now Θ S k s m P A D (ret v) _ f is q (l_rest located n) R)
      head_now (ite_n f g) y n reach q =
          rw (branch_performed Θ.program Θ.given.frame M w x S)
          (judge (ite_h (Θ.table.term f) (Θ.table.term g)) _ reach (λ R. ite_now Θ S k s m P A D (ret v) _ f g is q.0 q.1 (l_then located n) (l_else located n) R))
      head_now (split_n f) y n reach q =
          judge (split_h (Θ.table.term f)) _ reach
          (λ R. split_now Θ S k s m P A D (ret v) _ (Θ.table.term f) (record { number = f; begins = q; term = refl; located = l_split located n }) is R)
      head_now (adv_n d b) y n reach q =
          judge (adv_h d (Θ.table.term b)) _ reach
          (λ R. advice_now Θ S k s m P A D (ret v) _ d (Θ.table.term b) (record { number = b; begins = q.0; term = refl; located = l_advice located n }) q.1 q.2 is R)
      head_now (lower_n d) y n reach q = judge (lower_h d) _ reach (λ R. lower_now Θ S k s m P A D (ret v) _ is R)

      -- Two operands: the second's word x' stands for its value v'.
      module _ (x' : ℕ) (v' : CVal) (is' : IsVal Θ M (sizes r) x' v') where
        judge2 : (o : Op2) (y : Ty) (S' : State) → Reach Θ.sound k s (ret v') (op2_r o y v ∷ K)
            → (Stepping Θ S k s m P A D (ret v') (op2_r o y v ∷ K) (reduce2_c Θ.given (place_of P A) s o y v v') → Progresses S') → Progresses (judged w S S')
        judge2 o y S' reach h = judged_now (measure S) S' (two_red o y v v' reach) h

        -- A call is made at the domain that the function's type names.
        called_at : (y t : Ty) (e : Tm) (ρ : Env) → Reach Θ.sound k s (ret v') (op2_r app y v ∷ K) → v ≡ CVal.fun t e ρ → dom_of t ≡ dom_at P
        unfolding unload_val
        called_at y t e ρ reach q =
            Θ.sound.calls (unload_state s) K y t (close 1 (unload_env ρ) e) (unload_val v') (rw q at reach.sound) ∙ ap (λ (X : Place). X.dom) at

        two_now : (o : Op2) (y : Ty) → Reach Θ.sound k s (ret v') (op2_r o y v ∷ K) → Progresses (performed Θ.program w (binary_move (binary_of o) x x') S)
        unfolding performed
        two_now Op2.pair y reach = judge2 Op2.pair y _ reach (λ R. pair_now Θ S k s m P A D (ret v') _ y is is' R)
        two_now app y reach = judge2 app y _ reach (λ R. apply_now Θ S k s m P A D (ret v') _ y (λ t e ρ q. called_at y t e ρ reach q) is is' R)
        two_now mark y reach = judge2 mark y _ reach (λ R. mark_now Θ S k s m P A D (ret v') _ (place_of P A) y is is' R)
        two_now store y reach = judge2 store y _ reach (λ R. store_now Θ S k s m P A D (ret v') _ (place_of P A) y is is' R)
        two_now plus y reach = judge2 plus y _ reach (λ R. arithmetic_now Θ S k s m P A D (ret v') _ a_plus (place_of P A) y is is' R)
        two_now minus y reach = judge2 minus y _ reach (λ R. arithmetic_now Θ S k s m P A D (ret v') _ a_minus (place_of P A) y is is' R)
        two_now less y reach = judge2 less y _ reach (λ R. arithmetic_now Θ S k s m P A D (ret v') _ a_less (place_of P A) y is is' R)
        two_now equal y reach = judge2 equal y _ reach (λ R. arithmetic_now Θ S k s m P A D (ret v') _ an_equal (place_of P A) y is is' R)

        both_now : (H : HeadN2) (y z : ℕ) → Θ.table.node m ≡ two_n H y z → Reach Θ.sound k s (ret v') (second_frame (head_of2 Θ.table H) v P.env ∷ K) → SaysHead2 Θ.table w H → Progresses (performed Θ.program w (binary_move (binary_of2 H) x x') S)
        unfolding performed
        both_now (op2_n o t) y z n reach h = two_now o t reach
        both_now (keep_n f) y z n reach h = keep_now Θ S k s m P A D p pc x v is x' v' is' f h (l_keep located n) reach

  -- The turn of a term with one operand, and of one with two.
  pub one_turn : (H : HeadN) (x : ℕ) → Θ.table.node m ≡ one_n H x → class_of w ≡ unary_class (unary_of H) (term_mode (Θ.table.term x)) → field_a w ≡ term_field (Θ.table.term x) x → SaysHead Θ.table w H
      → Simulates Θ S k s (conf (one (head_of Θ.table H) (operand_at Θ.table x))) → Progresses (turn Θ.program Θ.given.frame S)
  one_turn H x n c f h now =
      rw (turn_unary (unary_of H) (term_mode (Θ.table.term x)) c)
      (head_now (in_place_of _ now) (only_operand Θ.program M (term_mode (Θ.table.term x)) r w) (fetch (operand_at Θ.table x) hv P.env (D (suc (depth_at P A))))
      (only_is Θ M (sizes r) r P.env now.env now.env_fits hv (slot_of M (suc (depth_at P A))) (D (suc (depth_at P A))) w x f (l_operand located n) now.good.bound.0 now.ready)
      H x n now.good.runs h)

  pub two_turn : (H : HeadN2) (x z : ℕ) → Θ.table.node m ≡ two_n H x z → class_of w ≡ binary_class (binary_of2 H) (term_mode (Θ.table.term x)) (term_mode (Θ.table.term z)) → field_a w ≡ term_field (Θ.table.term x) x
      → operand_b w ≡ term_field (Θ.table.term z) z → SaysHead2 Θ.table w H → Simulates Θ S k s (conf (two (head_of2 Θ.table H) (choose (is_atom_at Θ.table x) (in_place_term (Θ.table.term x)) (choose (is_atom_at Θ.table z) acc slot)) (operand_at Θ.table z)))
      → Progresses (turn Θ.program Θ.given.frame S)
  two_turn H x z n c f g h now =
      let p : InPlace Θ S k s m P A D = in_place_of _ now in
      let i : slot_at M r.frames (depth_of w + 1) ≡ slot_of M (suc (depth_at P A)) =
      ap (λ (j : ℕ). word_at M j) (omega (arith, deep p, now.frames)) ∙ sym (slot_word_lem M (suc (depth_at P A)) (omega arith)) in
      rw (turn_binary (binary_of2 H) (term_mode (Θ.table.term x)) (term_mode (Θ.table.term z)) c)
      (both_now p (first_operand Θ.program M (term_mode (Θ.table.term x)) (term_mode (Θ.table.term z)) r w) (fetch (choose (is_atom_at Θ.table x) (in_place_term (Θ.table.term x)) (choose (is_atom_at Θ.table z) acc slot)) hv P.env (D (suc (depth_at P A))))
      (first_is Θ M (sizes r) r P.env now.env now.env_fits hv (slot_of M (suc (depth_at P A))) (D (suc (depth_at P A))) w x z i f (l_first located n) now.good.bound.0.0 now.ready.0)
      (second_operand Θ.program M (term_mode (Θ.table.term z)) r w) (fetch (operand_at Θ.table z) hv P.env (D (suc (depth_at P A))))
      (second_is Θ M (sizes r) r P.env now.env now.env_fits hv (slot_of M (suc (depth_at P A))) (D (suc (depth_at P A))) w z g (l_second located n) now.good.bound.0.1 now.ready.1)
      H x z n now.good.runs h)
