-- What a reduction makes of the state, by the tests that lead there.
use Prim.Native.Nat.{ℕ, ◌+◌, ◌-◌, ◌%◌, ◌<◌}
use mathlib.Core.Path.{◌≡◌, refl, sym, ap, subst, ◌∙◌}
use mathlib.Core.Bool.{Bool, true}
use mathlib.Core.List.{List}
use lib.Dec.{ltb}
use lib.Bits.{bit_or}
use borrow.Author.Tests.{lt-ltb}
use Rattle.calculus.specs.declared.Outcome.{Outcome}
use Rattle.calculus.specs.Limits.{binding_limit, cell_limit, label_limit, advice_limit}
use Rattle.vm_code.specs.Values.{value, cell_tag, label_tag, advice_tag, body_of, unit_value}
use Rattle.vm_code.specs.Words.{field_b, field_c, is_instruction, target_count}
use Rattle.vm_pools.specs.declared.Pools.{Pools}
use Rattle.vm_machine.specs.declared.Regs.{Regs}
use Rattle.vm_machine.specs.Registers.{fuel_bias, set_fuel, set_pools, set_labels, set_installed}
use Rattle.vm_pools.specs.Pools.{whole, charge_bindings, charge_cells, has_capacity, bindings_out, cells_out}
use Rattle.vm_machine.specs.Quotas.{quota_of}
use Rattle.vm_machine.specs.Memory.{Memory, binding, put_binding, closure_env, piece_first, piece_second, piece_of, advice_word, put_installed, cell_at, cell_note, cell_of, put_cell}
use Rattle.vm_machine.specs.States.{State, with_regs, with_memory}
use Rattle.vm_machine.specs.Fetch.{Program, called}
use Rattle.vm_machine.specs.Reduce.{given, new_piece, reduce_apply, reduce_split, reduce_store, reduce_cell, reduce_label, reduce_advice, reduce_install}
use Rattle.vm_machine.specs.Turn.{call_body}
use Rattle.vm_memory.specs.View.{memory_of, Holds}
use Rattle.vm_registers.specs.Phases.{state_of, Phase}
use Rattle.vm_registers.proofs.Made.{as_phase, stored_then, stored_set, then_set, set_either}
use Rattle.vm_registers.proofs.Ended.{capacity_made, left_made, given_as}
use Rattle.vm_registers.proofs.Quotas.{quota_made}

-- After a call, a step and the bindings are counted: so much is in use, and l is left.
abbrev pub counted : Pools → ℕ → Regs → Regs
counted s l p = set_pools s (set_fuel l p)

called_counted : (C : Program) (w g env : ℕ) (s : Pools) (l : ℕ) (S : State) → with_regs (counted s l (called C w g env S).regs) (called C w g env S) ≡ called C w g env (with_regs (counted s l S.regs) S)
called_counted C w g env s l S = set_either (counted s l) (is_instruction g) _ _

-- The tables become M, and a body is called whose target is g, in the environment env.
pub stored_called : (C : Program) (f : State → State) (M : Memory) (a b c : List ℕ) (r q : Regs) (w g h env n : ℕ) (s : Pools) (l : ℕ) → g ≡ h → env ≡ n → ((log : List ℕ) → called C w h n (with_memory M (counted s l r) (state_of a log r)) ≡ f (state_of a log r)) → Holds M a b → Phase (called C w g env) b c r q → Phase f a c r (counted s l q)
stored_called C f M a b c r q w g h env n s l e d k m p =
    stored_set (called C w h n) f (counted s l) M a b c r q (λ log. called_counted C w h n s l (with_memory M r (state_of a log r)) ∙ k log) m (subst (λ (i : ℕ). Phase (called C w h i) b c r q) d (subst (λ (i : ℕ). Phase (called C w i env) b c r q) e p))

-- What is in use after k bindings of the half h, which the instruction with word w charges.
pub bindings_charged : (f : State → State) (a c : List ℕ) (r q : Regs) (w k l : ℕ) (h : Bool) (s : Pools) → h ≡ quota_of w → s ≡ charge_bindings h k r.pools → Phase f a c r (counted (charge_bindings (quota_of w) k r.pools) l q) → Phase f a c r (counted s l q)
bindings_charged f a c r q w k l h s is e p =
    subst (λ (z : Pools). Phase f a c r (counted z l q)) (sym (e ∙ ap (λ (g : Bool). charge_bindings g k r.pools) is)) p

-- One binding, at the place n, of the value y outside which the environment e is.
bound_as : (a b : List ℕ) (n m y e d : ℕ) → n ≡ m → e ≡ d → Holds (put_binding n (binding y 0 e) (memory_of a)) a b → Holds (put_binding m (binding y 0 d) (memory_of a)) a b
bound_as a b n m y e d i j h =
    subst (λ (K : Memory). Holds K a b) (ap (λ (z : ℕ). put_binding z (binding y 0 e) (memory_of a)) i ∙ ap (λ (z : ℕ). put_binding m (binding y 0 z) (memory_of a)) j) h

-- A call of the function x with the value y; g is the target of its body, and e its environment. The half h has room or not (card 9).
module _ (C : Program) (a b c : List ℕ) (r q : Regs) (w x y : ℕ) (h t : Bool) (is : h ≡ quota_of w) (test : t ≡ has_capacity binding_limit h 1 r.pools.bindings) where
  pub apply_made : fuel_bias < r.fuel → (n g e : ℕ) (u : Regs) (s : Pools) → t ≡ true → n ≡ whole r.pools.bindings → g ≡ body_of x % target_count → e ≡ closure_env x → u ≡ r → s ≡ charge_bindings h 1 r.pools → Holds (put_binding n (binding y 0 e) (memory_of a)) a b → Phase (called C w g n) b c (counted s (r.fuel - 1) u) q → Phase (reduce_apply C w x y) a c r q
  apply_made left n g e u s k d f i z j m p =
      let N : ℕ = whole r.pools.bindings in
      let R : Regs = counted (charge_bindings (quota_of w) 1 r.pools) (r.fuel - 1) r in
      let M : Memory = put_binding N (binding y 0 (closure_env x)) (memory_of a) in
      let charged : counted s (r.fuel - 1) u ≡ R = ap (λ (v : Pools). counted v (r.fuel - 1) u) (j ∙ ap (λ (i : Bool). charge_bindings i 1 r.pools) is) ∙ ap (counted (charge_bindings (quota_of w) 1 r.pools) (r.fuel - 1)) z in
      let p₁ : Phase (called C w g n) b c R q = subst (λ (v : Regs). Phase (called C w g n) b c v q) charged p in
      let p₂ : Phase (called C w (body_of x % target_count) N) b c R q = subst (λ (v : ℕ). Phase (called C w (body_of x % target_count) v) b c R q) d (subst (λ (v : ℕ). Phase (called C w v n) b c R q) f p₁) in
      quota_made binding_limit 1 (λ p. p.bindings) bindings_out w r h t is test _ a q c left k
      (record { represents = λ log. (stored_then (called C w (body_of x % target_count) N) M a b c R q (bound_as a b n N y e (closure_env x) d i m) p₂).represents log })

-- A call of the body at the target g on the object x, whose environment is e.
module _ (C : Program) (a b c : List ℕ) (r q : Regs) (w x g : ℕ) (h t : Bool) (is : h ≡ quota_of w) (test : t ≡ has_capacity binding_limit h 1 r.pools.bindings) where
  pub call_made : fuel_bias < r.fuel → (n e : ℕ) (s : Pools) → t ≡ true → n ≡ whole r.pools.bindings → e ≡ closure_env x → s ≡ charge_bindings h 1 r.pools → Holds (put_binding n (binding x 0 e) (memory_of a)) a b → Phase (called C w g n) b c r q → Phase (call_body C w x g) a c r (counted s (r.fuel - 1) q)
  call_made left n e s k d i j m p =
      bindings_charged (call_body C w x g) a c r q w 1 (r.fuel - 1) h s is j
      (quota_made binding_limit 1 (λ p. p.bindings) bindings_out w r h t is test _ a _ c left k (stored_called C _ _ a b c r q w g _ n _ _ _ refl d (λ log. refl) (bound_as a b n _ x e _ d i m) p))

-- Bindings of the two parts of pair p: their values are u and v.
pub parts_made : (a b c : List ℕ) (i p env u v : ℕ) → u ≡ piece_first (memory_of a) p → v ≡ piece_second (memory_of a) p → Holds (put_binding i (binding u 0 env) (memory_of a)) a b → Holds (put_binding (i + 1) (binding v 0 i) (memory_of b)) b c → Holds (put_binding (i + 1) (binding (piece_second (memory_of a) p) 0 i) (put_binding i (binding (piece_first (memory_of a) p) 0 env) (memory_of a))) a c
parts_made a b c i p env u v d e g h =
    record {
      memory =
          h.memory ∙ ap (put_binding (i + 1) (binding v 0 i)) g.memory ∙ ap (λ (x : ℕ). put_binding (i + 1) (binding x 0 i) (put_binding i (binding u 0 env) (memory_of a))) e ∙ ap (λ (x : ℕ). put_binding (i + 1) (binding (piece_second (memory_of a) p) 0 i) (put_binding i (binding x 0 env) (memory_of a))) d;
      rest = h.rest ∙ g.rest;
    }

-- A split of the pair x; p is its piece.
module _ (C : Program) (a b c : List ℕ) (r q : Regs) (w x : ℕ) (h t : Bool) (is : h ≡ quota_of w) (test : t ≡ has_capacity binding_limit h 2 r.pools.bindings) where
  abbrev bound : ℕ → ℕ → Memory
  bound n p = put_binding (n + 1) (binding (piece_second (memory_of a) p) 0 n) (put_binding n (binding (piece_first (memory_of a) p) 0 r.env) (memory_of a))

  pub split_made : fuel_bias < r.fuel → (n p g : ℕ) (s : Pools) → t ≡ true → n ≡ whole r.pools.bindings → p ≡ piece_of x → g ≡ field_b w → s ≡ charge_bindings h 2 r.pools → Holds (bound n p) a b → Phase (called C w g (n + 1)) b c r q → Phase (reduce_split C w x) a c r (counted s (r.fuel - 1) q)
  split_made left n p g s k d e f j m i =
      let N : ℕ = whole r.pools.bindings in
      bindings_charged (reduce_split C w x) a c r q w 2 (r.fuel - 1) h s is j
      (quota_made binding_limit 2 (λ p. p.bindings) bindings_out w r h t is test _ a _ c left k (stored_called C _ _ a b c r q w g _ (n + 1) _ _ _ f (ap (λ (z : ℕ). z + 1) d) (λ log. refl) (subst (λ (K : Memory). Holds K a b) (ap (λ (z : ℕ). bound z p) d ∙ ap (bound N) e) m) i))

-- A store of y in the cell x, whose number is k.
pub store_made : (a b c : List ℕ) (r q : Regs) (w x y k : ℕ) → fuel_bias < r.fuel → k ≡ cell_of x → Holds (put_cell k y (cell_note (cell_at (memory_of a) k)) (memory_of a)) a b → Phase (given w unit_value) b c r q → Phase (reduce_store w x y) a c r q
store_made a b c r q w x y k left e h p =
    let M : Memory = put_cell (cell_of x) y (cell_note (cell_at (memory_of a) (cell_of x))) (memory_of a) in
    let m : Holds M a b = subst (λ (i : ℕ). Holds (put_cell i y (cell_note (cell_at (memory_of a) i)) (memory_of a)) a b) e h in
    left_made _ a c r q left (as_phase _ (λ S. given w unit_value (with_memory (put_cell (cell_of x) y (cell_note (cell_at S.memory (cell_of x))) S.memory) S.regs S)) a c r q (λ log. refl) (stored_then (given w unit_value) M a b c r q m p))

-- One more cell of the value x, at the place n, with the note d; or no room is left in the half h.
module _ (a b c : List ℕ) (r q : Regs) (w x : ℕ) (h t : Bool) (is : h ≡ quota_of w) (test : t ≡ has_capacity cell_limit h 1 r.pools.cells) where
  pub cell_made : fuel_bias < r.fuel → (n v d : ℕ) (s : Pools) → t ≡ true → n ≡ whole r.pools.cells → v ≡ value cell_tag n → d ≡ field_b w → s ≡ charge_cells h 1 r.pools → Holds (put_cell n x d (memory_of a)) a b → Phase (given w v) b c r q → Phase (reduce_cell w x) a c r (set_pools s q)
  cell_made left n v d s k e f g j m p =
      let N : ℕ = whole r.pools.cells in
      let z : s ≡ charge_cells (quota_of w) 1 r.pools = j ∙ ap (λ (i : Bool). charge_cells i 1 r.pools) is in
      let M : Holds (put_cell N x (field_b w) (memory_of a)) a b = subst (λ (K : Memory). Holds K a b) (ap (λ (i : ℕ). put_cell i x d (memory_of a)) e ∙ ap (λ (i : ℕ). put_cell N x i (memory_of a)) g) m in
      subst (λ (i : Pools). Phase (reduce_cell w x) a c r (set_pools i q)) (sym z)
      (quota_made cell_limit 1 (λ p. p.cells) cells_out w r h t is test _ a _ c left k (stored_set (given w (value cell_tag N)) _ (set_pools (charge_cells (quota_of w) 1 r.pools)) _ a b c r q (λ log. refl) M (given_as b c r q w v _ (f ∙ ap (value cell_tag) e) p)))

-- One more label; or no room is left.
module _ (a b : List ℕ) (r q : Regs) (w : ℕ) where
  pub label_made : fuel_bias < r.fuel → (v : ℕ) → r.labels < label_limit → v ≡ value label_tag r.labels → Phase (given w v) a b r q → Phase (reduce_label w) a b r (set_labels (r.labels + 1) q)
  label_made left v h e p =
      capacity_made (λ (S : State). ltb S.regs.labels label_limit) Outcome.Labels _ a b r _ left (λ log. lt-ltb r.labels label_limit h) (as_phase _ _ a b r _ (λ log. refl) (then_set (given w (value label_tag r.labels)) (set_labels (r.labels + 1)) a b r q (given_as a b r q w v _ e p)))

-- An advice on the pointcut x, whose piece is p: its words are u and v, its body has the target t and its type the domain d.
pub advice_made : (a b : List ℕ) (r q : Regs) (w x t d p u v : ℕ) → t ≡ field_b w → d ≡ field_c w → p ≡ piece_of x → u ≡ advice_word t r.env d → v ≡ piece_second (memory_of a) p → Phase (new_piece w advice_tag u v) a b r q → Phase (reduce_advice w x) a b r q
advice_made a b r q w x t d p u v e f g h i k =
    let y : u ≡ advice_word (field_b w) r.env (field_c w) = h ∙ ap (λ (j : ℕ). advice_word j r.env d) e ∙ ap (λ (j : ℕ). advice_word (field_b w) r.env j) f in
    let z : v ≡ piece_second (memory_of a) (piece_of x) = i ∙ ap (piece_second (memory_of a)) g in
    as_phase (new_piece w advice_tag u v) (reduce_advice w x) a b r q (λ log. ap (λ (j : ℕ). new_piece w advice_tag j v (state_of a log r)) y ∙ ap (λ (j : ℕ). new_piece w advice_tag (advice_word (field_b w) r.env (field_c w)) j (state_of a log r)) z) k

-- The advice x is installed, whose piece is p and whose labels are s; or no room is left.
module _ (a b c : List ℕ) (r q : Regs) (w x : ℕ) where
  pub install_made : fuel_bias < r.fuel → (p s : ℕ) → r.installed < advice_limit → p ≡ piece_of x → s ≡ piece_second (memory_of a) p → Holds (put_installed r.installed p (memory_of a)) a b → Phase (given w unit_value) b c r q → Phase (reduce_install w x) a c r (set_installed (r.installed + 1) (bit_or r.named s) q)
  install_made left p s h e d m k =
      let z : s ≡ piece_second (memory_of a) (piece_of x) = d ∙ ap (piece_second (memory_of a)) e in
      subst (λ (i : ℕ). Phase (reduce_install w x) a c r (set_installed (r.installed + 1) (bit_or r.named i) q)) (sym z) (capacity_made (λ (S : State). ltb S.regs.installed advice_limit) Outcome.Advice _ a c r _ left (λ log. lt-ltb r.installed advice_limit h) (stored_set (given w unit_value) _ (set_installed (r.installed + 1) (bit_or r.named (piece_second (memory_of a) (piece_of x)))) _ a b c r q (λ log. refl) (subst (λ (i : ℕ). Holds (put_installed r.installed i (memory_of a)) a b) e m) k))
