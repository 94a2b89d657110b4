-- Operands: the word that is fetched stands for the value that threaded code fetches.
use Prim.Native.Nat.{ℕ, ◌%◌, ◌<◌}
use native.Mathlib.Omega.{arith}
use mathlib.Core.Path.{◌≡◌, refl, sym, ap, subst, ◌∙◌}
use mathlib.Core.List.{List}
use mathlib.Core.Bool.{Bool, true, false, true≢false}
use lib.Dec.{ltb}
use Rattle.calculus.proofs.Choices.{by_choice}
use Rattle.calculus.specs.Combinators.{choose}
use Rattle.calculus.specs.Plain.{dom_of}
use Rattle.calculus.specs.Syntax.{Dom, Ty, Val, Tm, val, var, lam, op0, op1, op2, seq, ite, split, pcd, adv, lower, obj, keep, match}
use Rattle.closure_machine.specs.Closure.{CVal, Env, lookup, closed}
use Rattle.vm_theory.specs.Code.{Skel, is_atom, atom_of, or_unit}
use Rattle.vm_theory.specs.Table.{Node, fun_n, obj_n, terms_of, is_atom_at}
use Rattle.vm_theory.proofs.Located.{Located, l_function, node_term, one_no_atom, two_no_atom, many_no_atom}
use Rattle.vm_theory.proofs.Bound.{BoundTm}
use Rattle.vm_code.specs.Values.{tag_of, body_of, function_value, object_value}
use Rattle.vm_code.specs.Words.{class_of, field_a, field_b, hops_of, term_count, target_count, a_f}
use Rattle.vm_code.specs.Classes.{worked}
use Rattle.vm_theory.specs.Says.{term_mode, term_field, Says, says_unit, says_truth, says_number, says_variable, says_function, says_object, says_one, says_two, says_pointcut, says_match, says_nullary}
use Rattle.vm_machine.specs.Memory.{Memory, binding_places}
use Rattle.vm_machine.specs.Memory as words
use Rattle.vm_machine.specs.Fetch.{code_at, atom_value, operand_value}
use Rattle.vm_machine_correct.proofs.Setup.{Setup}
use Rattle.vm_machine_correct.proofs.Relations.{Sizes, IsBody, body_at, object_at, IsVal, is_unit, is_truth, is_num, is_fun, is_object_lem, IsEnv, env_at, lookup_is}

-- The parts of a function's word.
function_word : (env t : ℕ) → env < binding_places → t < target_count → (tag_of (function_value env t) ≡ 3) × (body_of (function_value env t) % target_count ≡ t) × (words.closure_env (function_value env t) ≡ env)
function_word env t h g = (omega arith, omega arith, omega arith)

-- And of an object's.
object_word_lem : (env t : ℕ) → env < binding_places → t < term_count → (tag_of (object_value env t) ≡ 9) × (body_of (object_value env t) % term_count ≡ t) × (words.closure_env (object_value env t) ≡ env)
object_word_lem env t h g = (omega arith, omega arith, omega arith)

module _ (Θ : Setup) where
  -- A node that is an atom is a constant, a variable, a function or an object.
  pub data AtomIs (x w : ℕ) : Type 0 where
    is_constant : {v : Val} → Θ.table.term x ≡ val v → class_of w ≡ 0 → ((M : Memory) (z : Sizes) → IsVal Θ M z w (closed v)) → AtomIs x w
    is_variable : {k : ℕ} → Θ.table.term x ≡ var k → class_of w ≡ 1 → hops_of w ≡ k → AtomIs x w
    is_function : {y : Ty} {b : ℕ} → Θ.table.node x ≡ fun_n y b → Θ.table.term x ≡ lam y (Θ.table.term b) → class_of w ≡ 2 → ((σ : Skel) (c : Dom) → Located Θ.linked x σ c → IsBody Θ (field_b w) (Θ.table.term b) (dom_of y))
        → AtomIs x w
    is_an_object : {y : Ty} {bs : List ℕ} → Θ.table.node x ≡ obj_n y bs → Θ.table.term x ≡ obj y (terms_of Θ.table bs) → class_of w ≡ 3 → AtomIs x w

  no_atoms : (x : ℕ) {A : Type 0} → is_atom_at Θ.table x ≡ true → is_atom_at Θ.table x ≡ false → A
  no_atoms x p q = absurd (true≢false (sym p ∙ q))

  atom_by : (x w : ℕ) (n : Node) → Θ.table.node x ≡ n → is_atom_at Θ.table x ≡ true → Says Θ.table Θ.program.image w n → AtomIs x w
  unfolding closed
  atom_by x w n q a (says_unit c t) = is_constant (node_term Θ.linked q) c (λ M z. is_unit t)
  atom_by x w n q a (says_truth c t b) = is_constant (node_term Θ.linked q) c (λ M z. is_truth t b)
  atom_by x w n q a (says_number c t b) = is_constant (node_term Θ.linked q) c (λ M z. is_num t b)
  atom_by x w n q a (says_variable c k) = is_variable (node_term Θ.linked q) c k
  atom_by x w n q a (says_function {b = b} c g) = is_function q (node_term Θ.linked q) c (λ σ d l. record { number = b; begins = g; term = refl; located = l_function l q })
  atom_by x w n q a (says_object c h) = is_an_object q (node_term Θ.linked q) c
  atom_by x w n q a (says_nullary c g h) = absurd (true≢false (sym a ∙ ap is_atom (node_term Θ.linked q)))
  atom_by x w n q a (says_one c f h) = no_atoms x a (one_no_atom Θ.linked q)
  atom_by x w n q a (says_two c f g j) = no_atoms x a (two_no_atom Θ.linked q)
  atom_by x w n q a (says_pointcut c m f i h) = no_atoms x a (many_no_atom Θ.linked q)
  atom_by x w n q a (says_match c m i e f g h) = no_atoms x a (many_no_atom Θ.linked q)

  pub atom_says : (x : ℕ) → x < term_count → is_atom_at Θ.table x ≡ true → AtomIs x (code_at Θ.program x)
  atom_says x h a = atom_by x (code_at Θ.program x) (Θ.table.node x) refl a (Θ.says.node x h)

  module _ (M : Memory) (z : Sizes) (env : ℕ) (ρ : Env) (e : IsEnv Θ M z env ρ) (fits : env < binding_places) where
    abbrev Is : ℕ → CVal → Type 0
    Is w v = IsVal Θ M z w v

    variable_is : (k : ℕ) → BoundTm (var k) ρ → Is (words.lookup M env k) (or_unit (lookup ρ k))
    variable_is k b = rw b.1 (lookup_is Θ M z k e b.1)

    -- An atom's value.
    pub atom_is : (x : ℕ) → x < term_count → is_atom_at Θ.table x ≡ true → {σ : Skel} {c : Dom} → Located Θ.linked x σ c → BoundTm (Θ.table.term x) ρ → Is (atom_value Θ.program M env (code_at Θ.program x)) (atom_of (Θ.table.term x) ρ)
    atom_is x h a {σ} {c} l b = try (atom_says x h a)
      where
        try : AtomIs x (code_at Θ.program x) → Is (atom_value Θ.program M env (code_at Θ.program x)) (atom_of (Θ.table.term x) ρ)
        try (is_constant p q v) = rw (p, q) (v M z)
        try (is_variable {k = k} p q r) =
            let b' : BoundTm (var k) ρ = subst (λ (t : Tm). BoundTm t ρ) p b in
            rw (p, q, r) (variable_is k b')
        try (is_function n p q r) =
            let f = function_word env (field_b (code_at Θ.program x)) fits (omega arith) in
            rw (p, q) (is_fun f.0 (body_at Θ f.1 (r σ c l)) (env_at Θ M z f.2 e))
        try (is_an_object {y = y} {bs = bs} n p q) =
            let f = object_word_lem env (field_a (code_at Θ.program x)) fits (omega arith) in
            rw (p, q)
            (is_object_lem f.0 (object_at Θ (f.1 ∙ Θ.says.numbered x y bs n) (record { small = h; bodies = bs; node = n; terms = refl; skel = σ; dom = c; located = l })) (env_at Θ M z f.2 e))

    constant_is : (x : ℕ) → x < term_count → (u : Val) → Θ.table.term x ≡ val u → Is (code_at Θ.program x) (closed u)
    constant_is x h u p = try (atom_says x h (ap is_atom p))
      where
        try : AtomIs x (code_at Θ.program x) → Is (code_at Θ.program x) (closed u)
        try (is_constant {v = v} q c g) = let same : v ≡ u = cc in rw (← same) (g M z)
        try (is_variable q c g) = let z : true ≡ false = cc in absurd (true≢false z)
        try (is_function n q c g) = let z : true ≡ false = cc in absurd (true≢false z)
        try (is_an_object n q c) = let z : true ≡ false = cc in absurd (true≢false z)

    -- An operand that is fetched in place, from the word's field f; its term is b.
    pub in_place : (x f v : ℕ) (b : Tm) → Θ.table.term x ≡ b → is_atom b ≡ true → f ≡ term_field b x → f < term_count → {σ : Skel} {c : Dom} → Located Θ.linked x σ c → BoundTm b ρ
        → Is (operand_value Θ.program M (term_mode b) env f v) (atom_of b ρ)
    in_place x f v (val u) p a q h l b = rw q (constant_is x (omega arith) u p)
    in_place x f v (var k) p a q h l b = by_choice (λ z. Is (operand_value Θ.program M z env f v) (or_unit (lookup ρ k))) (ltb k a_f.size)
        (λ r.
        let same : f ≡ k = q ∙ ap (λ (i : Bool). choose i k x) r in
        rw same (variable_is k b))
        λ r.
        let same : f ≡ x = q ∙ ap (λ (i : Bool). choose i k x) r in
        let b' : BoundTm (Θ.table.term x) ρ = subst (λ (t : Tm). BoundTm t ρ) (sym p) b in
        rw same (subst (λ (t : Tm). Is (atom_value Θ.program M env (code_at Θ.program x)) (atom_of t ρ)) p (atom_is x (omega arith) (ap is_atom p) l b'))
    in_place x f v (lam y t) p a q h l b =
        rw q (subst (λ (t : Tm). Is (atom_value Θ.program M env (code_at Θ.program x)) (atom_of t ρ)) p (atom_is x (omega arith) (ap is_atom p) l (subst (λ (t : Tm). BoundTm t ρ) (sym p) tt)))
    in_place x f v (obj y t) p a q h l b =
        rw q (subst (λ (t : Tm). Is (atom_value Θ.program M env (code_at Θ.program x)) (atom_of t ρ)) p (atom_is x (omega arith) (ap is_atom p) l (subst (λ (t : Tm). BoundTm t ρ) (sym p) tt)))
    in_place x f v (op0 o t) p a q h l b = absurd (true≢false (sym a))
    in_place x f v (op1 o t i) p a q h l b = absurd (true≢false (sym a))
    in_place x f v (op2 o t i g) p a q h l b = absurd (true≢false (sym a))
    in_place x f v (seq i g) p a q h l b = absurd (true≢false (sym a))
    in_place x f v (ite i g j) p a q h l b = absurd (true≢false (sym a))
    in_place x f v (split i g) p a q h l b = absurd (true≢false (sym a))
    in_place x f v (pcd es) p a q h l b = absurd (true≢false (sym a))
    in_place x f v (adv d i g) p a q h l b = absurd (true≢false (sym a))
    in_place x f v (lower d i) p a q h l b = absurd (true≢false (sym a))
    in_place x f v (keep i g j) p a q h l b = absurd (true≢false (sym a))
    in_place x f v (match t es g j) p a q h l b = absurd (true≢false (sym a))

  -- What is no atom was worked out.
  pub worked_mode : (b : Tm) → is_atom b ≡ false → term_mode b ≡ worked
  worked_mode (val u) a = absurd (true≢false a)
  worked_mode (var k) a = absurd (true≢false a)
  worked_mode (lam y t) a = absurd (true≢false a)
  worked_mode (op0 o t) a = refl
  worked_mode (op1 o t i) a = refl
  worked_mode (op2 o t i g) a = refl
  worked_mode (seq i g) a = refl
  worked_mode (ite i g j) a = refl
  worked_mode (split i g) a = refl
  worked_mode (pcd es) a = refl
  worked_mode (adv d i g) a = refl
  worked_mode (lower d i) a = refl
  worked_mode (obj y bs) a = absurd (true≢false a)
  worked_mode (keep i g j) a = refl
  worked_mode (match p es g j) a = refl
