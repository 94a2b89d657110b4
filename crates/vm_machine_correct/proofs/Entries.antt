-- The first instruction of a term, found from code words; and which words are atoms.
use Prim.Native.Nat.{ℕ, zero, suc, ◌+◌, ◌<◌}
use native.Mathlib.Omega.{arith}
use mathlib.Core.Path.{◌≡◌, refl, sym, ap, ◌∙◌}
use mathlib.Core.Bool.{Bool, true, false, true≢false}
use lib.Dec.{ltb}
use borrow.Author.Tests.{le-ltb}
use Rattle.calculus.specs.Combinators.{choose}
use Rattle.calculus.specs.Syntax.{Tm, val, var, lam, op0, op1, op2, seq, ite, split, pcd, adv, lower, obj, keep, match}
use Rattle.vm_theory.specs.Code.{is_atom}
use Rattle.vm_theory.specs.Table.{Node, entry_of, is_atom_at}
use Rattle.vm_theory.proofs.Located.{node_term, one_no_atom, two_no_atom, many_no_atom}
use Rattle.vm_code.specs.Words.{class_of, field_a, operand_b, term_count, a_f}
use Rattle.vm_code.specs.Classes as classes
use Rattle.vm_code.specs.Classes.{Mode, worked, variable, constant, atom, Class, unary, binary, class_with, nullary_of}
use Rattle.vm_theory.specs.Says.{term_mode, term_field, unary_of, binary_of2, Says, says_unit, says_truth, says_number, says_variable, says_function, says_object, says_one, says_two, says_pointcut, says_match, target_at, says_nullary}
use Rattle.vm_code.proofs.Numbers.{unary_class_lem, binary_class_lem, single}
use Rattle.vm_machine.specs.Fetch.{code_at}
use Rattle.vm_machine.specs.Turn.{entered_by, entry_from, begun_at}
use Rattle.vm_machine_correct.proofs.Setup.{Setup}

-- The mode of an atom, and the field of what was worked out.
atom_field : (e : Tm) (x : ℕ) → is_atom e ≡ false → term_field e x ≡ x
atom_field (val v) x a = refl
atom_field (var k) x a = absurd (true≢false a)
atom_field (lam t b) x a = refl
atom_field (op0 o t) x a = refl
atom_field (op1 o t i) x a = refl
atom_field (op2 o t i g) x a = refl
atom_field (seq i g) x a = refl
atom_field (ite i g j) x a = refl
atom_field (split i g) x a = refl
atom_field (pcd es) x a = refl
atom_field (adv d i g) x a = refl
atom_field (lower d i) x a = refl
atom_field (obj t bs) x a = refl
atom_field (keep i g j) x a = refl
atom_field (match p es g j) x a = refl

-- What a term's mode says of where to begin: with its operand, or with the term itself.
abbrev begun : Mode → ℕ → ℕ → ℕ
begun worked t x = x
begun variable t x = t
begun constant t x = t
begun atom t x = t

begun_mode : (e : Tm) (t x : ℕ) → begun (term_mode e) t x ≡ choose (is_atom e) t x
begun_mode (val v) t x = refl
begun_mode (var k) t x = try (ltb k a_f.size)
  where
    try : (b : Bool) → begun (choose b variable atom) t x ≡ t
    try true = refl
    try false = refl
begun_mode (lam y b) t x = refl
begun_mode (op0 o y) t x = refl
begun_mode (op1 o y i) t x = refl
begun_mode (op2 o y i g) t x = refl
begun_mode (seq i g) t x = refl
begun_mode (ite i g j) t x = refl
begun_mode (split i g) t x = refl
begun_mode (pcd es) t x = refl
begun_mode (adv d i g) t x = refl
begun_mode (lower d i) t x = refl
begun_mode (obj y bs) t x = refl
begun_mode (keep i g j) t x = refl
begun_mode (match p es g j) t x = refl

module _ (Θ : Setup) where
  -- A word is an atom's if its term is an atom.
  word_by : (x w : ℕ) (n : Node) → Θ.table.node x ≡ n → Says Θ.table Θ.program.image w n → classes.is_atom w ≡ is_atom_at Θ.table x
  word_by x w n q (says_unit c t) = rw (c, node_term Θ.linked q)
  word_by x w n q (says_truth c t b) = rw (c, node_term Θ.linked q)
  word_by x w n q (says_number c t b) = rw (c, node_term Θ.linked q)
  word_by x w n q (says_variable c k) = rw (c, node_term Θ.linked q)
  word_by x w n q (says_function c g) = rw (c, node_term Θ.linked q)
  word_by x w n q (says_object c h) = rw (c, node_term Θ.linked q)
  word_by x w n q (says_nullary {o = o} c g h) = le-ltb (class_of w) 4 (omega (arith, (single (nullary_of o)).above)) ∙ sym (ap is_atom (node_term Θ.linked q))
  word_by x w n q (says_one c f h) = le-ltb (class_of w) 4 (omega arith) ∙ sym (one_no_atom Θ.linked q)
  word_by x w n q (says_two c f g j) = le-ltb (class_of w) 4 (omega arith) ∙ sym (two_no_atom Θ.linked q)
  word_by x w n q (says_pointcut c m f i h) = le-ltb (class_of w) 4 (omega arith) ∙ sym (many_no_atom Θ.linked q)
  word_by x w n q (says_match c m i e f g h) = le-ltb (class_of w) 4 (omega arith) ∙ sym (many_no_atom Θ.linked q)

  pub word_atom : (x : ℕ) → x < term_count → classes.is_atom (code_at Θ.program x) ≡ is_atom_at Θ.table x
  word_atom x h = word_by x (code_at Θ.program x) (Θ.table.node x) refl (Θ.says.node x h)

  abbrev Enters : ℕ → ℕ → Type 0
  Enters n t = t < term_count → is_atom_at Θ.table t ≡ false → t < n → entry_from n Θ.program t ≡ Θ.table.entry t

  unary_entry : (o : classes.Unary) (d : Mode) (t w : ℕ) (go : ℕ → ℕ) → entered_by (unary o d) t w go ≡ begun d t (go (field_a w))
  unary_entry o worked t w go = refl
  unary_entry o variable t w go = refl
  unary_entry o constant t w go = refl
  unary_entry o atom t w go = refl

  binary_entry : (o : classes.Binary) (d f : Mode) (t w : ℕ) (go : ℕ → ℕ) → entered_by (binary o d f) t w go ≡ begun d (begun f t (go (operand_b w))) (go (field_a w))
  binary_entry o worked f t w go = refl
  binary_entry o variable worked t w go = refl
  binary_entry o variable variable t w go = refl
  binary_entry o variable constant t w go = refl
  binary_entry o variable atom t w go = refl
  binary_entry o constant worked t w go = refl
  binary_entry o constant variable t w go = refl
  binary_entry o constant constant t w go = refl
  binary_entry o constant atom t w go = refl
  binary_entry o atom worked t w go = refl
  binary_entry o atom variable t w go = refl
  binary_entry o atom constant t w go = refl
  binary_entry o atom atom t w go = refl

  -- An operand x whose number is in the field f.
  operand_entry : (n x f : ℕ) → ((y : ℕ) → Enters n y) → f ≡ term_field (Θ.table.term x) x → f < term_count → x < n → (t : ℕ) → choose (is_atom_at Θ.table x) t (entry_from n Θ.program f) ≡ choose (is_atom_at Θ.table x) t (Θ.table.entry x)
  operand_entry n x f ih q h l t = try (is_atom_at Θ.table x) refl
    where
      try : (b : Bool) → is_atom_at Θ.table x ≡ b → choose b t (entry_from n Θ.program f) ≡ choose b t (Θ.table.entry x)
      try true a = refl
      try false a =
          let same : f ≡ x = q ∙ atom_field (Θ.table.term x) x a in
          rw same (ih x (omega arith) a l)

  entry_by : (n t : ℕ) (N : Node) → Θ.table.node t ≡ N → Says Θ.table Θ.program.image (code_at Θ.program t) N → ((y : ℕ) → Enters n y) → is_atom_at Θ.table t ≡ false → t < suc n
      → entered_by (class_with (class_of (code_at Θ.program t))) t (code_at Θ.program t) (entry_from n Θ.program) ≡ Θ.table.entry t
  unfolding class_with
  entry_by n t N q (says_unit c x) ih a l = absurd (true≢false (sym (ap is_atom (node_term Θ.linked q)) ∙ a))
  entry_by n t N q (says_truth c x b) ih a l = absurd (true≢false (sym (ap is_atom (node_term Θ.linked q)) ∙ a))
  entry_by n t N q (says_number c x b) ih a l = absurd (true≢false (sym (ap is_atom (node_term Θ.linked q)) ∙ a))
  entry_by n t N q (says_variable c k) ih a l = absurd (true≢false (sym (ap is_atom (node_term Θ.linked q)) ∙ a))
  entry_by n t N q (says_function c g) ih a l = absurd (true≢false (sym (ap is_atom (node_term Θ.linked q)) ∙ a))
  entry_by n t N q (says_object c h) ih a l = absurd (true≢false (sym (ap is_atom (node_term Θ.linked q)) ∙ a))
  entry_by n t N q (says_nullary {o = o} c g h) ih a l =
      ap (λ (d : Class). entered_by d t (code_at Θ.program t) (entry_from n Θ.program)) (ap class_with c ∙ (single (nullary_of o)).class) ∙ sym (Θ.linked.entered t ∙ ap (entry_of Θ.table t) q)
  entry_by n t N q (says_one {H = H} {x = x} c f h) ih a l =
      ap (λ (d : Class). entered_by d t (code_at Θ.program t) (entry_from n Θ.program)) (ap class_with c ∙ unary_class_lem (unary_of H) (term_mode (Θ.table.term x)))
      ∙ unary_entry (unary_of H) (term_mode (Θ.table.term x)) t (code_at Θ.program t) (entry_from n Θ.program)
      ∙ begun_mode (Θ.table.term x) t (entry_from n Θ.program (field_a (code_at Θ.program t)))
      ∙ operand_entry n x (field_a (code_at Θ.program t)) ih f (omega arith) (omega (arith, Θ.linked.one_below t H x q)) t
      ∙ sym (Θ.linked.entered t ∙ ap (entry_of Θ.table t) q)
  entry_by n t N q (says_two {H = H} {x = x} {z = z} c f g j) ih a l =
      let below = Θ.linked.two_below t H x z q in
      let inner : begun (term_mode (Θ.table.term z)) t (entry_from n Θ.program (operand_b (code_at Θ.program t))) ≡ choose (is_atom_at Θ.table z) t (Θ.table.entry z) =
      begun_mode (Θ.table.term z) t (entry_from n Θ.program (operand_b (code_at Θ.program t))) ∙ operand_entry n z (operand_b (code_at Θ.program t)) ih g (omega arith) (omega (arith, below.1)) t in
      ap (λ (d : Class). entered_by d t (code_at Θ.program t) (entry_from n Θ.program)) (ap class_with c ∙ binary_class_lem (binary_of2 H) (term_mode (Θ.table.term x)) (term_mode (Θ.table.term z)))
      ∙ binary_entry (binary_of2 H) (term_mode (Θ.table.term x)) (term_mode (Θ.table.term z)) t (code_at Θ.program t) (entry_from n Θ.program)
      ∙ ap (λ (j : ℕ). begun (term_mode (Θ.table.term x)) j (entry_from n Θ.program (field_a (code_at Θ.program t)))) inner
      ∙ begun_mode (Θ.table.term x) (choose (is_atom_at Θ.table z) t (Θ.table.entry z)) (entry_from n Θ.program (field_a (code_at Θ.program t)))
      ∙ operand_entry n x (field_a (code_at Θ.program t)) ih f (omega arith) (omega (arith, below.0)) (choose (is_atom_at Θ.table z) t (Θ.table.entry z))
      ∙ sym (Θ.linked.entered t ∙ ap (entry_of Θ.table t) q)
  entry_by n t N q (says_pointcut c m f i h) ih a l = rw c (sym (Θ.linked.entered t ∙ ap (entry_of Θ.table t) q))
  entry_by n t N q (says_match c m i e f g h) ih a l = rw c (sym (Θ.linked.entered t ∙ ap (entry_of Θ.table t) q))

  entry_below : (n t : ℕ) → Enters n t
  unfolding entry_from
  entry_below zero t h a l = absurd (omega arith)
  entry_below (suc n) t h a l = entry_by n t (Θ.table.node t) refl (Θ.says.node t h) (entry_below n) a l

  pub entry_from_lem : (t : ℕ) → t < term_count → is_atom_at Θ.table t ≡ false → entry_from term_count Θ.program t ≡ Θ.table.entry t
  entry_from_lem t h a = entry_below term_count t h a h

  -- A term is begun where its word says.
  pub begun_at_lem : (b : ℕ) → b < term_count → begun_at Θ.program b ≡ target_at Θ.table b
  begun_at_lem b h = ap (λ (t : Bool). choose t b (term_count + entry_from term_count Θ.program b)) (word_atom b h) ∙ try (is_atom_at Θ.table b) refl
    where
      try : (t : Bool) → is_atom_at Θ.table b ≡ t → choose t b (term_count + entry_from term_count Θ.program b) ≡ choose t b (term_count + Θ.table.entry b)
      try true a = refl
      try false a = ap (λ (e : ℕ). term_count + e) (entry_from_lem b h a)
