-- The leaves that the tables have of a value are the calculus's.
use Prim.Native.Nat.{ℕ, zero, suc, ◌+◌, ◌≤◌, ◌<◌, max}
use native.Mathlib.Omega.{arith}
use mathlib.Core.Path.{◌≡◌, refl, ap, ◌∙◌}
use mathlib.Core.Bool.{true, false, false≢true}
use mathlib.Core.List.{◌++◌}
use mathlib.Core.Option.{Option, none, some, none-ne-some}
use lib.ListN.{length, length-append}
use borrow.Author.Tests.{leb-true}
use Rattle.calculus.specs.Syntax.{Ty, Val}
use Rattle.calculus.specs.Plain.{leaf_count, both_leaves, few_leaves, is_plain}
use Rattle.calculus.specs.Report.{leaves}
use Rattle.calculus.specs.Typing.{Policy, StoreTyping, ⊢◌⦂◌ as ValTy}
use Rattle.closure_machine.specs.Closure.{CVal, unload_val}
use Rattle.vm_machine.specs.Memory.{Memory}
use Rattle.vm_machine.specs.States.{State}
use Rattle.vm_machine.specs.Leaves.{leaves_of}
use Rattle.vm_machine_correct.proofs.Setup.{Setup}
use Rattle.vm_machine_correct.proofs.Relations.{Sizes, sizes, IsVal, is_unit, is_truth, is_num, is_fun, is_pair, is_cell, is_label, is_labels, is_advice_lem, is_object_lem, is_bottom, is_kept_lem}
use Rattle.vm_machine_correct.proofs.Ends.{Stands}

-- How deep a value's pairs are.
unfoldable pub pair_depth : Val → ℕ
pair_depth Val.unit = 0
pair_depth (Val.truth b) = 0
pair_depth (Val.number n) = 0
pair_depth (Val.pair v w) = suc (max (pair_depth v) (pair_depth w))
pair_depth (Val.fun t e) = 0
pair_depth (Val.label l) = 0
pair_depth (Val.cell r) = 0
pair_depth (Val.pointcut ls) = 0
pair_depth (Val.advice p ls e) = 0
pair_depth (Val.object t bs) = 0
pair_depth Val.bottom = 0
pair_depth (Val.kept l v k) = 0

module _ (Θ : Setup) (M : Memory) (z : Sizes) where
  pub leaves_is : (d : ℕ) {w : ℕ} {v : CVal} → IsVal Θ M z w v → pair_depth (unload_val v) ≤ d → leaves_of M d w ≡ leaves (unload_val v)
  unfolding leaves_of leaves unload_val pair_depth
  leaves_is zero (is_unit p) h = rw p
  leaves_is zero (is_truth {b = true} p q) h = rw (p, q)
  leaves_is zero (is_truth {b = false} p q) h = rw (p, q)
  leaves_is zero (is_num p q) h = rw (p, q)
  leaves_is zero (is_fun p q e) h = rw p
  leaves_is zero (is_pair p q a c) h = absurd (omega arith)
  leaves_is zero (is_cell p q) h = rw p
  leaves_is zero (is_label p q) h = rw p
  leaves_is zero (is_labels p q a) h = rw p
  leaves_is zero (is_advice_lem p a) h = rw p
  leaves_is zero (is_object_lem p a e) h = rw p
  leaves_is zero (is_bottom p) h = rw p
  leaves_is zero (is_kept_lem p q l a c) h = rw p
  leaves_is (suc d) (is_unit p) h = rw p
  leaves_is (suc d) (is_truth {b = true} p q) h = rw (p, q)
  leaves_is (suc d) (is_truth {b = false} p q) h = rw (p, q)
  leaves_is (suc d) (is_num p q) h = rw (p, q)
  leaves_is (suc d) (is_fun p q e) h = rw p
  leaves_is (suc d) (is_pair p q a c) h = rw p (rw (leaves_is d a (omega arith), leaves_is d c (omega arith)))
  leaves_is (suc d) (is_cell p q) h = rw p
  leaves_is (suc d) (is_label p q) h = rw p
  leaves_is (suc d) (is_labels p q a) h = rw p
  leaves_is (suc d) (is_advice_lem p a) h = rw p
  leaves_is (suc d) (is_object_lem p a e) h = rw p
  leaves_is (suc d) (is_bottom p) h = rw p
  leaves_is (suc d) (is_kept_lem p q l a c) h = rw p

-- A value of a type of n leaves has n leaves, and its pairs are less deep.
leaves_count : {D : Policy} {Σ : StoreTyping} {v : Val} {t : Ty} → ValTy D Σ v t → (n : ℕ) → leaf_count t ≡ some n → (length (leaves v) ≡ n) × (pair_depth v < n)
unfolding leaves pair_depth
leaves_count ValTy.v_unit n p = let q : 1 ≡ n = cc in (q, omega arith)
leaves_count ValTy.v_truth n p = let q : 1 ≡ n = cc in (q, omega arith)
leaves_count ValTy.v_number n p = let q : 1 ≡ n = cc in (q, omega arith)
leaves_count (ValTy.v_pair {v = v} {w = w} {a = a} {b = b} h k) n p = both (leaf_count a) (leaf_count b) refl refl (leaves_count h) (leaves_count k) p
  where
    both : (x y : Option ℕ) → leaf_count a ≡ x → leaf_count b ≡ y → ((m : ℕ) → leaf_count a ≡ some m → (length (leaves v) ≡ m) × (pair_depth v < m))
        → ((m : ℕ) → leaf_count b ≡ some m → (length (leaves w) ≡ m) × (pair_depth w < m)) → both_leaves x y ≡ some n
        → (length (leaves v ++ leaves w) ≡ n) × (suc (max (pair_depth v) (pair_depth w)) < n)
    both none y e f g h q = absurd (none-ne-some n q)
    both (some x) none e f g h q = absurd (none-ne-some n q)
    both (some x) (some y) e f g h q =
        let sum : x + y ≡ n = cc in
        let l = g x e in
        let r = h y f in
        (length-append (leaves v) (leaves w) ∙ omega (arith, l.0, r.0), omega (arith, l.1, r.1))
leaves_count (ValTy.v_fun h) n p = absurd (none-ne-some n p)
leaves_count (ValTy.v_label h) n p = absurd (none-ne-some n p)
leaves_count (ValTy.v_cell h) n p = absurd (none-ne-some n p)
leaves_count (ValTy.v_pointcut h) n p = absurd (none-ne-some n p)
leaves_count (ValTy.v_advice h g k) n p = absurd (none-ne-some n p)
leaves_count (ValTy.v_object h) n p = absurd (none-ne-some n p)
leaves_count ValTy.v_bottom n p = absurd (none-ne-some n p)
leaves_count (ValTy.v_kept h g k) n p = absurd (none-ne-some n p)

-- A value of a plain type has at most 8 leaves, and the tables have them.
pub plain_leaves_lem : (Θ : Setup) (S : State) {D : Policy} {Σ : StoreTyping} {v : Val} {t : Ty} {w : ℕ} → ValTy D Σ v t → is_plain t ≡ true → Stands Θ S w v
    → (leaves_of S.memory 8 w ≡ leaves v) × (length (leaves v) ≤ 8)
plain_leaves_lem Θ S {v = v} {t = t} {w = w} h p st = try (leaf_count t) refl p
  where
    try : (o : Option ℕ) → leaf_count t ≡ o → few_leaves o ≡ true → (leaves_of S.memory 8 w ≡ leaves v) × (length (leaves v) ≤ 8)
    try none e q = absurd (false≢true q)
    try (some n) e q =
        let c = leaves_count h n e in
        let few : n ≤ 8 = leb-true n 8 q in
        let deep : pair_depth (unload_val st.value) ≤ 8 = rw st.plain (omega (arith, c.1)) in
        (leaves_is Θ S.memory (sizes S.regs) 8 st.is deep ∙ ap leaves st.plain, omega (arith, c.0))
