-- The values that are kept (card 6), as the tables have them; and that they stay where other words are written.
use Prim.Native.Nat.{ℕ, suc, ◌+◌, ◌-◌, ◌≤◌, ◌<◌}
use native.Mathlib.Omega.{arith}
use mathlib.Core.Path.{◌≡◌, refl, ap, subst, ◌∙◌}
use mathlib.Core.List.{List, [], ◌∷◌}
use mathlib.Core.Option.{Option, none, some}
use lib.ListN.{length}
use Rattle.calculus.specs.State.{Entry}
use Rattle.calculus.specs.Place.{kept_on_of}
use Rattle.calculus.specs.View.{label_of}
use Rattle.closure_machine.specs.Closure.{CVal, unload_val}
use Rattle.vm_theory.specs.Conf.{call_a, advice_a, rest_a, many_a, keep_a, Chain, base, kept_by}
use Rattle.vm_machine.specs.Memory.{Memory, kept_at, entry_label}
use Rattle.vm_machine_correct.proofs.Setup.{Setup}
use Rattle.vm_machine_correct.proofs.Relations.{Sizes, IsVal, val_at, val_grows, Grows}

-- There are no more of them than unfinished terms.
kept_one : (o : Option ℕ) (w : CVal) (x : List (Entry CVal)) (n : ℕ) → length x ≤ n → length (kept_on_of o w x) ≤ suc n
kept_one none w x n h = omega arith
kept_one (some l) w x n h = omega arith

few_kept : (A : Chain) → length (kept_by A) ≤ base A
few_kept [] = omega arith
few_kept (call_a S ∷ A) = omega (arith, few_kept A)
few_kept (advice_a p w x S ∷ A) = omega (arith, few_kept A)
few_kept (rest_a w x S ∷ A) = omega (arith, few_kept A)
few_kept (many_a o vs es S ∷ A) = omega (arith, few_kept A)
few_kept (keep_a u w S ∷ A) = omega (arith, kept_one (label_of (unload_val u)) w (kept_by A) (base A) (few_kept A))

-- A value is kept under a label.
pub record UnderLabel (u : CVal) : Type 0 where
  pub label : ℕ
  pub is : label_of (unload_val u) ≡ some label

module _ (Θ : Setup) where
  -- The first n places have the values x, the innermost last.
  pub data AreKept (M : Memory) (z : Sizes) : ℕ → List (Entry CVal) → Type 0 where
    none_kept : AreKept M z 0 []
    one_kept : {n : ℕ} {e : Entry CVal} {x : List (Entry CVal)} → entry_label (kept_at M n) ≡ e.label → IsVal Θ M z (kept_at M n) e.held → AreKept M z n x → AreKept M z (suc n) (e ∷ x)

  pub kept_below : {M : Memory} {z : Sizes} {M' : Memory} {z' : Sizes} {n : ℕ} {x : List (Entry CVal)} → Grows M z M' z' → ((i : ℕ) → i < n → kept_at M' i ≡ kept_at M i) → AreKept M z n x → AreKept M' z' n x
  kept_below g h none_kept = none_kept
  kept_below {M} {z} {M'} {z'} g h (one_kept {n = n} l v k) =
      one_kept (ap entry_label (h n (omega arith)) ∙ l) (val_at Θ M' z' (h n (omega arith)) (val_grows Θ M z M' z' g v)) (kept_below g (λ i b. h i (omega arith)) k)

  pub kept_grows : {M : Memory} {z : Sizes} {M' : Memory} {z' : Sizes} {n : ℕ} {x : List (Entry CVal)} → Grows M z M' z' → ((i : ℕ) → kept_at M' i ≡ kept_at M i) → AreKept M z n x → AreKept M' z' n x
  kept_grows g h k = kept_below g (λ i b. h i) k

  -- One value more is kept.
  pub kept_more : {M : Memory} {z : Sizes} {n : ℕ} {u w : CVal} {x : List (Entry CVal)} (l : UnderLabel u) → entry_label (kept_at M n) ≡ l.label → IsVal Θ M z (kept_at M n) w → AreKept M z n x
      → AreKept M z (n + 1) (kept_on_of (label_of (unload_val u)) w x)
  kept_more {M} {z} {n} {u} {w} {x} l e i k =
      let next : n + 1 ≡ suc n = omega arith in
      rw (next, l.is) (one_kept e i k)

  pub kept_count : {M : Memory} {z : Sizes} {n : ℕ} {x : List (Entry CVal)} → AreKept M z n x → n ≡ length x
  kept_count none_kept = refl
  kept_count (one_kept l v k) = ap suc (kept_count k)

  -- One value less is kept.
  one_less : {M : Memory} {z : Sizes} {n l : ℕ} {w : CVal} {x : List (Entry CVal)} → AreKept M z n (record { label = l; held = w } ∷ x) → AreKept M z (n - 1) x
  one_less (one_kept {n = n} l v k) = let e : suc n - 1 ≡ n = omega arith in rw e k

  pub kept_left : {M : Memory} {z : Sizes} {n : ℕ} {u : CVal} (w : CVal) (x : List (Entry CVal)) → UnderLabel u → AreKept M z n (kept_on_of (label_of (unload_val u)) w x) → AreKept M z (n - 1) x
  kept_left {M} {z} {n} {u} w x l k = one_less (subst (λ (o : Option ℕ). AreKept M z n (kept_on_of o w x)) l.is k)

  -- So there is a place for each.
  pub kept_fits : {M : Memory} {z : Sizes} {n : ℕ} (A : Chain) → AreKept M z n (kept_by A) → n ≤ base A
  kept_fits A k = omega (arith, kept_count k, few_kept A)
