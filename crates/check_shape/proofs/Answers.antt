-- Laws of requirements in a row, and of the first check.
use Rattle.std.specs.Prelude.{Ok, is_err}
use borrow.Author.Tests.{lt-ltb}
use Prim.Native.Nat.{ℕ, zero, suc, ◌+◌, ◌-◌, ◌≤◌, ◌<◌}
use native.Mathlib.Omega.{arith}
use mathlib.Core.Path.{◌≡◌, refl, ap, sym, ◌∙◌}
use mathlib.Core.Bool.{Bool, true, false, not, ◌&&◌}
use mathlib.Core.List.{List, [], ◌∷◌}
use lib.ListN.{length}
use lib.Dec.{ltb}
use Rattle.image.specs.declared.Refusal.{Refusal}
use Rattle.image.specs.Records.{Layout}
use Rattle.image.specs.Layout.{is_nil}
use Rattle.laws.specs.Tests.{all, all_below}
use Rattle.verdict.specs.Answers.{require, require_from, refused_at}
use Rattle.verdict.specs.Shape.{none_empty, shape}
use Rattle.verdict.proofs.Answered.{each_required, turn_stops, turn_goes}
use Rattle.check_shape.specs.Checks.{passes}
use Rattle.laws.proofs.Booleans.{and_r, lt_of}
use Rattle.laws.proofs.Tests.{all_below_lem}

pub from_start : (r : Refusal) (place : ℕ → ℕ) (ok : ℕ → Bool) (n : ℕ) → require_from n 0 r place ok ≡ require_from (n - 0) 0 r place ok
from_start r place ok n = let z : n - 0 ≡ n = omega arith in rw z refl

-- Of n numbers, those from i on.
module _ (r : Refusal) (place : ℕ → ℕ) (ok : ℕ → Bool) (n i : ℕ) where
  pub from_end : n ≤ i → require_from (n - i) i r place ok ≡ Ok tt
  unfolding require_from
  from_end h = let z : n - i ≡ 0 = omega arith in rw z refl

  pub from_next : i < n → ok i ≡ true → require_from (n - i) i r place ok ≡ require_from (n - (i + 1)) (i + 1) r place ok
  unfolding require_from
  from_next h e = let w : i + 1 ≡ suc i = omega arith in let z : n - i ≡ suc (n - suc i) = omega arith in rw (w, z, e, require_from) refl

  pub from_here : i < n → ok i ≡ false → require_from (n - i) i r place ok ≡ refused_at r (place i)
  unfolding require_from
  from_here h e = let z : n - i ≡ suc (n - (i + 1)) = omega arith in rw (z, e, require_from) refl

-- Where each test holds, nothing is refused.
pub from_hold : (r : Refusal) (place : ℕ → ℕ) (ok : ℕ → Bool) (n : ℕ) → all_below n ok ≡ true → require_from n 0 r place ok ≡ Ok tt
from_hold r place ok n h = each_required n 0 r place ok (λ k l m. all_below_lem n ok h k (omega arith))

-- Where each test before f holds, and that of f does not, it is refused there.
pub from_first : (r : Refusal) (place : ℕ → ℕ) (ok : ℕ → Bool) (n f : ℕ) → f < n → ((k : ℕ) → k < f → ok k ≡ true) → ok f ≡ false → require_from n 0 r place ok ≡ refused_at r (place f)
from_first r place ok n f h before e = go f (omega arith) ∙ from_here r place ok n f h e
  where
    go : (i : ℕ) → i ≤ f → require_from n 0 r place ok ≡ require_from (n - i) i r place ok
    go zero l = from_start r place ok n
    go (suc i) l = let w : i + 1 ≡ suc i = omega arith in go i (omega arith) ∙ rw w at (from_next r place ok n i (omega arith) (before i (omega arith)))

-- The same places and the same tests give the same answer.
pub from_same : (r : Refusal) (p q : ℕ → ℕ) (f g : ℕ → Bool) (n i : ℕ) → ((k : ℕ) → k < i + n → p k ≡ q k) → ((k : ℕ) → k < i + n → f k ≡ g k)
    → require_from n i r p f ≡ require_from n i r q g
unfolding require_from
from_same r p q f g zero i hp hf = refl
from_same r p q f g (suc n) i hp hf = go (f i) refl (from_same r p q f g n (suc i) (λ k l. hp k (omega arith)) (λ k l. hf k (omega arith)))
  where
    go : (t : Bool) → f i ≡ t → require_from n (suc i) r p f ≡ require_from n (suc i) r q g → require_from (suc n) i r p f ≡ require_from (suc n) i r q g
    go true e rest = let w : g i ≡ true = sym (hf i (omega arith)) ∙ e in rw (e, w, require_from) rest
    go false e rest =
        let w : g i ≡ false = sym (hf i (omega arith)) ∙ e in
        let x : p i ≡ q i = hp i (omega arith) in
        rw (e, w, x, require_from) refl

-- Refusal 9, and what comes after it.
module _ (L : Layout) (size : ℕ) where
  pub shape_empty : none_empty L ≡ false → shape L size ≡ refused_at Refusal.EmptySection size
  unfolding shape
  shape_empty h = let e : require (none_empty L) Refusal.EmptySection size ≡ refused_at Refusal.EmptySection size = rw h refl in turn_stops _ _ (ap is_err e) ∙ e

  pub shape_passes : none_empty L ≡ true → shape L size ≡ passes L
  unfolding shape
  shape_passes h = turn_goes _ _ (ap is_err (ap (λ t. require t Refusal.EmptySection size) h))

-- A section is empty if it has no records.
some : (xs : List ℕ) → not (is_nil xs) ≡ ltb 0 (length xs)
some [] = refl
some (x ∷ xs) = sym (lt-ltb 0 (length (x ∷ xs)) (omega arith))

and_true : (a : Bool) → a && true ≡ a
and_true true = refl
and_true false = refl

pub none_empty_lem : (L : Layout) (d t n : ℕ) → d ≡ length L.domains → t ≡ length L.types → n ≡ length L.terms → none_empty L ≡ (ltb 0 d && (ltb 0 t && ltb 0 n))
unfolding all
none_empty_lem L d t n hd ht hn = rw (hd, ht, hn, some L.domains, some L.types, some L.terms, and_true) refl

pub some_terms : (d t n : ℕ) → (ltb 0 d && (ltb 0 t && ltb 0 n)) ≡ true → 0 < n
some_terms d t n h = lt_of (and_r (ltb 0 t) (ltb 0 n) (and_r (ltb 0 d) (ltb 0 t && ltb 0 n) h))
