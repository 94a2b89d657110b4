-- The elements that pass a test: where none is gone, and of two lists in one common order.
use Prim.Native.Nat.{◌≤◌}
use native.Mathlib.Omega.{arith}
use mathlib.Core.Path.{◌≡◌, refl, sym, ap}
use mathlib.Core.Bool.{Bool, true, false}
use mathlib.Core.List.{List, [], ◌∷◌}
use lib.ListN.{length}
use Rattle.calculus.specs.Combinators.{choose, filtered}
use Rattle.calculus.proofs.Filtered.{filtered_length}
use Rattle.calculus_noninterference.proofs.Clash.{clash}
use Rattle.calculus_noninterference.proofs.Interleave.{Side, both, left, right, Interleaving, i_nil, i_both, i_left, i_right}

-- Where as many are left, all are.
pub filtered_whole : {A : Type 0} (p : A → Bool) (x : List A) → length x ≤ length (filtered p x) → filtered p x ≡ x
filtered_whole p [] l = refl
filtered_whole p (a ∷ x) l = look (p a) l (filtered_whole p x)
  where
    look : (b : Bool) → length (a ∷ x) ≤ length (choose b (a ∷ filtered p x) (filtered p x)) → (length x ≤ length (filtered p x) → filtered p x ≡ x) → choose b (a ∷ filtered p x) (filtered p x) ≡ a ∷ x
    look true m h = ap (λ y. a ∷ y) (h (omega arith))
    look false m h = let n = filtered_length p x in absurd (omega arith)

module _ {A : Type 0} (H : A → A → Type 0) (L R : A → Type 0) where
  -- Two lists, in some order.
  abbrev pub Ordered : List A → List A → Type 0
  Ordered x y = (w : List Side) × Interleaving H L R w x y

  -- An element in front, or not: on both sides, on the left, on the right.
  or_both : {x y : List A} {a b : A} (t u : Bool) → t ≡ u → H a b → Ordered x y → Ordered (choose t (a ∷ x) x) (choose u (b ∷ y) y)
  or_both true true e h k = (both ∷ k.0, i_both h k.1)
  or_both true false e h k = clash refl e
  or_both false true e h k = clash refl (sym e)
  or_both false false e h k = k

  or_left : {x y : List A} {a : A} (t : Bool) → L a → Ordered x y → Ordered (choose t (a ∷ x) x) y
  or_left true l k = (left ∷ k.0, i_left l k.1)
  or_left false l k = k

  or_right : {x y : List A} {b : A} (t : Bool) → R b → Ordered x y → Ordered x (choose t (b ∷ y) y)
  or_right true l k = (right ∷ k.0, i_right l k.1)
  or_right false l k = k

  -- An element that both have, or that is left to the other side.
  both_or_right : {x y : List A} {a b : A} (t : Bool) → H a b → (t ≡ false → R b) → Ordered x y → Ordered (choose t (a ∷ x) x) (b ∷ y)
  both_or_right true h f k = (both ∷ k.0, i_both h k.1)
  both_or_right false h f k = (right ∷ k.0, i_right (f refl) k.1)

  both_or_left : {x y : List A} {a b : A} (t : Bool) → H a b → (t ≡ false → L a) → Ordered x y → Ordered (a ∷ x) (choose t (b ∷ y) y)
  both_or_left true h f k = (both ∷ k.0, i_both h k.1)
  both_or_left false h f k = (left ∷ k.0, i_left (f refl) k.1)

  module _ (p : A → Bool) where
    -- Those that pass a test, of both lists: what is related passes in both or in none.
    pub filtered_both : ((a b : A) → H a b → p a ≡ p b) → {w : List Side} {x y : List A} → Interleaving H L R w x y → Ordered (filtered p x) (filtered p y)
    filtered_both same i_nil = ([], i_nil)
    filtered_both same (i_both {a} {b} h k) = or_both (p a) (p b) (same a b h) h (filtered_both same k)
    filtered_both same (i_left {a} l k) = or_left (p a) l (filtered_both same k)
    filtered_both same (i_right {b} l k) = or_right (p b) l (filtered_both same k)

    -- Of one list alone, where the other may have alone what goes.
    pub filtered_left : ((a b : A) → H a b → p a ≡ false → R b) → {w : List Side} {x y : List A} → Interleaving H L R w x y → Ordered (filtered p x) y
    filtered_left goes i_nil = ([], i_nil)
    filtered_left goes (i_both {a} {b} h k) = both_or_right (p a) h (goes a b h) (filtered_left goes k)
    filtered_left goes (i_left {a} l k) = or_left (p a) l (filtered_left goes k)
    filtered_left goes (i_right l k) = or_right true l (filtered_left goes k)

    pub filtered_right : ((a b : A) → H a b → p b ≡ false → L a) → {w : List Side} {x y : List A} → Interleaving H L R w x y → Ordered x (filtered p y)
    filtered_right goes i_nil = ([], i_nil)
    filtered_right goes (i_both {a} {b} h k) = both_or_left (p b) h (goes a b h) (filtered_right goes k)
    filtered_right goes (i_left l k) = or_left true l (filtered_right goes k)
    filtered_right goes (i_right {b} l k) = or_right (p b) l (filtered_right goes k)
