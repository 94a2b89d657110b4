-- The elements that pass a test: how many, of a mapped list, by two tests, and of a list the other way round.
use Prim.Native.Nat.{◌≤◌}
use native.Mathlib.Omega.{arith}
use mathlib.Core.Path.{◌≡◌, refl, ap, ◌∙◌}
use mathlib.Core.Bool.{Bool, true, false}
use mathlib.Core.List.{List, [], ◌∷◌, map, reverse, reverse_aux}
use lib.ListN.{length}
use Rattle.calculus.specs.Combinators.{choose, filtered}

pub filtered_length : {A : Type 0} (p : A → Bool) (x : List A) → length (filtered p x) ≤ length x
filtered_length p [] = omega arith
filtered_length {A} p (a ∷ x) = look (p a) (filtered p x) (filtered_length p x)
  where
    look : (b : Bool) (y : List A) → length y ≤ length x → length (choose b (a ∷ y) y) ≤ length (a ∷ x)
    look true y h = omega arith
    look false y h = omega arith

-- A test of what f gives, where it is a test of what f is given.
pub filtered_map : {A B : Type 0} (f : A → B) (p : A → Bool) (q : B → Bool) → ((a : A) → q (f a) ≡ p a) → (x : List A) → map f (filtered p x) ≡ filtered q (map f x)
filtered_map f p q h [] = refl
filtered_map {A} {B} f p q h (a ∷ x) = rw (h a) (look (p a) (filtered p x) (filtered q (map f x)) (filtered_map f p q h x))
  where
    look : (b : Bool) (y : List A) (z : List B) → map f y ≡ z → map f (choose b (a ∷ y) y) ≡ choose b (f a ∷ z) z
    look true y z e = cc
    look false y z e = e

-- Two tests, in either order.
pub filtered_swap : {A : Type 0} (p q : A → Bool) (x : List A) → filtered p (filtered q x) ≡ filtered q (filtered p x)
filtered_swap p q [] = refl
filtered_swap {A} p q (a ∷ x) = look (filtered q x) (filtered p x) (p a) (q a) refl refl (filtered_swap p q x)
  where
    look : (y z : List A) (b c : Bool) → p a ≡ b → q a ≡ c → filtered p y ≡ filtered q z → filtered p (choose c (a ∷ y) y) ≡ filtered q (choose b (a ∷ z) z)
    look y z true true e f h = rw (e, f) (ap (λ r. a ∷ r) h)
    look y z true false e f h = rw f h
    look y z false true e f h = rw e h
    look y z false false e f h = h

-- A list the other way round.
filtered_onto : {A : Type 0} (p : A → Bool) (x y : List A) → filtered p (reverse_aux x y) ≡ reverse_aux (filtered p x) (filtered p y)
filtered_onto p [] y = refl
filtered_onto {A} p (a ∷ x) y = filtered_onto p x (a ∷ y) ∙ look (p a)
  where
    look : (b : Bool) → reverse_aux (filtered p x) (choose b (a ∷ filtered p y) (filtered p y)) ≡ reverse_aux (choose b (a ∷ filtered p x) (filtered p x)) (filtered p y)
    look true = refl
    look false = refl

pub filtered_reverse : {A : Type 0} (p : A → Bool) (x : List A) → filtered p (reverse x) ≡ reverse (filtered p x)
filtered_reverse p x = filtered_onto p x []
