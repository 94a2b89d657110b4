-- Truths as facts: and, or, not, and the tests of numbers.
use Prim.Native.Nat.{ℕ, ◌≤◌, ◌<◌}
use native.Mathlib.Omega.{arith}
use mathlib.Core.Path.{◌≡◌, refl, sym}
use mathlib.Core.Bool.{Bool, true, false, not, ◌&&◌, ◌||◌}
use lib.Dec.{T, eqb, ltb, leb, leb→le, le→leb, ltb→lt, lt→ltb, nltb→le, eqb→eq, eqb_refl}

pub no_path : {A : Type 0} → true ≡ false → A
no_path h = let z : ◌≡◌ {A = ℕ} 0 1 = cc in absurd (omega arith)

-- A test passes or fails.
pub by_test : {P : Type 0} (t : Bool) → (t ≡ true → P) → (t ≡ false → P) → P
by_test true f g = f refl
by_test false f g = g refl

pub and_l : (a b : Bool) → a && b ≡ true → a ≡ true
and_l true b h = refl
and_l false b h = h

pub and_r : (a b : Bool) → a && b ≡ true → b ≡ true
and_r true b h = h
and_r false b h = no_path (sym h)

pub and_i : {a b : Bool} → a ≡ true → b ≡ true → a && b ≡ true
and_i h k = rw h k

-- Not both of a && b where the whole is false.
pub and_false : (a b : Bool) → a && b ≡ false → a ≡ true → b ≡ false
and_false true b h k = h
and_false false b h k = no_path (sym k)

pub or_false_l : (a b : Bool) → a || b ≡ false → a ≡ false
or_false_l true b h = h
or_false_l false b h = refl

pub or_false_r : (a b : Bool) → a || b ≡ false → b ≡ false
or_false_r true b h = no_path h
or_false_r false b h = h

pub not_t : (a : Bool) → not a ≡ true → a ≡ false
not_t true h = sym h
not_t false h = refl

pub same_truth : (a b : Bool) → (a ≡ true → b ≡ true) → (b ≡ true → a ≡ true) → a ≡ b
same_truth true b f g = sym (f refl)
same_truth false true f g = g refl
same_truth false false f g = refl

pub T_of : {a : Bool} → a ≡ true → T a
T_of h = rw h tt

pub of_t : (a : Bool) → T a → a ≡ true
of_t true t = refl
of_t false t = absurd t

pub lt_of : {m n : ℕ} → ltb m n ≡ true → m < n
lt_of {m} {n} h = ltb→lt m n (T_of h)

pub of_lt : {m n : ℕ} → m < n → ltb m n ≡ true
of_lt {m} {n} h = of_t (ltb m n) (lt→ltb m n h)

pub le_of : {m n : ℕ} → leb m n ≡ true → m ≤ n
le_of {m} {n} h = leb→le m n (T_of h)

pub of_le : {m n : ℕ} → m ≤ n → leb m n ≡ true
of_le {m} {n} h = of_t (leb m n) (le→leb m n h)

pub ge_of : {m n : ℕ} → ltb m n ≡ false → n ≤ m
ge_of {m} {n} h = nltb→le m n (rw h tt)

pub eq_of : {m n : ℕ} → eqb m n ≡ true → m ≡ n
eq_of {m} {n} h = eqb→eq m n (T_of h)

pub of_eq : {m n : ℕ} → m ≡ n → eqb m n ≡ true
of_eq {m} {n} h = rw h (of_t (eqb n n) (eqb_refl n))
