-- Laws of numbers in bytes, and of bytes written over others.
use borrow.Rule.Slice.PartMut.{put_mid, post_of, Post-is}
use Prim.Native.Nat.{ℕ, zero, suc, ◌+◌, ◌-◌, ◌*◌, ◌/◌, ◌%◌, ◌^◌, ◌≤◌, ◌<◌}
use native.Mathlib.Omega.{arith}
use native.Mathlib.Nat.{zero-add, suc-add, add-suc, mod-one, mod-eq_of_lt, div-div-eq-div-mul}
use native.Mathlib.Numerals.{add-one}
use mathlib.Core.Path.{◌≡◌, refl, sym, ap, ◌∙◌}
use mathlib.Core.List.{List, [], ◌∷◌, ◌++◌, append_assoc}
use lib.Arith.{mod-mul}
use lib.ListN.{length, get_or, take, drop}
use lib.Seq.{drop-cons}
use Rattle.base_bytes.specs.Bytes.{AreBytes, bytes_of, number_of, over}

pub length_bytes : (k n : ℕ) → length (bytes_of k n) ≡ k
unfolding bytes_of
length_bytes zero n = refl
length_bytes (suc k) n = ap suc (length_bytes k (n / 256))

power_positive : (k : ℕ) → 0 < 256 ^ k
power_positive zero = omega arith
power_positive (suc k) = let h : 0 < 256 ^ k = power_positive k in omega arith

-- The bytes of a number hold the number, as far as they reach.
pub number_bytes : (k n : ℕ) → number_of (bytes_of k n) ≡ n % 256 ^ k
unfolding bytes_of number_of
number_bytes zero n = sym (mod-one n)
number_bytes (suc k) n =
    let e : 256 ^ suc k ≡ 256 ^ k * 256 = omega arith in
    let i : number_of (bytes_of k (n / 256)) ≡ n / 256 % 256 ^ k = number_bytes k (n / 256) in
    let m : n % (256 ^ k * 256) ≡ n / 256 % 256 ^ k * 256 + n % 256 = mod-mul n (power_positive k) (omega arith) in
    rw e (omega arith)

pub number_back : (k n : ℕ) → n < 256 ^ k → number_of (bytes_of k n) ≡ n
number_back k n h = number_bytes k n ∙ mod-eq_of_lt h

-- The bytes from offset k + j on, one after the other.
unfoldable pub gets : List ℕ → ℕ → ℕ → ℕ → List ℕ
gets b k j zero = []
gets b k j (suc n) = get_or b (k + j) 0 ∷ gets b k (suc j) n

gets_take : (b : List ℕ) (k j n : ℕ) → k + j + n ≤ length b → gets b k j n ≡ take n (drop (k + j) b)
unfolding gets
gets_take b k j zero h = refl
gets_take b k j (suc n) h =
    let i : gets b k (suc j) n ≡ take n (drop (k + suc j) b) = gets_take b k (suc j) n (omega arith) in
    let e : k + suc j ≡ suc (k + j) = add-suc k j in
    rw (drop-cons b (k + j) 0 (omega arith)) (ap (λ (x : List ℕ). get_or b (k + j) 0 ∷ x) (rw e at i))

pub bytes_at : (b : List ℕ) (k n : ℕ) → k + suc n ≤ length b → get_or b k 0 ∷ gets b k 1 n ≡ take (suc n) (drop k b)
bytes_at b k n h =
    let i : gets b k 1 n ≡ take n (drop (k + 1) b) = gets_take b k 1 n (omega arith) in
    rw (drop-cons b k 0 (omega arith)) (ap (λ (x : List ℕ). get_or b k 0 ∷ x) (rw add-one at i))

-- A part of n bytes from offset k on that has become bs is one write.
pub put_over : (k n : ℕ) (bs xs : List ℕ) → length bs ≡ n → put_mid k (k + n - k) xs bs ≡ over k bs xs
unfolding over
put_over k n bs xs e =
    let rest : post_of k (k + n - k) xs ≡ drop (k + length bs) xs = Post-is k (k + n) xs (omega arith) ∙ ap (λ m. drop (k + m) xs) (sym e) in
    ap (λ q. take k xs ++ (bs ++ q)) rest ∙ sym (append_assoc (take k xs) bs (drop (k + length bs) xs))

-- The bytes of a number, as code works them out: one division each.
pub bytes2 : (n : ℕ) → n % 256 ∷ n / 256 % 256 ∷ [] ≡ bytes_of 2 n
unfolding bytes_of
bytes2 n = refl

pub bytes4 : (n : ℕ) → n % 256 ∷ n / 256 % 256 ∷ n / 65536 % 256 ∷ n / 16777216 % 256 ∷ [] ≡ bytes_of 4 n
unfolding bytes_of
bytes4 n = simp div-div-eq-div-mul

pub bytes8 : (n : ℕ) → n % 256 ∷ n / 256 % 256 ∷ n / 65536 % 256 ∷ n / 16777216 % 256 ∷ n / 4294967296 % 256 ∷ n / 1099511627776 % 256 ∷ n / 281474976710656 % 256 ∷ n / 72057594037927936 % 256 ∷ [] ≡ bytes_of 8 n
unfolding bytes_of
bytes8 n = simp div-div-eq-div-mul

-- A number in two parts, in bytes: those of the low part, then those of the high one.
pub bytes_parts : (a b low high : ℕ) → low < 256 ^ a → bytes_of (a + b) (low + 256 ^ a * high) ≡ bytes_of a low ++ bytes_of b high
unfolding bytes_of
bytes_parts zero b low high h =
    let e : low + 256 ^ 0 * high ≡ high = omega arith in
    rw (zero-add, e)
bytes_parts (suc a) b low high h =
    let p : 256 ^ suc a ≡ 256 ^ a * 256 = omega arith in
    let n : low + 256 ^ suc a * high ≡ low + 256 * (256 ^ a * high) = rw p (omega arith) in
    let d : (low + 256 * (256 ^ a * high)) / 256 ≡ low / 256 + 256 ^ a * high = omega arith in
    let m : (low + 256 * (256 ^ a * high)) % 256 ≡ low % 256 = omega arith in
    rw (suc-add, n, d, m) (ap (λ (x : List ℕ). low % 256 ∷ x) (bytes_parts a b (low / 256) high (omega arith)))

-- Bytes are those of the number that they hold.
pub bytes_back : (b : List ℕ) → AreBytes b → bytes_of (length b) (number_of b) ≡ b
unfolding bytes_of number_of
bytes_back [] h = refl
bytes_back (a ∷ b) h =
    let s : a < 256 = h 0 in
    let d : (a + 256 * number_of b) / 256 ≡ number_of b = omega arith in
    let m : (a + 256 * number_of b) % 256 ≡ a = omega arith in
    rw (d, m) (ap (λ (x : List ℕ). a ∷ x) (bytes_back b (λ i. h (suc i))))
