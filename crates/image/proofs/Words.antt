-- Fields are the 16-bit numbers at their offsets: what a program that reads bytes sees.
use Prim.Native.Nat.{ℕ, zero, suc, ◌+◌, ◌*◌, ◌<◌}
use native.Mathlib.Omega.{arith}
use mathlib.Core.Path.{◌≡◌, refl, ap, ◌∙◌}
use mathlib.Core.List.{List}
use lib.ListN.{length, get_or, take, drop}
use lib.Seq.{get_or-take, get_or-drop}
use Rattle.image.specs.Bytes.{le16, words}

pub words_length : (b : List ℕ) (o n : ℕ) → length (words b o n) ≡ n
unfolding words
words_length b o zero = refl
words_length b o (suc n) = ap suc (words_length b (o + 2) n)

-- Number i of n.
pub words_at : (b : List ℕ) (o n i : ℕ) → i < n → get_or (words b o n) i 0 ≡ le16 b (o + 2 * i)
unfolding words
words_at b o zero i h = absurd (omega arith)
words_at b o (suc n) zero h = let e : o ≡ o + 2 * 0 = omega arith in ap (λ j. le16 b j) e
words_at b o (suc n) (suc i) h =
    let e : o + 2 + 2 * i ≡ o + 2 * suc i = omega arith in
    words_at b (o + 2) n i (omega arith) ∙ ap (λ j. le16 b j) e

-- A number in a part of the image, n bytes from a on, is the number in the image.
pub le16_part : (b : List ℕ) (a n i : ℕ) → i + 1 < n → le16 (take n (drop a b)) i ≡ le16 b (a + i)
le16_part b a n i h =
    let x : get_or (take n (drop a b)) i 0 ≡ get_or b (a + i) 0 = get_or-take n (drop a b) i 0 (omega arith) ∙ get_or-drop a b i 0 in
    let y : get_or (take n (drop a b)) (i + 1) 0 ≡ get_or b (a + (i + 1)) 0 = get_or-take n (drop a b) (i + 1) 0 h ∙ get_or-drop a b (i + 1) 0 in
    let e : a + (i + 1) ≡ a + i + 1 = omega arith in
    let z : get_or b (a + (i + 1)) 0 ≡ get_or b (a + i + 1) 0 = ap (λ j. get_or b j 0) e in
    cc
