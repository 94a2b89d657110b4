-- Laws of the memory in the work area: what a load answers, and what a store leaves.
use Prim.Native.Nat.{ℕ, zero, suc, ◌+◌, ◌*◌, ◌^◌, ◌≤◌, ◌<◌}
use native.Mathlib.Omega.{arith}
use native.Mathlib.Nat.{zero-add, suc-add}
use mathlib.Core.Path.{◌≡◌, refl, sym, ap, ap₂, ◌∙◌}
use mathlib.Core.List.{List, [], ◌∷◌, ◌++◌}
use lib.ListN.{length, get_or, take, drop, set, length-drop}
use lib.Seq.{get_or-take, get_or-drop, take-take, drop-drop, take_at, drop_at, take-set-le, take-set-lt, drop-set-lt, drop-set-add, length-take-le, take-nil}
use Rattle.base_bytes.specs.Bytes.{bytes_of, number_of, number_at, over}
use Rattle.base_bytes.specs.Memory.{words, word_at, word_count, beside_count, beside_base, memory_length, words_of, beside_of, memory_of}
use Rattle.base_bytes.proofs.Bytes.{length_bytes, number_back}
use Rattle.base_bytes.proofs.Over.{take_over, drop_over, drop_front, over_front}

pub length_words : (n : ℕ) (b : List ℕ) → length (words n b) ≡ n
unfolding words
length_words zero b = refl
length_words (suc n) b = ap suc (length_words n (drop 8 b))

-- Word i of n.
pub words_at : (n : ℕ) (b : List ℕ) (i : ℕ) → i < n → get_or (words n b) i 0 ≡ word_at b i
unfolding words number_at
words_at zero b i h = absurd (omega arith)
words_at (suc n) b zero h = refl
words_at (suc n) b (suc i) h =
    let e : 8 + 8 * i ≡ 8 * suc i = omega arith in
    words_at n (drop 8 b) i (omega arith) ∙ ap (λ (x : List ℕ). number_of (take 8 x)) (drop-drop (8 * i) 8 b ∙ ap (λ k. drop k b) e)

-- After a store of a word that word is set.
pub words_store : (n : ℕ) (b : List ℕ) (i v : ℕ) → i < n → 8 * n ≤ length b → v < 256 ^ 8 → words n (over (8 * i) (bytes_of 8 v) b) ≡ set (words n b) i v
unfolding words
words_store zero b i v h l f = absurd (omega arith)
words_store (suc n) b zero v h l f =
    let bs : List ℕ = bytes_of 8 v in
    let k : length bs ≡ 8 = length_bytes 8 v in
    let e : over 0 bs b ≡ bs ++ drop 8 b = over_front bs b ∙ ap (λ j. bs ++ drop j b) k in
    let t : take 8 (over 0 bs b) ≡ bs = ap (take 8) e ∙ take_at bs (drop 8 b) 8 k in
    let d : drop 8 (over 0 bs b) ≡ drop 8 b = ap (drop 8) e ∙ drop_at bs (drop 8 b) 8 k in
    ap₂ (λ x y. number_of x ∷ words n y) t d ∙ ap (◌∷ words n (drop 8 b)) (number_back 8 v f)
words_store (suc n) b (suc i) v h l f =
    let bs : List ℕ = bytes_of 8 v in
    let k : length bs ≡ 8 = length_bytes 8 v in
    let e : 8 * suc i ≡ 8 + 8 * i = omega arith in
    let t : take 8 (over (8 * suc i) bs b) ≡ take 8 b = take_over bs b (8 * suc i) 8 (omega arith) (omega arith) in
    let d : drop 8 (over (8 * suc i) bs b) ≡ over (8 * i) bs (drop 8 b) = ap (λ j. drop 8 (over j bs b)) e ∙ drop_front bs b 8 (8 * i) (omega arith) in
    let m = length-drop 8 b in
    ap₂ (λ x y. number_of x ∷ words n y) t d ∙ ap (number_of (take 8 b) ∷◌) (words_store n (drop 8 b) i v (omega arith) (omega arith) f)

pub take_of_drop : (k m : ℕ) (b : List ℕ) → take m (drop k b) ≡ drop k (take (k + m) b)
take_of_drop zero m b = rw zero-add
take_of_drop (suc k) m [] = take-nil m ∙ ap (drop (suc k)) (sym (take-nil (suc k + m)))
take_of_drop (suc k) m (x ∷ b) = rw suc-add (take_of_drop k m b)

-- What stands past the words does not count.
words_front : (n : ℕ) (b c : List ℕ) → take (8 * n) b ≡ take (8 * n) c → words n b ≡ words n c
unfolding words
words_front zero b c e = refl
words_front (suc n) b c e =
    let k : 8 * suc n ≡ 8 + 8 * n = omega arith in
    let t : (x : List ℕ) → take 8 x ≡ take 8 (take (8 * suc n) x) = λ x. sym (take-take 8 (8 * suc n) x (omega arith)) in
    let d : (x : List ℕ) → take (8 * n) (drop 8 x) ≡ drop 8 (take (8 * suc n) x) = λ x. take_of_drop 8 (8 * n) x ∙ ap (λ j. drop 8 (take j x)) (sym k) in
    ap₂ ◌∷◌ (ap number_of (t b ∙ ap (take 8) e ∙ sym (t c))) (words_front n (drop 8 b) (drop 8 c) (d b ∙ ap (drop 8) e ∙ sym (d c)))

-- The work area's memory.
module _ (b : List ℕ) (long : memory_length ≤ length b) where
  -- It has all its words and bytes.
  pub length_beside : length (beside_of b) ≡ beside_count
  length_beside = let m = length-drop beside_base b in length-take-le beside_count (drop beside_base b) (omega arith)

  -- Byte j of the single bytes.
  pub beside_at : (j : ℕ) → j < beside_count → get_or (beside_of b) j 0 ≡ get_or b (beside_base + j) 0
  beside_at j h = get_or-take beside_count (drop beside_base b) j 0 h ∙ get_or-drop beside_base b j 0

  -- A store of a word sets that word; the single bytes and what stands past the memory stay.
  pub store_words : (i v : ℕ) → i < word_count → v < 256 ^ 8 → memory_of (over (8 * i) (bytes_of 8 v) b) ≡ (set (words_of b) i v, beside_of b)
  store_words i v h f =
      let k : length (bytes_of 8 v) ≡ 8 = length_bytes 8 v in
      ap₂ (λ x y. (x, y)) (words_store word_count b i v h (omega arith) f) (ap (take beside_count) (drop_over (bytes_of 8 v) b (8 * i) beside_base (omega arith) (omega arith)))

  pub store_past : (i v : ℕ) → i < word_count → drop memory_length (over (8 * i) (bytes_of 8 v) b) ≡ drop memory_length b
  store_past i v h =
      let k : length (bytes_of 8 v) ≡ 8 = length_bytes 8 v in
      drop_over (bytes_of 8 v) b (8 * i) memory_length (omega arith) (omega arith)

  -- A store of single byte j sets that byte; the words and what stands past the memory stay.
  pub store_beside : (j v : ℕ) → j < beside_count → memory_of (set b (beside_base + j) v) ≡ (words_of b, set (beside_of b) j v)
  store_beside j v h =
      ap₂ (λ x y. (x, y))
      (words_front word_count (set b (beside_base + j) v) b (take-set-le (8 * word_count) b (beside_base + j) v (omega arith)))
      (ap (take beside_count) (drop-set-add beside_base b j v) ∙ take-set-lt beside_count (drop beside_base b) j v h)

  pub beside_past : (j v : ℕ) → j < beside_count → drop memory_length (set b (beside_base + j) v) ≡ drop memory_length b
  beside_past j v h = drop-set-lt memory_length b (beside_base + j) v (omega arith)
