-- Laws of records by their offset.
use Prim.Native.Nat.{ℕ, suc, ◌+◌, ◌-◌, ◌*◌, ◌≤◌, ◌<◌}
use native.Mathlib.Omega.{arith}
use native.Mathlib.Numerals.{add-one}
use mathlib.Core.Path.{◌≡◌, refl, sym, ◌∙◌}
use mathlib.Core.Bool.{Bool, true, false, ◌&&◌}
use mathlib.Core.List.{List}
use lib.ListN.{length, get_or, length-drop, drop_of_length-le}
use lib.Seq.{drop-cons}
use lib.Dec.{leb}
use borrow.Author.Tests.{leb-true, le-leb, lt-leb}
use Rattle.calculus.specs.Combinators.{choose}
use Rattle.base_bytes.specs.Bytes.{number_of, number_at}
use Rattle.listing_lines.specs.Offsets.{size_at}

-- The 16-bit number at an offset with two bytes, one byte or none after it.
pub word_two : (b : List ℕ) (at : ℕ) → at + 1 < length b → get_or b at 0 + 256 * get_or b (at + 1) 0 ≡ number_at 2 at b
unfolding number_of number_at
word_two b at h = rw (add-one, drop-cons b at 0 (omega arith), drop-cons b (suc at) 0 (omega arith)) (omega arith)

pub word_one : (b : List ℕ) (at : ℕ) → at < length b → length b ≤ at + 1 → get_or b at 0 + 256 * 0 ≡ number_at 2 at b
unfolding number_of number_at
word_one b at h l = rw (drop-cons b at 0 h, drop_of_length-le b {i = suc at} (omega arith)) (omega arith)

pub word_none : (b : List ℕ) (at : ℕ) → length b ≤ at → 0 ≡ number_at 2 at b
unfolding number_of number_at
word_none b at l = rw (drop_of_length-le b {i = at} l)

-- The length of a record from the number that it begins with and the bytes that are left.
abbrev sized : ℕ → ℕ → ℕ
sized n rest = choose (leb 4 n && leb n rest) n 0

size_by : (b : List ℕ) (at n : ℕ) → n ≡ number_at 2 at b → sized n (length b - at) ≡ size_at b at
unfolding number_at
size_by b at n e = rw (e, length-drop at b)

sized_short : (n rest : ℕ) → n < 4 → 0 ≡ sized n rest
sized_short n rest h = simp (lt-leb 4 n h)

sized_past : (n rest : ℕ) → 4 ≤ n → rest < n → 0 ≡ sized n rest
sized_past n rest h l = simp (le-leb 4 n h, lt-leb n rest l)

sized_whole : (n rest : ℕ) → 4 ≤ n → n ≤ rest → n ≡ sized n rest
sized_whole n rest h l = simp (le-leb 4 n h, le-leb n rest l)

sized_within : (s t : Bool) (n rest : ℕ) → leb n rest ≡ t → choose (s && t) n 0 ≤ rest
sized_within false t n rest e = omega arith
sized_within true false n rest e = omega arith
sized_within true true n rest e = leb-true n rest e

pub size_short : (b : List ℕ) (at n : ℕ) → n ≡ number_at 2 at b → n < 4 → 0 ≡ size_at b at
size_short b at n e h = sized_short n (length b - at) h ∙ size_by b at n e

pub size_past : (b : List ℕ) (at n : ℕ) → n ≡ number_at 2 at b → 4 ≤ n → length b - at < n → 0 ≡ size_at b at
size_past b at n e h l = sized_past n (length b - at) h l ∙ size_by b at n e

pub size_whole : (b : List ℕ) (at n : ℕ) → n ≡ number_at 2 at b → 4 ≤ n → n ≤ length b - at → n ≡ size_at b at
size_whole b at n e h l = sized_whole n (length b - at) h l ∙ size_by b at n e

-- A record ends within the bytes.
pub size_within : (b : List ℕ) (at n : ℕ) → n ≡ size_at b at → at ≤ length b → at + n ≤ length b
size_within b at n e h =
    let m : ℕ = number_at 2 at b in
    let k : sized m (length b - at) ≤ length b - at = sized_within (leb 4 m) (leb m (length b - at)) m (length b - at) refl in
    let f : n ≡ sized m (length b - at) = e ∙ sym (size_by b at m refl) in
    omega arith
