-- The mark of a term (document 01, "Turned back at the gate", refusals 11 and 12): 0 until its record is there; then its height, which is 1 without children and is cut at one past the limit of the depths; 128 more once it is a child; and 255 once it is a child again, whatever its height.
use Rattle.std.specs.Prelude.{ℕ, zero, suc, ◌+◌, ◌%◌, ◌≤◌, ◌<◌, min, max, ◌≡◌, Bool, true, false, ◌&&◌, length, get_or, set, replicate, leb, ltb}
use mathlib.Core.List.{List, [], ◌∷◌, foldl}
use Rattle.calculus.specs.Combinators.{choose}
use Rattle.image.specs.Limits.{term_limit, depth_limit}
use Rattle.image.specs.Records.{Layout}
use Rattle.image.specs.Layout.{records_of}
use Rattle.image.specs.Types.{children}

-- One more, up to a limit.
abbrev pub more : ℕ → ℕ → ℕ
more limit n = min limit (suc n)

-- What the first use adds to a mark, which is more than any height; and the mark of a term that is used again.
abbrev pub first_use : ℕ
first_use = 128

abbrev pub used_again : ℕ
used_again = 255

-- The height in a mark; a mark with one use more; the mark is that of a term that is used once.
abbrev pub height_in : ℕ → ℕ
height_in m = m % first_use

abbrev pub used_mark : ℕ → ℕ
used_mark m = choose (ltb m first_use) (m + first_use) used_again

abbrev pub is_once : ℕ → Bool
is_once m = leb first_use m && ltb m used_again

-- The marks with one use more of term e; of each of the terms es, one after another.
abbrev pub used : List ℕ → ℕ → List ℕ
used ms e = set ms e (used_mark (get_or ms e 0))

abbrev pub use_all : List ℕ → List ℕ → List ℕ
use_all es ms = foldl used ms es

-- The greatest of h and of the heights of the terms es, which are used meanwhile.
unfoldable pub highest : List ℕ → List ℕ → ℕ → ℕ
highest [] ms h = h
highest (e ∷ es) ms h = highest es (used ms e) (max h (height_in (get_or ms e 0)))

-- The height of a term with the children es; the marks with one term more, n, which has these children.
abbrev pub height_of : List ℕ → List ℕ → ℕ
height_of es ms = more (suc depth_limit) (highest es ms 0)

abbrev pub entered : List ℕ → ℕ → List ℕ → List ℕ
entered es n ms = set (use_all es ms) n (height_of es ms)

-- The marks when the n first terms of a layout are there.
unfoldable pub marks_of : Layout → ℕ → List ℕ
marks_of L zero = replicate term_limit 0
marks_of L (suc n) = entered (children L n) n (marks_of L n)

-- The marks of all terms of an image that is laid out.
abbrev pub all_marks : List ℕ → List ℕ
all_marks b = marks_of (records_of b) (length (records_of b).terms)

-- Each of the numbers is below n.
pub record Lower (n : ℕ) (es : List ℕ) : Type 0 where
  pub at : (j : ℕ) → j < length es → get_or es j 0 < n

-- Of the n first marks, the first that is not that of a term used once is i's, which is n if there is none.
pub record FirstMisused (ms : List ℕ) (n i : ℕ) : Type 0 where
  pub inside : i ≤ n
  pub before : (k : ℕ) → k < i → is_once (get_or ms k 0) ≡ true
  pub here : i < n → is_once (get_or ms i 0) ≡ false
