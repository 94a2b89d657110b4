-- Laws of what bytes say: none of them, some, one more, and all of them; and a number is never over the most.
use Prim.Native.Nat.{ℕ, ◌+◌, ◌≤◌, ◌<◌}
use native.Mathlib.Numerals.{add-one}
use native.Mathlib.Omega.{arith}
use mathlib.Core.Path.{◌≡◌, refl, ◌∙◌}
use mathlib.Core.Bool.{Bool, true, false, ◌&&◌, cond}
use mathlib.Core.List.{List, [], ◌∷◌}
use lib.ListN.{length, get_or, drop, drop_of_length-le}
use lib.Seq.{drop-cons}
use lib.Dec.{leb}
use Rattle.std.specs.Prelude.{Option, Some, None}
use borrow.Author.Tests.{leb-true}
use Rattle.numerals.specs.Numerals.{is_digit, with_digit, after, after_all, numeral, AtMost}

pub none_said : (most : ℕ) (ds : List ℕ) → length ds ≡ 0 → None ≡ numeral most ds
none_said most [] h = refl
none_said most (d ∷ ds) h = absurd (omega arith)

pub some_said : (most : ℕ) (ds : List ℕ) → 0 < length ds → numeral most ds ≡ after_all most (Some 0) ds
some_said most [] h = absurd (omega arith)
some_said most (d ∷ ds) h = refl

-- Once no number is said, none is said with more bytes.
none_later : (most : ℕ) (ds : List ℕ) → after_all most None ds ≡ None
unfolding after_all
none_later most [] = refl
none_later most (d ∷ ds) = none_later most ds

pub one_more : (most : ℕ) (ds : List ℕ) (n i : ℕ) → i < length ds → (r : Option ℕ) → r ≡ after most (Some n) (get_or ds i 0) → after_all most (Some n) (drop i ds) ≡ after_all most r (drop (i + 1) ds)
unfolding after_all
one_more most ds n i h r e = rw (add-one, drop-cons ds i 0 h, e)

pub none_more : (most : ℕ) (ds : List ℕ) (n i : ℕ) → i < length ds → None ≡ after most (Some n) (get_or ds i 0) → after_all most (Some n) (drop i ds) ≡ None
none_more most ds n i h e = one_more most ds n i h None e ∙ none_later most (drop (i + 1) ds)

pub no_more : (most : ℕ) (ds : List ℕ) (s : Option ℕ) (i : ℕ) → length ds ≤ i → after_all most s (drop i ds) ≡ s
unfolding after_all
no_more most ds s i h = rw (drop_of_length-le ds {i = i} h)

-- A number is said only where it has passed the test.
tested : (most n : ℕ) (digit small : Bool) → (small ≡ true → n ≤ most) → AtMost most (cond (digit && small) (Some n) None)
tested most n true true h = h refl
tested most n true false h = tt
tested most n false small h = tt

after_at_most : (most : ℕ) (s : Option ℕ) (d : ℕ) → AtMost most (after most s d)
after_at_most most (Some n) d = tested most (with_digit n d) (is_digit d) (leb (with_digit n d) most) (leb-true (with_digit n d) most)
after_at_most most None d = tt

all_at_most : (most : ℕ) (s : Option ℕ) → AtMost most s → (ds : List ℕ) → AtMost most (after_all most s ds)
unfolding after_all
all_at_most most s h [] = h
all_at_most most s h (d ∷ ds) = all_at_most most (after most s d) (after_at_most most s d) ds

pub at_most : (most : ℕ) (ds : List ℕ) → AtMost most (numeral most ds)
at_most most [] = tt
at_most most (d ∷ ds) = all_at_most most (Some 0) (omega arith) (d ∷ ds)
