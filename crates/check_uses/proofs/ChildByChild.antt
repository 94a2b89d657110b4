-- The children of a term, one after another.
use Prim.Native.Nat.{ℕ, zero, suc, ◌+◌, ◌*◌, ◌≤◌, ◌<◌, max}
use native.Mathlib.Omega.{arith}
use native.Mathlib.Numerals.{add-one}
use mathlib.Core.Path.{◌≡◌, refl, ap, subst, sym, ◌∙◌}
use mathlib.Core.List.{List, [], ◌∷◌, ◌++◌}
use lib.ListN.{length, get_or, drop, length-append, drop_of_length-le, get_or-append}
use lib.Seq.{drop-cons, get_or-append-add}
use Rattle.image.specs.Bytes.{le16}
use Rattle.image.specs.Records.{Layout}
use Rattle.image.specs.Types.{children}
use Rattle.image.proofs.Laid.{Below, below_at}
use Rattle.image.proofs.Words.{words_length, words_at}
use Rattle.read_records.specs.Codes.{count_of, children_in}
use Rattle.read_records.specs.Heads.{field_in, side_of}
use Rattle.check_uses.specs.Marks.{Lower, first_use, height_in, used, use_all, highest, entered, marks_of}

-- What is left of the children is one child and the rest of them, or none.
module _ (es ms : List ℕ) (j : ℕ) where
  pub high_next : (h : ℕ) → j < length es → highest (drop j es) ms h ≡ highest (drop (j + 1) es) (used ms (get_or es j 0)) (max h (height_in (get_or ms (get_or es j 0) 0)))
  unfolding highest
  high_next h l = rw (add-one, drop-cons es j 0 l) refl

  pub high_end : (h : ℕ) → length es ≤ j → highest (drop j es) ms h ≡ h
  unfolding highest
  high_end h l = rw (drop_of_length-le es l) refl

pub high_append : (es gs ms : List ℕ) (h : ℕ) → highest (es ++ gs) ms h ≡ highest gs (use_all es ms) (highest es ms h)
unfolding highest
high_append [] gs ms h = refl
high_append (e ∷ es) gs ms h = high_append es gs (used ms e) (max h (height_in (get_or ms e 0)))

-- A mark has the height below what a use adds, so the greatest height is below it too.
pub high_low : (es ms : List ℕ) (h r : ℕ) → r ≡ highest es ms h → h < first_use → r < first_use
unfolding highest
high_low [] ms h r q l = rw q l
high_low (e ∷ es) ms h r q l = high_low es (used ms e) (max h (height_in (get_or ms e 0))) r q (omega arith)

-- The children side by side in the fields fs of a record whose kind has the code x: how many there are, and child j.
module _ (x : ℕ) (fs : List ℕ) where
  pub side_length : length (side_of x fs) ≡ children_in x (length fs)
  side_length = words_length fs (2 * count_of x) (children_in x (length fs))

  pub side_is : (j : ℕ) → j < children_in x (length fs) → field_in fs (count_of x + j) ≡ get_or (side_of x fs) j 0
  side_is j h =
      let e : 2 * (count_of x + j) ≡ 2 * count_of x + 2 * j = omega arith in
      ap (le16 fs) e ∙ sym (words_at fs (2 * count_of x) (children_in x (length fs)) j h)

-- All of two lists are below n.
module _ (n : ℕ) (es gs : List ℕ) (l : Lower n (es ++ gs)) where
  pub lower_first : Lower n es
  lower_first = record { at = λ j h. let z = l.at j (let a = length-append es gs in omega arith) in subst (λ e. e < n) (get_or-append es gs 0 j h) z }

  pub lower_rest : Lower n gs
  lower_rest = record { at = λ j h. let z = l.at (length es + j) (let a = length-append es gs in omega arith) in subst (λ e. e < n) (get_or-append-add es gs j 0) z }

pub below_lower : (n : ℕ) (es : List ℕ) → Below n es → Lower n es
below_lower n es h = record { at = λ j l. below_at n es j h l }

pub lower_up : (n m : ℕ) (es : List ℕ) → n ≤ m → Lower n es → Lower m es
lower_up n m es h l = record { at = λ j k. let z = l.at j k in omega arith }

-- Layouts whose n first terms have the same children have the same marks.
pub marks_same : (L M : Layout) (n : ℕ) → ((k : ℕ) → k < n → children L k ≡ children M k) → marks_of L n ≡ marks_of M n
unfolding marks_of
marks_same L M zero h = refl
marks_same L M (suc n) h = let e = marks_same L M n (λ k l. h k (omega arith)) in ap (λ es. entered es n (marks_of L n)) (h n (omega arith)) ∙ ap (λ ms. entered (children M n) n ms) e
