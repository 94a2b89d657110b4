-- The entries of a match (card 6), one after another, as a loop over its fields takes them.
use Prim.Native.Nat.{ℕ, suc, ◌+◌, ◌-◌, ◌*◌, ◌≤◌, ◌<◌}
use native.Mathlib.Omega.{arith}
use mathlib.Core.Path.{◌≡◌, sym, ap, ◌∙◌}
use mathlib.Core.List.{List, [], ◌++◌}
use Rattle.image.specs.Bytes.{words}
use Rattle.image.specs.Kinds.{an_entry}
use Rattle.image.specs.Records.{as_child}
use Rattle.read_records.specs.Heads.{field_in, entries_from}

-- Of n entries, the first of which is field f, what those from entry j on give.
abbrev pub entries_left : List ℕ → ℕ → ℕ → ℕ → List ℕ
entries_left fs f n j = entries_from fs (2 * (f + j)) (n - j)

module _ (fs : List ℕ) (f n : ℕ) where
  pub all_left : entries_from fs (2 * f) n ≡ entries_left fs f n 0
  all_left =
      let p : 2 * f ≡ 2 * (f + 0) = omega arith in
      let m : n ≡ n - 0 = omega arith in
      ap (λ q. entries_from fs q n) p ∙ ap (entries_from fs (2 * (f + 0))) m

  -- Entry j has the number v.
  pub next_left : (j v : ℕ) → j < n → v ≡ field_in fs (f + j) → entries_left fs f n j ≡ as_child an_entry v ++ entries_left fs f n (j + 1)
  unfolding words
  next_left j v h e =
      let m : n - j ≡ suc (n - (j + 1)) = omega arith in
      let q : 2 * (f + j) + 2 ≡ 2 * (f + (j + 1)) = omega arith in
      ap (entries_from fs (2 * (f + j))) m
      ∙ (ap (λ o. as_child an_entry (field_in fs (f + j)) ++ entries_from fs o (n - (j + 1))) q ∙ ap (λ u. as_child an_entry u ++ entries_left fs f n (j + 1)) (sym e))

  pub none_left : (j : ℕ) → n ≤ j → entries_left fs f n j ≡ []
  none_left j h = let e : n - j ≡ 0 = omega arith in ap (entries_from fs (2 * (f + j))) e
