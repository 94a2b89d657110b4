-- The fuel that the definitions recurse on is enough: with more, each answers the same.
use Prim.Native.Nat.{ℕ, zero, suc, ◌+◌, ◌≤◌, ◌<◌}
use native.Mathlib.Omega.{arith}
use mathlib.Core.Path.{◌≡◌, refl, sym}
use mathlib.Core.Bool.{Bool, true, false}
use mathlib.Core.List.{List, [], ◌∷◌}
use mathlib.Core.Option.{Option, none, some}
use lib.ListN.{length}
use lib.Dec.{eqb}
use Rattle.image.specs.declared.Refusal.{Refusal}
use Rattle.image.specs.Bytes.{length_at}
use Rattle.image.specs.Records.{Layout, kind_at}
use Rattle.image.specs.Layout.{framed, tests, add, walk}
use Rattle.laws.specs.Tests.{first_fault}
use Rattle.image.specs.Types.{children}
use Rattle.image.specs.Program.{subtrees, tree}
use Rattle.laws.proofs.Booleans.{le_of, by_test}
use Rattle.laws.proofs.Tests.{each, passed}
use Rattle.image.proofs.Laid.{Below, LayoutOk, same_image}

-- A record that passes has 4 bytes or more, inside the image.
passed_size : (L : Layout) (o : ℕ) → first_fault (tests L o) ≡ none → (4 ≤ length_at L.image o) × (o + length_at L.image o ≤ length L.image)
unfolding tests
passed_size L o h = let f = each _ (passed _ _ _ h).0 in (le_of f.1.0, le_of f.1.1.0)

-- Past the end there is no record.
past_end : (L : Layout) (o : ℕ) → length L.image ≤ o → first_fault (tests L o) ≡ some Refusal.BrokenRecord
unfolding tests first_fault
past_end L o h = by_test (framed L.image o)
    (λ e. let x : o + 4 ≤ length L.image = le_of (each _ e).0 in absurd (omega arith))
    λ e. rw (e, first_fault, tests) refl

pub walk_fuel : (f g o : ℕ) (L : Layout) → length L.image ≤ o + f → length L.image ≤ o + g → walk f o L ≡ walk g o L
unfolding walk
walk_fuel zero zero o L l m = refl
walk_fuel zero (suc g) o L l m = by_test (eqb o (length L.image))
    (λ e. rw (e, walk) refl)
    λ e. let p : first_fault (tests L o) ≡ some Refusal.BrokenRecord = past_end L o (omega arith) in rw (e, p, walk) refl
walk_fuel (suc f) zero o L l m = by_test (eqb o (length L.image))
    (λ e. rw (e, walk) refl)
    λ e. let p : first_fault (tests L o) ≡ some Refusal.BrokenRecord = past_end L o (omega arith) in rw (e, p, walk) refl
walk_fuel (suc f) (suc g) o L l m = go (λ p K x y. walk_fuel f g p K x y) (eqb o (length L.image)) refl
  where
    Next : Type 0
    Next = (p : ℕ) (K : Layout) → length K.image ≤ p + f → length K.image ≤ p + g → walk f p K ≡ walk g p K

    M : Layout
    M = add (kind_at L.image o) o L

    read : Next → eqb o (length L.image) ≡ false → (x : Option Refusal) → first_fault (tests L o) ≡ x → walk (suc f) o L ≡ walk (suc g) o L
    read next e (some r) q = rw (e, q, walk) refl
    read next e none q =
        let s = (passed_size L o q).0 in
        let i : L.image ≡ M.image = sym (same_image L o (kind_at L.image o)) in
        rw (e, q, walk) (next (o + length_at L.image o) M (rw (← i) (omega arith)) (rw (← i) (omega arith)))

    go : Next → (t : Bool) → eqb o (length L.image) ≡ t → walk (suc f) o L ≡ walk (suc g) o L
    go next true e = rw (e, walk) refl
    go next false e = read next e (first_fault (tests L o)) refl

module _ (L : Layout) (good : LayoutOk L) where
  trees_cong : (f g m : ℕ) → ((e : ℕ) → e < m → tree L f e ≡ tree L g e) → (es : List ℕ) → Below m es → subtrees (λ e. tree L f e) es ≡ subtrees (λ e. tree L g e) es
  trees_cong f g m h [] b = refl
  trees_cong f g m h (e ∷ es) b = let x = h e b.0 in let y = trees_cong f g m h es b.1 in cc

  pub tree_fuel : (f g n : ℕ) → n < f → n < g → n < length L.terms → tree L f n ≡ tree L g n
  unfolding tree
  tree_fuel zero g n l m t = absurd (omega arith)
  tree_fuel (suc f) zero n l m t = absurd (omega arith)
  tree_fuel (suc f) (suc g) n l m t =
      let x = trees_cong f g n (λ e h. tree_fuel f g e (omega arith) (omega arith) (omega arith)) (children L n) (good.terms n t).below in
      cc
