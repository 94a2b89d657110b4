-- A test at every number below a bound: it holds further, or it does not.
use Prim.Native.Nat.{ℕ, ◌+◌, ◌<◌}
use native.Mathlib.Numerals.{add-one}
use mathlib.Core.Path.{◌≡◌, refl, sym, ap, ◌∙◌}
use mathlib.Core.Bool.{Bool, true, false, not, ◌&&◌}
use mathlib.Core.List.{List}
use lib.ListN.{get_or}
use lib.Dec.{eqb}
use Rattle.laws.specs.Tests.{all_below}
use Rattle.laws.proofs.Booleans.{no_path, and_i}
use Rattle.laws.proofs.Tests.{all_below_lem}
use Rattle.check_repeats.specs.Keys.{new_key}

-- What a loop over the keys has tested so far.
pub new_more : (rs : List ℕ) (k i : ℕ) (b t : Bool) → b ≡ new_key i rs k → t ≡ (b && not (eqb k (get_or rs i 0))) → t ≡ new_key (i + 1) rs k
unfolding all_below
new_more rs k i b t e h = rw (add-one i) (h ∙ ap (λ y. y && not (eqb k (get_or rs i 0))) e)

pub below_more : (ok : ℕ → Bool) (i : ℕ) → all_below i ok ≡ true → ok i ≡ true → all_below (i + 1) ok ≡ true
unfolding all_below
below_more ok i h t = rw (add-one i) (and_i h t)

pub below_not : (ok : ℕ → Bool) (n i : ℕ) → i < n → ok i ≡ false → all_below n ok ≡ false
below_not ok n i l h = go (all_below n ok) refl
  where
    go : (t : Bool) → all_below n ok ≡ t → all_below n ok ≡ false
    go true e = no_path (sym (all_below_lem n ok e i l) ∙ h)
    go false e = e

pub and_no : (a b : Bool) → b ≡ false → false ≡ (a && b)
and_no true b h = sym h
and_no false b h = refl
