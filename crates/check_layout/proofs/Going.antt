-- The walk over an image: what is left of it is the whole of it.
use Prim.Native.Nat.{ℕ, zero, suc, ◌+◌, ◌-◌, ◌≤◌, ◌<◌}
use native.Mathlib.Omega.{arith}
use mathlib.Core.Path.{◌≡◌, refl, ap, ◌∙◌}
use mathlib.Core.Bool.{false}
use mathlib.Core.List.{List}
use mathlib.Core.Option.{Option, none, some}
use lib.ListN.{length}
use borrow.Author.Tests.{ne_eqb}
use Rattle.image.specs.declared.Refusal.{Refusal}
use Rattle.laws.specs.Tests.{first_fault}
use Rattle.image.specs.Bytes.{length_at}
use Rattle.image.specs.Records.{Layout, kind_at}
use Rattle.image.specs.Layout.{nothing, framed, tests, add, stopped, laid, walk, layout}
use Rattle.laws.proofs.Booleans.{no_path}
use Rattle.image.proofs.LaidOut.{walk_end}
use Rattle.check_layout.specs.Tables.{entering}

-- The walk from o on, the records before it being L's, has fuel for the rest, and ends as the layout does.
pub record Going (b : List ℕ) (o : ℕ) (L : Layout) : Type 0 where
  pub fuel : ℕ
  pub enough : length b - o ≤ fuel
  pub rest : layout b ≡ walk fuel o L

pub going_start : (b : List ℕ) → Going b 0 (nothing b)
unfolding layout
going_start b = record { fuel = length b; enough = omega arith; rest = refl }

-- At a record that is refused; at one that is not.
walk_stop : (f o : ℕ) (L : Layout) (r : Refusal) → o < length L.image → first_fault (tests L o) ≡ some r → walk (suc f) o L ≡ stopped r o
unfolding walk
walk_stop f o L r l h = rw (ne_eqb o (length L.image) (λ e. omega arith), h, walk)

walk_on : (f o : ℕ) (L : Layout) → o < length L.image → first_fault (tests L o) ≡ none → walk (suc f) o L ≡ walk f (o + length_at L.image o) (add (kind_at L.image o) o L)
unfolding walk
walk_on f o L l h = rw (ne_eqb o (length L.image) (λ e. omega arith), h, walk)

module _ (o : ℕ) (L : Layout) where
  pub going_end : Going L.image o L → o ≡ length L.image → layout L.image ≡ laid L
  going_end G e = G.rest ∙ walk_end G.fuel o L e

  pub going_stop : Going L.image o L → o < length L.image → (r : Refusal) → first_fault (tests L o) ≡ some r → layout L.image ≡ stopped r o
  going_stop G l r h = go G.fuel refl
    where
      go : (f : ℕ) → G.fuel ≡ f → layout L.image ≡ stopped r o
      go zero e = let z = G.enough in absurd (omega arith)
      go (suc f) e = G.rest ∙ (ap (λ g. walk g o L) e ∙ walk_stop f o L r l h)

  pub going_on : Going L.image o L → o < length L.image → 4 ≤ length_at L.image o → first_fault (tests L o) ≡ none
      → Going L.image (o + length_at L.image o) (add (kind_at L.image o) o L)
  going_on G l m h = go G.fuel refl
    where
      go : (f : ℕ) → G.fuel ≡ f → Going L.image (o + length_at L.image o) (add (kind_at L.image o) o L)
      go zero e = let z = G.enough in absurd (omega arith)
      go (suc f) e = let z = G.enough in record { fuel = f; enough = omega arith; rest = G.rest ∙ (ap (λ g. walk g o L) e ∙ walk_on f o L l h) }

  -- 2
  pub broken : framed L.image o ≡ false → first_fault (tests L o) ≡ some Refusal.BrokenRecord
  unfolding tests first_fault
  broken h = rw h

-- What the answer to a record tells.
pub told_fault : (r : Refusal) (q : Option Refusal) (o : ℕ) (M : Layout) → stopped r o ≡ entering q o M → q ≡ some r
told_fault r none o M h = no_path cc
told_fault r (some w) o M h = cc

pub told_none : (q : Option Refusal) (o : ℕ) (M N : Layout) → laid M ≡ entering q o N → (q ≡ none) × (M ≡ N)
told_none none o M N h = (refl, cc)
told_none (some w) o M N h = no_path cc
