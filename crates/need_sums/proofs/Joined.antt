-- Numbers of two things, made of theirs one by one.
use Prim.Native.Nat.{ℕ, ◌+◌, max}
use mathlib.Core.Path.{◌≡◌}
use Rattle.image_needs.specs.declared.Needs.{Needs}
use Rattle.need_sums.specs.Sums.{cut, JoinedBy, add_needs, dearer_needs}

module _ {P : ℕ → ℕ → ℕ → Type 0} {a b n : Needs} (J : JoinedBy P a b n) where
  pub sum_of : ((x y r : ℕ) → P x y r → r ≡ cut (x + y)) → n ≡ add_needs a b
  unfolding add_needs
  sum_of h =
      λ i. record {
        steps = h _ _ _ J.steps i;
        bindings = h _ _ _ J.bindings i;
        other_bindings = h _ _ _ J.other_bindings i;
        pieces = h _ _ _ J.pieces i;
        other_pieces = h _ _ _ J.other_pieces i;
        cells = h _ _ _ J.cells i;
        other_cells = h _ _ _ J.other_cells i;
        labels = h _ _ _ J.labels i;
        advice = h _ _ _ J.advice i;
        frames = J.frames i;
        log = h _ _ _ J.log i;
      }

  pub dearer_of : ((x y r : ℕ) → P x y r → r ≡ max x y) → n ≡ dearer_needs a b
  unfolding dearer_needs
  dearer_of h =
      λ i. record {
        steps = h _ _ _ J.steps i;
        bindings = h _ _ _ J.bindings i;
        other_bindings = h _ _ _ J.other_bindings i;
        pieces = h _ _ _ J.pieces i;
        other_pieces = h _ _ _ J.other_pieces i;
        cells = h _ _ _ J.cells i;
        other_cells = h _ _ _ J.other_cells i;
        labels = h _ _ _ J.labels i;
        advice = h _ _ _ J.advice i;
        frames = J.frames i;
        log = h _ _ _ J.log i;
      }
