-- Laws of the frame.
use Prim.Native.Nat.{ℕ, ◌+◌, ◌≤◌, ◌<◌}
use native.Mathlib.Omega.{arith}
use native.Mathlib.Numerals.{add-one}
use mathlib.Core.Path.{◌≡◌, sym, ap, ◌∙◌}
use mathlib.Core.List.{List}
use lib.ListN.{length, take, set}
use lib.Seq.{take_all, take-suc-set}
use Rattle.listing.specs.Conformance.{up_to}

-- One byte more.
pub frame_more : (frame : List ℕ) (i : ℕ) → i < length frame → take i frame ≡ up_to i → take (i + 1) (set frame i i) ≡ up_to (i + 1)
unfolding up_to
frame_more frame i h e = rw (add-one, take-suc-set frame i i h, e)

-- All bytes.
pub frame_all : (frame : List ℕ) (n i : ℕ) → length frame ≡ n → i ≤ n → n ≤ i → take i frame ≡ up_to i → frame ≡ up_to n
frame_all frame n i l h k e =
    let s : i ≡ n = omega arith in
    sym (take_all i frame (omega arith)) ∙ e ∙ ap up_to s
