-- What the fields of a match hold, read in the part of the image that its word names.
use Prim.Native.Nat.{ℕ, ◌+◌, ◌*◌, ◌%◌, ◌≤◌, ◌<◌}
use native.Mathlib.Omega.{arith}
use mathlib.Core.Path.{◌≡◌, ap, ◌∙◌}
use mathlib.Core.List.{List}
use Rattle.image.specs.Bytes.{le16}
use Rattle.image.proofs.Words.{le16_part}
use Rattle.read_records.specs.Heads.{field_in}
use Rattle.vm_code.specs.Words.{offset_of, count_of, close_place, term_count}
use Rattle.vm_machine.specs.Fetch.{Program}
use Rattle.vm_machine.specs.Stacks.{entry_at}
use Rattle.vm_matches.specs.Matching.{match_fields, entry_in}

module _ (C : Program) (w : ℕ) (fs : List ℕ) (part : fs ≡ match_fields C.image w) where
  field_of : (i : ℕ) → i ≤ 3 + count_of w → field_in fs i ≡ le16 C.image (offset_of w + 2 * i)
  field_of i h = ap (λ ys. field_in ys i) part ∙ le16_part C.image (offset_of w) (2 * (3 + count_of w + 1)) (2 * i) (omega arith)

  -- The term x that one of the first fields names.
  pub term_of : (i x : ℕ) → i < 3 → x ≡ field_in fs i % term_count → x ≡ le16 C.image (offset_of w + 2 * i) % term_count
  term_of i x h k = k ∙ ap (◌% term_count) (field_of i (omega arith))

  -- Entry i, which is e, and the close x behind n entries.
  pub entry_of : (i e : ℕ) → i < count_of w → e ≡ entry_in fs i → e ≡ entry_at C w i
  entry_of i e h k =
      let z : offset_of w + 2 * (3 + i) ≡ offset_of w + 6 + 2 * i = omega arith in
      k ∙ field_of (3 + i) (omega arith) ∙ ap (le16 C.image) z

  pub close_of : (n x : ℕ) → n ≡ count_of w → x ≡ field_in fs (3 + n) → x ≡ le16 C.image (close_place w)
  close_of n x e k =
      let z : offset_of w + 2 * (3 + count_of w) ≡ offset_of w + 6 + 2 * count_of w = omega arith in
      k ∙ ap (λ j. field_in fs (3 + j)) e ∙ field_of (3 + count_of w) (omega arith) ∙ ap (le16 C.image) z
