-- Text put into a lent buffer.
use Rattle.std.specs.Prelude.{ℕ, ◌+◌, ◌-◌, ◌≤◌, ◌≡◌, List, length, take}
use Rattle.base_bytes.specs.Bytes.{over}

-- What of a text fits into the buffer xs from offset o on.
abbrev pub fitting : List ℕ → ℕ → List ℕ → List ℕ
fitting xs o text = take (length xs - o) text

-- The text is put into xs from offset o on, as far as it fits: ys is what the buffer then holds, and end the offset past the text.
pub record Puts (xs : List ℕ) (o : ℕ) (text ys : List ℕ) (end : ℕ) : Type 0 where
  pub bytes : ys ≡ over o (fitting xs o text) xs
  pub past : end ≡ o + length (fitting xs o text)

-- The first n bytes of ys, as they can be lent on.
pub record Front (n : ℕ) (ys : List ℕ) : Type 0 where
  pub within : n ≤ length ys
  pub size : n ≡ length (take n ys)

-- The text is put so from the front on, and is no longer than a limit: a buffer of that length holds it whole.
pub record PutsWithin (limit : ℕ) (xs text ys : List ℕ) (end : ℕ) : Type 0 where
  pub put : Puts xs 0 text ys end
  pub short : length text ≤ limit
  pub front : Front end ys
