-- An image that is laid out can be written anew (document 02, card 11) into an output of n bytes: it has a program, which is not too large, and the output has room.
use Rattle.std.specs.Prelude.{ℕ, ◌≤◌, ◌<◌, List, length}
use Rattle.image.specs.Limits.{term_limit}
use Rattle.image.specs.Layout.{records_of}
use Rattle.image.specs.Program.{program}
use Rattle.image_written.specs.Written.{terms, fixed}

pub record Fits (b : List ℕ) (n : ℕ) : Type 0 where
  pub has_terms : 0 < length (records_of b).terms
  pub few_terms : terms (program (records_of b)) ≤ term_limit
  pub capacity : length (fixed b) ≤ n
