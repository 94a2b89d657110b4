-- A term and those below it, written anew behind what has been written (document 02, card 11: "a walk from the root that writes each term after its children, left to right").
use Rattle.std.specs.Prelude.{ℕ, ◌+◌, ◌≤◌, ◌≡◌, List, length}
use Rattle.calculus.specs.Syntax.{Ty}
use Rattle.image.specs.Limits.{term_limit}
use Rattle.image.specs.Layout.{records_of}
use Rattle.base_bytes.specs.Bytes.{over}
use Rattle.image_written.specs.Records.{image}
use Rattle.image_written.specs.Written.{terms, term_records}
use Rattle.image_written.proofs.Writable.{Formed}
use Rattle.image_written.proofs.Sums.{weight}
use Rattle.image_written.proofs.Sizes.{term_size}
use Rattle.image_written.proofs.Fronts.{tree_at}
use Rattle.write_types.specs.Entries.{Placed}
use Rattle.write_records.specs.declared.Done.{Done}

-- How far the output is written behind term e of the image b, where it was written up to d before: its records have the known fields alone, so their length does not depend on any number in them.
abbrev pub behind : List ℕ → ℕ → Done → Done
behind b e d = record { at = d.at + weight term_size (tree_at (records_of b) e); terms = d.terms + terms (tree_at (records_of b) e) }

-- An output of n bytes has room for it, and an image for its terms.
pub record Capacity (b : List ℕ) (e : ℕ) (d : Done) (n : ℕ) : Type 0 where
  pub bytes : (behind b e d).at ≤ n
  pub terms : (behind b e d).terms ≤ term_limit

-- out' is the output out with term e written behind d, over every table of types that has its types at the lent places.
pub record Wrote (b places : List ℕ) (e : ℕ) (d : Done) (out out' : List ℕ) : Type 0 where
  pub over_table : (T : List Ty) → Placed b places T → Formed (length (records_of b).domains) T (tree_at (records_of b) e) → out' ≡ over d.at (image (term_records T d.terms (tree_at (records_of b) e))) out
