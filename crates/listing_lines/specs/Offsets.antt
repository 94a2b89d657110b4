-- Records of log and report by their offset.
use Rattle.std.specs.Prelude.{ℕ, List, [], drop}
use Rattle.std.proofs.Math.Option.{Option, none, some}
use Rattle.calculus.specs.Combinators.{choose}
use Rattle.base_bytes.specs.Records.{Record}
use Rattle.report.specs.Records.{length_of, is_whole}
use Rattle.report.specs.Read.{print_in, leaf_in, cell_in_of}
use Rattle.listing_lines.specs.Lines.{print_line, leaf_text, cell_line}

-- The length of the record at an offset, or 0 where no whole record stands.
abbrev pub size_at : List ℕ → ℕ → ℕ
size_at b o = choose (is_whole (drop o b)) (length_of (drop o b)) 0

-- The text of what a record says, if it says anything.
abbrev pub text_if : {A : Type 0} → (A → List ℕ) → Option A → List ℕ
text_if f none = []
text_if f (some a) = f a

-- The text of one record: of a print, of a leaf, of a cell; none of a record of another kind.
abbrev pub print_text_in : Record → List ℕ
print_text_in r = text_if print_line (print_in r)

abbrev pub leaf_text_in : Record → List ℕ
leaf_text_in r = text_if leaf_text (leaf_in r)

abbrev pub cell_text_in : Record → List ℕ
cell_text_in r = text_if cell_line (cell_in_of r)
