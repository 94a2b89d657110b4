-- Tables of pieces (document 02, card 10). A stack takes a piece for each value kept around it (card 6), so what all advice takes at a mark depends on how many are kept there, in pieces alone. A table has a row for each such number: row k of the mainline's half (card 9) at k, of the others' behind all of these.
use Rattle.std.specs.Prelude.{ℕ, ◌+◌, ◌-◌, ◌*◌, ◌≤◌, ◌<◌, ◌≡◌, Bool, true, false, List, get_or, eqb, ltb}
use Rattle.calculus.specs.Combinators.{choose}
use Rattle.image.specs.Limits.{depth_limit}
use Rattle.image_needs.specs.declared.Needs.{Needs}
use Rattle.need_sums.specs.declared.shapes.Own.{Own}
use Rattle.need_sums.specs.declared.positions.Mode.{Mode}
use Rattle.need_sums.specs.declared.positions.Position.{Position}
use Rattle.need_sums.specs.Sums.{cut}

-- Fewer values are kept around a term than it is deep.
abbrev pub row_count : ℕ
row_count = depth_limit

abbrev pub table_length : ℕ
table_length = 2 * row_count

-- What all advice takes at a mark with k values kept around it; w has all numbers but the pieces.
unfoldable pub at_mark : Needs → List ℕ → ℕ → Needs
at_mark w rows k = record {
  steps = w.steps;
  bindings = w.bindings;
  other_bindings = w.other_bindings;
  pieces = cut (get_or rows k 0);
  other_pieces = cut (get_or rows (row_count + k) 0);
  cells = w.cells;
  other_cells = w.other_cells;
  labels = w.labels;
  advice = w.advice;
  frames = w.frames;
  log = w.log;
}

-- Places a to z of a table are changed, by a function of place and number; all others stay.
pub record Changed (g : ℕ → ℕ → ℕ) (a z : ℕ) (before after : List ℕ) : Type 0 where
  pub within : (x : ℕ) → a ≤ x → x < z → get_or after x 0 ≡ g x (get_or before x 0)
  pub below : (x : ℕ) → x < a → get_or after x 0 ≡ get_or before x 0
  pub above : (x : ℕ) → z ≤ x → get_or after x 0 ≡ get_or before x 0

-- What a term's own reduction takes of pieces, with k values kept around it.
abbrev pub pieces_of : Own → ℕ → ℕ
pieces_of Own.Nothing k = 0
pieces_of Own.Step k = 0
pieces_of Own.Label k = 0
pieces_of Own.Print k = 0
pieces_of Own.Advice k = 0
pieces_of Own.Cell k = 0
pieces_of Own.Piece k = 1
pieces_of Own.Advised k = 1
pieces_of Own.Binding k = 0
pieces_of Own.TwoBindings k = 0
pieces_of Own.Stack k = k
pieces_of Own.Mark k = 0

-- A term runs in the body of an advice.
abbrev pub in_body : Mode → Bool
in_body Mode.Skip = false
in_body Mode.Program = false
in_body Mode.Body = true
in_body Mode.AllAdvice = false
in_body Mode.InstalledAdvice = false

-- The same at a place of a table, charged to one half: in row i there are i values more around the mark.
abbrev pub quota_pieces : Bool → Own → ℕ → ℕ → ℕ
quota_pieces main o k x = choose (ltb x row_count) (choose main (pieces_of o (x + k)) 0) (choose main 0 (pieces_of o (x - row_count + k)))

abbrev pub own_pieces : Own → Position → ℕ → ℕ
own_pieces o s x = choose (in_body s.mode) (quota_pieces (eqb s.dom.0 0) o s.kept x) 0

-- A table with numbers added to its places. Sums stop at the largest number.
abbrev pub Summed : (ℕ → ℕ) → List ℕ → List ℕ → Type 0
Summed h before after = (x : ℕ) → x < table_length → cut (get_or after x 0) ≡ cut (get_or before x 0 + h x)
