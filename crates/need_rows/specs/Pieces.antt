-- What a term takes of pieces, in each row of a table (document 02, cards 6 and 10): in row i there are i values more around it than where it stands.
use Rattle.std.specs.Prelude.{ℕ, ◌+◌, ◌-◌, Bool, true, false, ltb}
use Rattle.calculus.specs.Combinators.{choose}
use Rattle.calculus_needs.specs.Numbers.{Numbers}
use Rattle.image.specs.Records.{Layout}
use Rattle.image.specs.Types.{root_of}
use Rattle.need_sums.specs.declared.positions.Mode.{Mode}
use Rattle.need_sums.specs.declared.positions.Position.{Position}
use Rattle.need_sums.specs.Rows.{row_count}
use Rattle.need_walk.specs.Counted.{counted, term_at}

-- The same place with i values more kept around it.
abbrev pub keeping_more : ℕ → Position → Position
keeping_more i s = record { mode = s.mode; dom = s.dom; depth = s.depth; kept = i + s.kept }

-- What a term of an image takes in row i.
abbrev pub in_row : Layout → Position → ℕ → ℕ → Numbers
in_row L s n i = counted (term_at L (root_of L)) (keeping_more i s) (term_at L n)

-- The pieces of numbers that depend on the row, at place x of a table.
abbrev pub piece_at : (ℕ → Numbers) → ℕ → ℕ
piece_at f x = choose (ltb x row_count) (f x).used.mainline.pieces (f (x - row_count)).used.others.pieces

-- What is asked concerns advice, not the program itself.
abbrev pub of_advice : Mode → Bool
of_advice Mode.Skip = true
of_advice Mode.Program = false
of_advice Mode.Body = true
of_advice Mode.AllAdvice = true
of_advice Mode.InstalledAdvice = true
