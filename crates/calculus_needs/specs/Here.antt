-- Where a term of the tree stands: the current domain, how many unfinished terms enclose it, and how many values are kept around it (card 6). This is what the tree knows of a place in a run.
use Rattle.std.specs.Prelude.{ℕ, suc, length}
use Rattle.calculus.specs.Syntax.{Dom}
use Rattle.calculus.specs.Place.{Place}

pub record Here : Type 0 where
  pub dom : Dom
  pub depth : ℕ
  pub kept : ℕ

abbrev pub here : Place → Here
here P = record { dom = P.dom; depth = P.depth; kept = length P.kept }

-- The places of the calculus (calculus's Place), for the tree.
abbrev pub top : Here
top = record { dom = 0; depth = 0; kept = 0 }

abbrev pub at : Dom → Here → Here
at c P = record { dom = c; depth = P.depth; kept = P.kept }

abbrev pub deeper : Here → Here
deeper P = record { dom = P.dom; depth = suc P.depth; kept = P.kept }

abbrev pub keeping : Here → Here
keeping P = record { dom = P.dom; depth = P.depth; kept = suc P.kept }
