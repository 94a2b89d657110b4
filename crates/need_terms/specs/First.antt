-- The lowest fault of a term and of the terms below it, with no fuel to give (document 02, card 10).
use Rattle.std.specs.Prelude.{ℕ, suc, Bool, get_or}
use Rattle.image.specs.Records.{Layout}
use Rattle.image.specs.Types.{children}
use Rattle.image_needs.specs.Faults.{lowest}

-- The number of the first child; 0 where there is none.
abbrev pub first_child : Layout → ℕ → ℕ
first_child L n = get_or (children L n) 0 0

unfoldable pub lowest_at : Layout → Bool → ℕ → ℕ
lowest_at L m n = lowest L (suc n) m n
