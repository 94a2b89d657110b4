use Rattle.listing_lines.proofs.Sizes.{size_short, size_past, size_whole}
use borrow.Author.Rules.{rules}
use Rattle.listing_lines.proofs.offsets.size_at.Goals as goal
use Rattle.listing_lines.proofs.offsets.size_at.Goals.{then-size-lt4-via-then-size-lt4, then-size-lt4-via-else-size-lt4+then-s-at}

pub returns : goal.returns
returns c = size_whole _ _ _ c.word-size.ensures (search rules) (search rules)

pub returns-then-size-lt4 : goal.returns-then-size-lt4
returns-then-size-lt4 c =
    elim c.then-size-lt4.branch [
      | then-size-lt4-via-then-size-lt4 w ↦ size_short _ _ _ c.word-size.ensures (search rules)
      | then-size-lt4-via-else-size-lt4+then-s-at w ↦ size_past _ _ _ c.word-size.ensures (search rules) (search rules)
    ]
