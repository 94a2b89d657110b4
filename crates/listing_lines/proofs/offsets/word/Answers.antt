use mathlib.Core.Path.{◌∙◌}
use Rattle.listing_lines.proofs.Sizes.{word_two, word_one, word_none}
use borrow.Author.Rules.{rules}
use Rattle.listing_lines.proofs.offsets.word.Goals as goal

pub returns-then-next-s : goal.returns-then-next-s
returns-then-next-s c = c.join.ensures ∙ word_two _ _ (search rules)

pub returns-then-at-s : goal.returns-then-at-s
returns-then-at-s c = c.join-then-at-s.ensures ∙ word_one _ _ (search rules) (search rules)

pub returns : goal.returns
returns c = word_none _ _ (search rules)
