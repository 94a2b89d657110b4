-- By the truth.
use Rattle.listing_lines.proofs.Puts.{as_text}
use Rattle.listing_lines.specs.Lines.{leaf_text}
use Rattle.calculus.specs.declared.Leaf.{Leaf}
use mathlib.Core.Path.{sym, ap}
use Rattle.listing_lines.proofs.leaves.put_truth.Goals as goal

pub returns-then-b : goal.returns-then-b
returns-then-b c = as_text (ap (λ b. leaf_text (Leaf.Truth b)) (sym c.if-b.true)) c.put.ensures

pub returns : goal.returns
returns c = as_text (ap (λ b. leaf_text (Leaf.Truth b)) (sym c.if-b.false)) c.put-2.ensures
