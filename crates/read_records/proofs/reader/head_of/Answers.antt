-- `read_records::reader::head_of` meets its contract: each answer is the definition's.
use native.Mathlib.Omega.{arith}
use mathlib.Core.Path.{◌∙◌}
use Rattle.read_records.proofs.Heads.{cut_off, too_short, too_long, whole}
use Rattle.read_records.proofs.reader.head_of.Goals as goal

pub returns-then-image-at-lt4 : goal.returns-then-image-at-lt4
returns-then-image-at-lt4 c = let a = c.args in cut_off a.image.now a.at c.if-image-at.false c.if-image-at-lt4.true

pub returns-then-len-lt4 : goal.returns-then-len-lt4
returns-then-len-lt4 c = let a = c.args in too_short a.image.now a.at c.if-image-at-lt4.false (omega (arith, (c.from-len.ensures ∙ c.word.ensures)))

pub returns-then-image-at-2 : goal.returns-then-image-at-2
returns-then-image-at-2 c =
    let a = c.args in
    too_long a.image.now a.at c.if-image-at-lt4.false (omega (arith, (c.from-len.ensures ∙ c.word.ensures))) (omega (arith, (c.from-len.ensures ∙ c.word.ensures)))

pub returns : goal.returns
returns c =
    let a = c.args in
    let h = whole a.image.now a.at c.if-image-at-lt4.false (omega (arith, (c.from-len.ensures ∙ c.word.ensures))) (omega (arith, (c.from-len.ensures ∙ c.word.ensures))) in
    simp ((c.from-len.ensures ∙ c.word.ensures), c.word-kind.ensures) h
