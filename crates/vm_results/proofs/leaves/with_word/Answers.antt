use mathlib.Core.Path.{sym, ap, ◌∙◌}
use Rattle.vm_results.specs.Gathered.{with_leaf}
use Rattle.vm_results.proofs.Gathering.{word_none, word_leaf}
use Rattle.vm_results.proofs.leaves.with_word.Goals as goal

pub returns-then-tag-gt-NUMBER : goal.returns-then-tag-gt-NUMBER
returns-then-tag-gt-NUMBER c = sym (word_none _ _ c.tag.ensures c.args.held c.if-tag-gt-NUMBER.true)

pub returns : goal.returns
returns c = let a = c.args in c.with_leaf.ensures ∙ ap (with_leaf a.held) c.leaf_of.ensures ∙ sym (word_leaf _ _ c.tag.ensures a.held c.if-tag-gt-NUMBER.false)
