-- `write_types::enter_one` meets its contract.
use borrow.Author.Rules.{rules}
use mathlib.Core.Path.{◌∙◌}
use Rattle.write_types.proofs.Entering.{told_there, few_types, capacity, one_entered, entries_more}
use Rattle.write_types.proofs.enter_one.Goals as goal

pub overflow_cast-places : goal.overflow_cast-places
overflow_cast-places c =
    let E = c.requires.0 in
    let f = few_types E c.requires.1 c.requires.2 (told_there E c.requires.1 _ c.is_entered.ensures ∙ c.if-is_entered.false) in
    search rules

pub bounds-order-n : goal.bounds-order-n
bounds-order-n c =
    let E = c.requires.0 in
    capacity E c.requires.1 c.requires.2 (told_there E c.requires.1 _ c.is_entered.ensures ∙ c.if-is_entered.false)

pub returns : goal.returns
returns c =
    let E = c.requires.0 in
    let q = told_there E c.requires.1 _ c.is_entered.ensures ∙ c.if-is_entered.false in
    rw c.from.ensures (entries_more E c.requires.1 c.requires.2 q, one_entered E c.requires.1 c.requires.2 q)
