-- By the record's kind.
use Rattle.listing_lines.proofs.Puts.{as_text, puts_nothing}
use Rattle.listing_lines.proofs.Said.{unit_said, truth_said, number_said, no_leaf}
use Rattle.listing_lines.proofs.leaves.put_leaf.Goals as goal

pub returns-in-65 : goal.returns-in-65
returns-in-65 c =
    as_text (unit_said c.args.kind c.args.fields.now c.in-65.is) c.put.ensures

pub returns-in-66 : goal.returns-in-66
returns-in-66 c =
    as_text (truth_said c.args.kind c.args.fields.now _ c.in-66.is c.word.ensures) c.put_truth.ensures

pub returns-in-67 : goal.returns-in-67
returns-in-67 c =
    as_text (number_said c.args.kind c.args.fields.now _ _ _ c.in-67.is c.long.ensures c.word-in-67.ensures c.word-in-67-2.ensures) c.put_number.ensures

pub returns-in_default : goal.returns-in_default
returns-in_default c = as_text (no_leaf c.args.kind c.args.fields.now c.in_default.in_default-own.rest.0.0.1 c.in_default.in_default-own.rest.0.1 c.in_default.in_default-own.rest.1) (puts_nothing _ _)
