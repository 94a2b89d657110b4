-- By the record's kind.
use Rattle.listing_lines.proofs.Puts.{as_text, puts_nothing}
use Rattle.listing_lines.proofs.Said.{plain_said, other_said, no_cell}
use Rattle.listing_lines.proofs.lines.put_cell.Goals as goal

pub returns-in-68 : goal.returns-in-68
returns-in-68 c =
    as_text (plain_said c.args.kind c.args.fields.now _ _ c.in-68.is c.word.ensures c.behind.ensures) c.put_plain_cell.ensures

pub returns-in-69 : goal.returns-in-69
returns-in-69 c =
    as_text (other_said c.args.kind c.args.fields.now _ c.in-69.is c.word-in-69.ensures) c.put_other_cell.ensures

pub returns-in_default : goal.returns-in_default
returns-in_default c = as_text (no_cell c.args.kind c.args.fields.now c.in_default.in_default-own.rest.0.1 c.in_default.in_default-own.rest.1) (puts_nothing _ _)
