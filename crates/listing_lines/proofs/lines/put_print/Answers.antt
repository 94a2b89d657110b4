-- A record of the log, or another.
use Rattle.listing_lines.proofs.Puts.{as_text, puts_nothing}
use Rattle.listing_lines.proofs.Said.{print_said, no_print}
use Rattle.listing_lines.proofs.lines.put_print.Goals as goal

pub returns-then-kind-ne-LOG : goal.returns-then-kind-ne-LOG
returns-then-kind-ne-LOG c = as_text (no_print c.args.kind c.args.fields.now c.if-kind-ne-LOG.true) (puts_nothing _ _)

pub returns : goal.returns
returns c =
    as_text (print_said c.args.kind c.args.fields.now _ _ _ _ c.if-kind-ne-LOG.false c.word.ensures c.long.ensures c.word-2.ensures c.word-3.ensures) c.put_printed.ensures
