-- `numerals::number_of` meets its contract.
use Rattle.std.proofs.Common.{arith, sym, ◌∙◌, Some}
use Rattle.numerals.proofs.Digits.{one_more, none_more, no_more}
use Rattle.numerals.proofs.number_of.Goals as goal

-- src/lib.rt:27:16
pub returns-in_err-said : goal.returns-in_err-said
returns-in_err-said c = c.from_residual.ensures ∙ sym (c.loop-byte.invariant ∙ none_more c.args.most c.args.digits.now c.loop-byte.said c.loop-byte.byte-index (omega arith) c.in_err-said.ensures)

-- src/lib.rt:26:5
pub loop-byte-preserved : goal.loop-byte-preserved
loop-byte-preserved c = c.loop-byte.invariant ∙ one_more c.args.most c.args.digits.now c.loop-byte.said c.loop-byte.byte-index (omega arith) _ c.in_ok-said.ensures

-- src/lib.rt:19:1
pub returns : goal.returns
returns c = sym (c.loop-byte.invariant ∙ no_more c.args.most c.args.digits.now (Some c.loop-byte.said) c.loop-byte.byte-index (omega arith))
