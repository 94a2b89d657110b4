-- What the argument says is at most so much.
use Rattle.std.proofs.Common.{sym, subst, take}
use Rattle.numerals.specs.Numerals.{AtMost}
use Rattle.numerals.proofs.Digits.{at_most}
use Rattle.console.proofs.argument.Goals as goal

-- src/lib.rt:100:1
pub returns : goal.returns
returns g c = subst (AtMost c.args.most) (sym c.number_of.ensures) (at_most c.args.most (take c.in_ok-length.length c.arg.new.buf))
