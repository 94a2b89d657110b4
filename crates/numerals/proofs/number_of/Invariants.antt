use Rattle.std.proofs.Common.{drop, ◌≡◌, Some}
use Rattle.numerals.specs.Numerals.{after_all, numeral}
use Rattle.numerals.proofs.number_of.Given as goal

abbrev pub invariant-loop-byte : goal.invariant-loop-byte
invariant-loop-byte l = numeral l.most l.digits ≡ after_all l.most (Some l.said) (drop l.byte-index l.digits)
