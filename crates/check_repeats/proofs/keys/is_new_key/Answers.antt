-- `check_repeats::keys::is_new_key` meets its contract: so far no key is the same, or one is.
use mathlib.Core.Path.{◌≡◌, refl}
use Rattle.laws.specs.Tests.{all_below}
use Rattle.check_repeats.proofs.Below.{new_more}
use borrow.Author.Rules.{rules}
use Rattle.check_repeats.proofs.keys.is_new_key.Goals as goal

pub loop-i-init : goal.loop-i-init
unfolding all_below
loop-i-init c = refl

pub loop-i-preserved : goal.loop-i-preserved
loop-i-preserved c =
    let a = c.args in
    new_more a.filter.now a.key c.loop-i.i c.loop-i.new _ c.loop-i.invariant refl

pub returns : goal.returns
returns c =
    let l = c.loop-i in
    let e : l.i ≡ c.args.t.0 = search rules in
    rw e at l.invariant
