-- `check_uses::uses::all_once` meets its contract: so far each test holds, or one does not.
use mathlib.Core.Path.{◌≡◌, refl, ap, ◌∙◌}
use mathlib.Core.Bool.{◌&&◌}
use Rattle.check_uses.specs.Marks.{is_once}
use Rattle.laws.specs.Tests.{all_below}
use Rattle.check_uses.proofs.Below.{below_more}
use borrow.Author.Rules.{rules}
use Rattle.check_uses.proofs.uses.all_once.Goals as goal

pub loop-i-init : goal.loop-i-init
unfolding all_below
loop-i-init c = refl

pub loop-i-preserved : goal.loop-i-preserved
loop-i-preserved c =
    let l = c.loop-i in
    below_more l.i _ l.ok _ l.invariant (ap (λ t. l.ok && t) (c.is_once-ok.ensures ∙ ap is_once c.mark_of.ensures))

pub returns : goal.returns
returns c =
    let l = c.loop-i in
    let e : l.i ≡ c.args.root.0 = search rules in
    rw e at l.invariant
