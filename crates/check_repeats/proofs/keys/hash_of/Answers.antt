-- `check_repeats::keys::hash_of` meets its contract: so far it is the hash of the fields before the next.
use Prim.Native.Nat.{◌/◌}
use mathlib.Core.Path.{◌≡◌, refl, ◌∙◌}
use lib.ListN.{length}
use native.Mathlib.Numerals.{add-one}
use Rattle.check_repeats.specs.Keys.{hash_to}
use borrow.Author.Rules.{rules}
use Rattle.check_repeats.proofs.keys.hash_of.Goals as goal

pub loop-i-init : goal.loop-i-init
unfolding hash_to
loop-i-init c = refl

pub loop-i-preserved : goal.loop-i-preserved
unfolding hash_to
loop-i-preserved c =
    let l = c.loop-i in
    rw (add-one l.i) (c.mix-hash.ensures ∙ rw (l.invariant, c.field.ensures))

pub returns : goal.returns
returns c =
    let l = c.loop-i in
    let e : l.i ≡ length c.args.fields.now / 2 = search rules in
    rw e at l.invariant
